use Rattle.std.proofs.Common.{◌≡◌, ℕ, ◌+◌, List, ◌++◌, map, string_bytes, Option, sym, refl, ap, ◌∙◌, append-nil}
use Rattle.std.specs.Iterator.Adapters.{enumerate_count, enumerate_source}
use Rattle.std.proofs.lemmas.Slice.{pushed}
use Rattle.terms.specs.declared.calls.Call.{Call}
use Rattle.words.specs.Parts.{lines}
use Rattle.instructions.specs.Answers.{reply_text}
use Rattle.book.specs.declared.runs.Entry.{Entry}
use Rattle.desk.specs.Plan.{left_by, open_on, put_by, reply_by, told}
use Rattle.desk.proofs.Onward.{told_next}
use Rattle.desk.proofs.replies.reply_all.Goals as goal

pub loop-i-preserved : goal.loop-i-preserved
loop-i-preserved c =
    let day = c.loop-i.day in
    let asked = c.of-turn.result.asked in
    let before = c.of-turn.ensures.before in
    let opened : c.leaves-day.result ≡ open_on day asked = c.leaves-day.ensures ∙ ap (λ (d : Option ℕ). open_on d asked) before in
    let put : put_by c.of-turn.result.day asked ≡ put_by day asked = ap (λ (d : Option ℕ). put_by d asked) before in
    let step = c.in-Some.ensures.steps in
    let n = enumerate_count c.loop-i.i-iterator + 1 in
    let out = string_bytes c.loop-i.out in
    let vs = map (λ (e : Entry). e.answer) c.loop-i.left.rest.now in
    let us = map (λ (e : Entry). e.answer) c.reply.new.entries.rest.now in
    let rest = lines (enumerate_source c.next.new.self).rest.now in
    let said : c.reply.result ≡ reply_by day asked vs = c.reply.ensures.said ∙ ap (λ (d : Option ℕ). reply_by d asked vs) before in
    let told-reply = c.as_str.ensures.value ∙ c.in_ok-reply.ensures ∙ (λ i. reply_text (step.1 i + 1) (said i)) in
    let more = pushed c.as_str.result.now refl c.in_ok-push_str.was c.push_str.ensures.bytes ∙ ap (λ (t : List ℕ). out ++ t) told-reply in
    let left : us ≡ left_by (put_by day asked) vs = c.reply.ensures.left ∙ ap (λ (o : Option Call). left_by o vs) put in (
      (c.in-Some.ensures.goes.on tt).0,
      tt,
      ap (λ k. string_bytes c.push_str.new.self ++ told (k + 1) c.leaves-day.result us rest) step.2
          ∙ told_next day c.leaves-day.result asked (lines (enumerate_source c.loop-i.i-iterator).rest.now) rest c.in-Some.line.now
          step.0 c.of-turn.ensures.asks opened
          n _ out (string_bytes c.push_str.new.self) vs us more left c.loop-i.invariant.2,
    )

pub returns : goal.returns
returns c =
    let out = string_bytes c.loop-i.out in
    sym (append-nil out)
    ∙ ap (λ (ls : List (List ℕ)). out ++ told (enumerate_count c.loop-i.i-iterator + 1) c.loop-i.day (map (λ (e : Entry). e.answer) c.loop-i.left.rest.now) ls) (sym c.in-None.ensures.steps.0.0)
    ∙ c.loop-i.invariant.2
