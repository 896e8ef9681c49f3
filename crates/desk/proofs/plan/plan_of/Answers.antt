use Rattle.std.proofs.Common.{◌≡◌, ℕ, List, ◌++◌, vec_items, Option, sym, refl, ap, ◌∙◌, append-nil}
use Rattle.std.specs.Option.{option_to_list}
use Rattle.std.proofs.lemmas.Iterator.Adapters.{items_from_extend, YieldsList-from_once}
use Rattle.terms.specs.declared.calls.Call.{Call}
use Rattle.words.specs.Parts.{lines}
use Rattle.desk.specs.Plan.{calls_of, day_of, open_on, put_by}
use Rattle.desk.proofs.Kept.{kept_is}
use Rattle.desk.proofs.Onward.{calls_next, day_next}
use Rattle.desk.proofs.plan.plan_of.Goals as goal

pub loop-line-preserved : goal.loop-line-preserved
loop-line-preserved c =
    let day = c.loop-line.day in
    let asked = c.of-turn.result.asked in
    let before = c.of-turn.ensures.before in
    let opened : c.leaves-day.result ≡ open_on day asked = c.leaves-day.ensures ∙ ap (λ (d : Option ℕ). open_on d asked) before in
    let put : c.put.result ≡ put_by day asked = c.put.ensures ∙ ap (λ (d : Option ℕ). put_by d asked) before in
    let ran = c.extend.ensures.ran in
    let kept = items_from_extend {P = λ (cs : List Call). vec_items c.extend.new.self ≡ vec_items c.loop-line.calls ++ cs} c.extend.result (ran.0, ran.1, refl, ran.3.0, ran.4) (YieldsList-from_once c.put.result ran.2.0) in
    let more : vec_items c.extend.new.self ≡ vec_items c.loop-line.calls ++ option_to_list c.put.result = kept_is c.extend.result _ c.in_ok-extend.was kept in
    let ls = lines c.loop-line.line-iterator.rest.now in
    let rest = lines c.next.new.self.rest.now in
    let line = c.in-Some.line.now in
    let split = c.in-Some.ensures.steps in (
      tt,
      tt,
      day_next day c.leaves-day.result asked ls rest line split c.of-turn.ensures.asks opened _ c.loop-line.invariant.2,
      calls_next day c.leaves-day.result asked ls rest line split c.of-turn.ensures.asks opened _
          (vec_items c.loop-line.calls) (vec_items c.extend.new.self) (more ∙ ap (λ (o : Option Call). vec_items c.loop-line.calls ++ option_to_list o) put) c.loop-line.invariant.3,
    )

pub returns : goal.returns
returns c =
    let none = c.in-None.ensures.steps.0 in
    let day = c.loop-line.day in (
      ap (day_of day) (sym none) ∙ c.loop-line.invariant.2,
      sym (append-nil (vec_items c.loop-line.calls))
          ∙ ap (λ (ls : List (List ℕ)). vec_items c.loop-line.calls ++ calls_of day ls) (sym none) ∙ c.loop-line.invariant.3,
    )
