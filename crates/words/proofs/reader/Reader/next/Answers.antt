use Rattle.std.proofs.Common.{◌≡◌, ◌+◌, take, drop, refl, ap, ◌∙◌}
use Rattle.std.proofs.lemmas.List.{take_rest}
use Rattle.words.specs.Parts.{until}
use Rattle.words.proofs.Nexts.{next_given, next_after}
use Rattle.words.proofs.reader.Reader.next.Goals as goal

pub returns : goal.returns
returns c =
    let line = c.args.self.now.line.now in
    let at = c.args.self.now.at in
    let p = c.args.self.now.place in
    let n = c.length_until-n.result in
    let got = c.in_ok-rest.ensures.lookup.0 in
    let same : c.in_ok-rest.rest.now ≡ drop at line = got.2 ∙ take_rest line at in
    let found : n ≡ until 32 (drop at line) = c.length_until-n.ensures.value ∙ ap (until 32) same in
    let cut : take n c.in_ok-rest.rest.now ≡ take n (drop at line) = ap (take n) same in
    record {
      given = next_given line at n p _ got.0 found cut;
      after = next_after line at n p _ got.0 found cut;
      part = record { bytes = cut ∙ ap (λ k. take k (drop at line)) found; place = refl; line = refl; onward = ap (λ k. at + k + 1) found };
    }
