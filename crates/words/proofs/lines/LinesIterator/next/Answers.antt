use Rattle.std.proofs.Common.{◌≡◌, suc, ◌+◌, ◌<◌, ◌∷◌, length, take, drop, sym, ap, ◌∙◌, arith, rules, true-eqb, false-eqb, add-one}
use Rattle.std.proofs.lemmas.List.{nil_from_length, length-drop}
use Rattle.words.specs.Parts.{lines, until}
use Rattle.words.proofs.Rests.{rest_after}
use Rattle.words.proofs.Splits.{split_line}
use Rattle.words.proofs.lines.LinesIterator.next.Goals as goal

pub returns-then-is_empty : goal.returns-then-is_empty
returns-then-is_empty c =
    let none = ap lines (nil_from_length c.args.self.now.rest.now (true-eqb _ 0 c.if-is_empty.ensures)) in
    record { steps = (none, none); goes = search rules }

pub returns : goal.returns
returns c =
    let rest = c.args.self.now.rest.now in
    let n = c.length_until-n.result in
    let is = c.length_until-n.ensures.value in
    let some : 0 < length rest = omega (arith, false-eqb (length rest) 0 c.if-is_empty.ensures) in
    let line : take (until 10 rest) rest ≡ take n rest = ap (λ k. take k rest) (sym is) in
    let later : c.unwrap_or_default-self.result.now ≡ drop (n + 1) rest = rest_after rest (n + 1) c.get.result c.unwrap_or_default-self.result c.get.ensures.lookup c.unwrap_or_default-self.ensures in
    let on : lines (drop (suc (until 10 rest)) rest) ≡ lines c.unwrap_or_default-self.result.now = ap lines (ap (λ k. drop (suc k) rest) (sym is) ∙ sym (later ∙ ap (λ k. drop k rest) (add-one n))) in
    let falls : length c.unwrap_or_default-self.result.now < length rest = omega (arith, ap length later, length-drop (n + 1) rest) in
    record { steps = split_line rest some ∙ (λ i. line i ∷ on i); goes = search rules }
