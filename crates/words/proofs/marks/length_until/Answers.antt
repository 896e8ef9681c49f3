use Rattle.std.proofs.Common.{◌≡◌, ℕ, rules, eqb, length, ap, ◌∙◌}
use borrow.Author.Tests.{tests}
use Rattle.std.specs.List.{position}
use Rattle.std.specs.Option.{unwrap_or}
use Rattle.std.proofs.lemmas.Iterator.{YieldsList-from_slice}
use Rattle.std.proofs.lemmas.Iterator.Search.{position_from_yields_List}
use Rattle.words.proofs.Untils.{until_found}
use Rattle.words.proofs.marks.length_until.Goals as goal

pub returns-clause-value : goal.returns-clause-value
returns-clause-value c =
    let p : c.position.result ≡ position (λ (b : ℕ). eqb b c.args.mark) c.args.bytes.now = position_from_yields_List (λ (b : ℕ). eqb b c.args.mark) _ _ c.position.result c.position.ensures.ran (YieldsList-from_slice c.args.bytes.now cc) (λ x b q k. search (rules, tests)) in
    c.unwrap_or.ensures ∙ ap (λ o. unwrap_or o (length c.args.bytes.now)) p ∙ until_found c.args.mark c.args.bytes.now
