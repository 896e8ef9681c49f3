use Rattle.std.proofs.Common.{◌≡◌, ℕ, ◌||◌, eqb, List, take, refl, ◌∙◌, rules, tests}
use Rattle.std.specs.List.{list_any}
use Rattle.std.proofs.lemmas.Iterator.{YieldsList-from_slice, YieldsList-from_take}
use Rattle.std.proofs.lemmas.Iterator.Search.{any_from_yields_List}
use Rattle.std.proofs.lemmas.List.Recursion.{same_from_clauses}
use Rattle.calendar.specs.Business.{is_in, most_holidays}
use Rattle.calendar.proofs.weekdays.is_listed.Goals as goal

list_any_lem : (d : ℕ) (xs : List ℕ) → list_any (λ h. eqb h d) xs ≡ is_in xs d
list_any_lem d = same_from_clauses (list_any (λ h. eqb h d)) (λ xs. is_in xs d) (λ h b. eqb h d || b) refl (λ _ _. refl) (λ _ _. refl)

pub returns : goal.returns
returns c =
    any_from_yields_List (λ h. eqb h c.args.day) _ _ c.any.result c.any.ensures.ran (YieldsList-from_take most_holidays (YieldsList-from_slice c.args.holidays.now cc) cc) (λ x b q k. search (rules, tests))
    ∙ list_any_lem c.args.day (take most_holidays c.args.holidays.now)
