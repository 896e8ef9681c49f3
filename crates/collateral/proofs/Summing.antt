-- The turns of the loop that sums needs over the records in places.
use Rattle.std.proofs.Common.{◌≡◌, ℕ, ◌+◌, List, [], ◌∷◌, drop, Option, sym, ap, ◌∙◌, subst, arith}
use Rattle.std.specs.List.{AllByRecursion as Each}
use Rattle.ordered.specs.Places.{records}
use Rattle.terms.specs.declared.records.Exposure.{Exposure}
use Rattle.definitions.specs.Cover.{need_for}
use Rattle.definitions.specs.Sound.{ExposureRanged}
use Rattle.definitions.specs.States.{Kept, total}

-- What an agent needs for the records: `sum` is that for the places before i.
module _ {X : Type 0} (k : Kept) (g : ℕ) (exposes : X → Exposure) (ps : List (Option X)) (i sum : ℕ) where
  abbrev needs : List X → ℕ
  needs xs = total (λ x. need_for k g (exposes x)) xs

  module _ (inv : sum + needs (records (drop i ps)) ≡ needs (records ps)) where
    pub sum_end : records (drop i ps) ≡ [] → sum ≡ needs (records ps)
    sum_end e = let t : needs (records (drop i ps)) ≡ 0 = ap needs e in omega arith

    pub sum_more : (x : X) (e : Exposure) (n : ℕ) → records (drop i ps) ≡ x ∷ records (drop (i + 1) ps) → e ≡ exposes x → n ≡ need_for k g e
        → sum + n + needs (records (drop (i + 1) ps)) ≡ needs (records ps)
    sum_more x e n more is s =
        let t : needs (records (drop i ps)) ≡ need_for k g (exposes x) + needs (records (drop (i + 1) ps)) = ap needs more in
        let m : n ≡ need_for k g (exposes x) = s ∙ ap (need_for k g) is in
        omega arith

-- Where all records are in range, the first is, and so is the rest.
module _ {X : Type 0} (exposes : X → Exposure) (x : X) (xs ys : List X) (more : xs ≡ x ∷ ys) (all : Each (λ y. ExposureRanged (exposes y)) xs) where
  parts : Each (λ y. ExposureRanged (exposes y)) (x ∷ ys)
  parts = subst (Each (λ y. ExposureRanged (exposes y))) more all

  pub ranged_first : (e : Exposure) → e ≡ exposes x → ExposureRanged e
  ranged_first e is = subst ExposureRanged (sym is) parts.0

  pub ranged_rest : Each (λ y. ExposureRanged (exposes y)) ys
  ranged_rest = parts.1
