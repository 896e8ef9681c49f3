-- What is selected from a list and what is left: also for crates that select from lists of their own.
use Rattle.std.proofs.Common.{◌≡◌, ℕ, ◌+◌, Bool, true, false, cond, not, List, [], ◌∷◌, length, filter, sym, refl, ap, ◌∙◌, subst, arith}
use Rattle.std.proofs.ByRecursion.{all_kept_by}
use Rattle.std.proofs.lemmas.Bool.{and_parts, and_from}
use Rattle.std.specs.List.{AllByRecursion as Each}
use Rattle.ordered.specs.Places.{first, ascending}
use Rattle.ordered.specs.Selected.{keep_if, those, others}

keep_if_cond : {X : Type 0} (b : Bool) (x : X) (xs : List X) → keep_if b x xs ≡ cond b (x ∷ xs) xs
keep_if_cond true x xs = refl
keep_if_cond false x xs = refl

module _ {X : Type 0} (test : X → Bool) where
  pub those_kept_by : (xs : List X) → those test xs ≡ filter test xs
  those_kept_by [] = refl
  those_kept_by (x ∷ xs) = keep_if_cond (test x) x (those test xs) ∙ ap (λ l. cond (test x) (x ∷ l) l) (those_kept_by xs)

  pub all_those : (P : X → Type 0) (xs : List X) → Each P xs → Each P (those test xs)
  all_those P xs h = subst (Each P) (sym (those_kept_by xs)) (all_kept_by test P xs h)

module _ {X : Type 0} (test : X → Bool) where
  pub all_others : (P : X → Type 0) (xs : List X) → Each P xs → Each P (others test xs)
  all_others = all_those (λ x. not (test x))

-- any sum over a list is the sum over those and the sum over the others
module _ {X : Type 0} (f : X → ℕ) (sum : List X → ℕ) (none : sum [] ≡ 0) (more : (x : X) (xs : List X) → sum (x ∷ xs) ≡ f x + sum xs) where
  sum_keep : (b : Bool) (x : X) (ys zs : List X) → sum (keep_if b x ys) + sum (keep_if (not b) x zs) ≡ f x + (sum ys + sum zs)
  sum_keep true x ys zs = omega (arith, more x ys)
  sum_keep false x ys zs = omega (arith, more x zs)

  pub sum_both : (test : X → Bool) (xs : List X) → sum (those test xs) + sum (others test xs) ≡ sum xs
  sum_both test [] = omega arith
  sum_both test (x ∷ xs) =
      sum_keep (test x) x (those test xs) (others test xs) ∙ ap (λ n. f x + n) (sum_both test xs) ∙ sym (more x xs)

pub length_both : {X : Type 0} (test : X → Bool) (xs : List X) → length (those test xs) + length (others test xs) ≡ length xs
length_both = sum_both (λ _. 1) length refl (λ _ _. omega arith)

-- what is selected from ascending records ascends
module _ {X : Type 0} (lt : X → X → Bool) where
  first_keep : (b : Bool) (y x : X) (xs : List X) → lt y x ≡ true → first lt y xs ≡ true → first lt y (keep_if b x xs) ≡ true
  first_keep true y x xs e h = and_from (lt y x) (first lt y xs) e h
  first_keep false y x xs e h = h

  ascending_keep : (b : Bool) (x : X) (xs : List X) → first lt x xs ≡ true → ascending lt xs ≡ true → ascending lt (keep_if b x xs) ≡ true
  ascending_keep true x xs f h = and_from (first lt x xs) (ascending lt xs) f h
  ascending_keep false x xs f h = h

  first_those : (test : X → Bool) (y : X) (xs : List X) → first lt y xs ≡ true → first lt y (those test xs) ≡ true
  first_those test y [] h = refl
  first_those test y (x ∷ xs) h =
      let p = and_parts (lt y x) (first lt y xs) h in
      first_keep (test x) y x (those test xs) p.0 (first_those test y xs p.1)

  pub ascending_those : (test : X → Bool) (xs : List X) → ascending lt xs ≡ true → ascending lt (those test xs) ≡ true
  ascending_those test [] h = refl
  ascending_those test (x ∷ xs) h =
      let p = and_parts (first lt x xs) (ascending lt xs) h in
      ascending_keep (test x) x (those test xs) (first_those test x xs p.0) (ascending_those test xs p.1)
