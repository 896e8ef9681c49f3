-- Sums over accounts, and functions of lines with one value put in.
use Rattle.std.proofs.Common.{◌≡◌, ℕ, zero, suc, ◌+◌, ◌<◌, ◌≤◌, sym, refl, ◌∙◌, inl, inr, arith}
use Rattle.std.proofs.lemmas.Bool.{cases_eq}
use Rattle.std.proofs.lemmas.Bool.Decides.{nat_tests}
use Rattle.register.specs.Holdings.{put, sum_below}

-- A value put in is there, and changes no other account's or security's.

pub put_same : (f : ℕ → ℕ → ℕ) (a s v : ℕ) → put f a s v a s ≡ v
put_same f a s v = grind (arith, nat_tests)

pub put_other : (f : ℕ → ℕ → ℕ) (a s v b t : ℕ) → (a ≡ b → ⊥) → put f a s v b t ≡ f b t
put_other f a s v b t ne = grind (arith, nat_tests)

pub put_elsewhere : (f : ℕ → ℕ → ℕ) (a s v b t : ℕ) → (s ≡ t → ⊥) → put f a s v b t ≡ f b t
put_elsewhere f a s v b t ne = grind (arith, nat_tests)

pub put_away : (f : ℕ → ℕ → ℕ) (a s v b t : ℕ) → ((a ≡ b) × (s ≡ t) → ⊥) → put f a s v b t ≡ f b t
put_away f a s v b t ne =
    elim (cases_eq a b) [
      | inl ea ↦ put_elsewhere f a s v b t (λ es. ne (ea, es))
      | inr na ↦ put_other f a s v b t na
    ]

-- A function that is v at the line and f at every other is f with v put in.
pub is_put : (f g : ℕ → ℕ → ℕ) (a s v : ℕ) → g a s ≡ v → ((b t : ℕ) → ((a ≡ b) × (s ≡ t) → ⊥) → g b t ≡ f b t) → (b t : ℕ) → g b t ≡ put f a s v b t
is_put f g a s v here away b t =
    elim (cases_eq a b) [
      | inl ea ↦ elim (cases_eq s t) [
        | inl es ↦ rw (← ea, ← es) (here ∙ sym (put_same f a s v))
        | inr ne ↦ away b t (λ p. ne p.1) ∙ sym (put_elsewhere f a s v b t ne)
      ]
      | inr ne ↦ away b t (λ p. ne p.0) ∙ sym (put_other f a s v b t ne)
    ]

-- Each summand is at most the sum.
pub sum_most : (n : ℕ) (f : ℕ → ℕ) (a : ℕ) → a < n → f a ≤ sum_below n f
sum_most zero f a lt = omega arith
sum_most (suc n) f a lt =
    elim (cases_eq a n) [
      | inl e ↦ rw e (omega arith)
      | inr ne ↦ let p : a < n = omega arith in omega (arith, sum_most n f a p)
    ]

pub sum_same : (n : ℕ) (f g : ℕ → ℕ) → ((b : ℕ) → b < n → g b ≡ f b) → sum_below n g ≡ sum_below n f
sum_same zero f g h = refl
sum_same (suc n) f g h = omega (arith, sum_same n f g (λ b lt. h b (omega arith)), h n (omega arith))

-- A sum of sums.
pub sum_both : (n : ℕ) (f g : ℕ → ℕ) → sum_below n (λ b. f b + g b) ≡ sum_below n f + sum_below n g
sum_both zero f g = refl
sum_both (suc n) f g = omega (arith, sum_both n f g)

-- f and g agree but at a.
pub sum_changed : (n : ℕ) (f g : ℕ → ℕ) (a : ℕ) → a < n → ((b : ℕ) → b < n → (a ≡ b → ⊥) → g b ≡ f b) → sum_below n g + f a ≡ sum_below n f + g a
sum_changed zero f g a lt h = omega arith
sum_changed (suc n) f g a lt h =
    elim (cases_eq a n) [
      | inl e ↦ rw e (omega (arith, sum_same n f g (λ b l. h b (omega arith) (λ p. omega arith))))
      | inr ne ↦ let p : a < n = omega arith in omega (arith, sum_changed n f g a p (λ b l. h b (omega arith)), h n (omega arith) ne)
    ]

-- f and g agree but at a and at b.
pub sum_moved : (n : ℕ) (f g : ℕ → ℕ) (a b : ℕ) → a < n → b < n → (a ≡ b → ⊥) → ((c : ℕ) → c < n → (a ≡ c → ⊥) → (b ≡ c → ⊥) → g c ≡ f c) → sum_below n g + f a + f b ≡ sum_below n f + g a + g b
sum_moved zero f g a b la lb ne h = omega arith
sum_moved (suc n) f g a b la lb ne h =
    elim (cases_eq a n) [
      | inl ea ↦ let lt : b < n = omega arith in
          rw ea (omega (arith, sum_changed n f g b lt (λ c l nb. h c (omega arith) (λ p. omega arith) nb)))
      | inr na ↦ elim (cases_eq b n) [
        | inl eb ↦ let lt : a < n = omega arith in
            rw eb (omega (arith, sum_changed n f g a lt (λ c l nc. h c (omega arith) nc (λ p. omega arith))))
        | inr nb ↦ let lt : a < n = omega arith in
            let mt : b < n = omega arith in
            omega (arith, sum_moved n f g a b lt mt ne (λ c l. h c (omega arith)), h n (omega arith) na nb)
      ]
    ]

-- One value put in.
pub sum_put : (n : ℕ) (f : ℕ → ℕ → ℕ) (a s v : ℕ) → a < n → sum_below n (λ b. put f a s v b s) + f a s ≡ sum_below n (λ b. f b s) + v
sum_put n f a s v lt =
    omega (arith, sum_changed n (λ b. f b s) (λ b. put f a s v b s) a lt (λ b l ne. put_other f a s v b s ne), put_same f a s v)

-- The sum of another security.
pub sum_elsewhere : (n : ℕ) (f : ℕ → ℕ → ℕ) (a s v t : ℕ) → (s ≡ t → ⊥) → sum_below n (λ b. put f a s v b t) ≡ sum_below n (λ b. f b t)
sum_elsewhere n f a s v t ne = sum_same n (λ b. f b t) (λ b. put f a s v b t) (λ b l. put_elsewhere f a s v b t ne)
