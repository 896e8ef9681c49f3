-- What the four changes do to lines and to sums.
use Rattle.std.proofs.Common.{◌≡◌, ℕ, ◌+◌, ◌-◌, ◌<◌, ◌≤◌, refl, ◌∙◌, inl, inr, arith}
use Rattle.std.proofs.lemmas.Bool.{cases_eq}
use Rattle.register.specs.Holdings.{Holdings, put, with_free, with_reserved, credited, debited, held, released, registered, sum_free, sum_reserved, total_of}
use Rattle.register.specs.Theorems.{SameButAt, Laws}
use Rattle.register.proofs.Sums.{put_same, put_other, put_elsewhere, put_away, sum_most, sum_same, sum_both, sum_put, sum_elsewhere}

-- Two holdings with the same counts and the same numbers are one.
pub same_holdings : (h k : Holdings) → h.accounts ≡ k.accounts → h.securities ≡ k.securities → ((a s : ℕ) → h.free a s ≡ k.free a s) → ((a s : ℕ) → h.reserved a s ≡ k.reserved a s) → h ≡ k
same_holdings h k p q f g =
    λ i. record { accounts = p i; securities = q i; free = λ a s. f a s i; reserved = λ a s. g a s i }

-- A total is its free and its reserved part, and no line has more.

pub total_parts : (h : Holdings) (s : ℕ) → total_of h s ≡ sum_free h s + sum_reserved h s
total_parts h s = sum_both h.accounts (λ a. h.free a s) (λ a. h.reserved a s)

pub line_most : (h : Holdings) (a s : ℕ) → a < h.accounts → registered h a s ≤ total_of h s
line_most h a s lt = sum_most h.accounts (λ b. registered h b s) a lt

-- The free sum of the security.

pub free_credited : (h : Holdings) (a s q : ℕ) → a < h.accounts → sum_free (credited h a s q) s ≡ sum_free h s + q
free_credited h a s q lt = omega (arith, sum_put h.accounts h.free a s (h.free a s + q) lt)

pub free_debited : (h : Holdings) (a s q : ℕ) → a < h.accounts → q ≤ h.free a s → sum_free (debited h a s q) s + q ≡ sum_free h s
free_debited h a s q lt le = omega (arith, sum_put h.accounts h.free a s (h.free a s - q) lt)

pub free_held : (h : Holdings) (a s q : ℕ) → a < h.accounts → q ≤ h.free a s → sum_free (held h a s q) s + q ≡ sum_free h s
free_held h a s q lt le = free_debited h a s q lt le

pub free_released : (h : Holdings) (a s q : ℕ) → a < h.accounts → sum_free (released h a s q) s ≡ sum_free h s + q
free_released h a s q lt = free_credited h a s q lt

-- Another security's sums.

pub free_elsewhere : (h : Holdings) (a s v t : ℕ) → (s ≡ t → ⊥) → sum_free (with_free h a s v) t ≡ sum_free h t
free_elsewhere h a s v t ne = sum_elsewhere h.accounts h.free a s v t ne

pub reserved_elsewhere : (h : Holdings) (a s v t : ℕ) → (s ≡ t → ⊥) → sum_reserved (with_reserved h a s v) t ≡ sum_reserved h t
reserved_elsewhere h a s v t ne = sum_elsewhere h.accounts h.reserved a s v t ne

pub total_elsewhere : (h : Holdings) (a s v t : ℕ) → (s ≡ t → ⊥) → total_of (with_free h a s v) t ≡ total_of h t
total_elsewhere h a s v t ne =
    omega (arith, total_parts (with_free h a s v) t, total_parts h t, free_elsewhere h a s v t ne)

-- The total of the security.

pub total_credited : (h : Holdings) (a s q : ℕ) → a < h.accounts → total_of (credited h a s q) s ≡ total_of h s + q
total_credited h a s q lt =
    omega (arith, total_parts (credited h a s q) s, total_parts h s, free_credited h a s q lt)

pub total_debited : (h : Holdings) (a s q : ℕ) → a < h.accounts → q ≤ h.free a s → total_of (debited h a s q) s + q ≡ total_of h s
total_debited h a s q lt le =
    omega (arith, total_parts (debited h a s q) s, total_parts h s, free_debited h a s q lt le)

-- Of a line whose two numbers are put in, and together are what they were, the registered number is kept.
registered_kept : (h : Holdings) (a s v w : ℕ) → v + w ≡ registered h a s → (b t : ℕ) → put h.free a s v b t + put h.reserved a s w b t ≡ registered h b t
registered_kept h a s v w e b t =
    elim (cases_eq a b) [
      | inl ea ↦ elim (cases_eq s t) [
        | inl es ↦ rw (← ea, ← es) (omega (arith, put_same h.free a s v, put_same h.reserved a s w))
        | inr ne ↦ omega (arith, put_elsewhere h.free a s v b t ne, put_elsewhere h.reserved a s w b t ne)
      ]
      | inr ne ↦ omega (arith, put_other h.free a s v b t ne, put_other h.reserved a s w b t ne)
    ]

pub registered_held : (h : Holdings) (a s q : ℕ) → q ≤ h.free a s → (b t : ℕ) → registered (held h a s q) b t ≡ registered h b t
registered_held h a s q le = registered_kept h a s (h.free a s - q) (h.reserved a s + q) (omega arith)

pub registered_released : (h : Holdings) (a s q : ℕ) → q ≤ h.reserved a s → (b t : ℕ) → registered (released h a s q) b t ≡ registered h b t
registered_released h a s q le = registered_kept h a s (h.free a s + q) (h.reserved a s - q) (omega arith)

pub total_held : (h : Holdings) (a s q : ℕ) → q ≤ h.free a s → (t : ℕ) → total_of (held h a s q) t ≡ total_of h t
total_held h a s q le t = sum_same h.accounts (λ b. registered h b t) (λ b. registered (held h a s q) b t) (λ b l. registered_held h a s q le b t)

pub total_released : (h : Holdings) (a s q : ℕ) → q ≤ h.reserved a s → (t : ℕ) → total_of (released h a s q) t ≡ total_of h t
total_released h a s q le t = sum_same h.accounts (λ b. registered h b t) (λ b. registered (released h a s q) b t) (λ b l. registered_released h a s q le b t)

-- A move keeps every total.
pub total_moved : (h : Holdings) (a b s q : ℕ) → a < h.accounts → b < h.accounts → q ≤ h.free a s → (t : ℕ) → total_of (credited (debited h a s q) b s q) t ≡ total_of h t
total_moved h a b s q la lb le t =
    elim (cases_eq s t) [
      | inl e ↦ rw (← e) (omega (arith, total_debited h a s q la le, total_credited (debited h a s q) b s q lb))
      | inr ne ↦ total_elsewhere (debited h a s q) b s ((debited h a s q).free b s + q) t ne ∙ total_elsewhere h a s (h.free a s - q) t ne
    ]

-- Only the line's own numbers change.

free_alone : (h : Holdings) (a s v : ℕ) → SameButAt h (with_free h a s v) a s
free_alone h a s v =
    record { accounts = refl; securities = refl; free = λ b t. put_away h.free a s v b t; reserved = λ b t _. refl }

both_alone : (h : Holdings) (a s v w : ℕ) → SameButAt h (with_reserved (with_free h a s v) a s w) a s
both_alone h a s v w =
    record { accounts = refl; securities = refl; free = λ b t. put_away h.free a s v b t; reserved = λ b t. put_away h.reserved a s w b t }

pub laws : Laws
laws =
    record {
      credit = λ h a s q p. total_credited h a s q p.0;
      debit = λ h a s q p. total_debited h a s q p.0 p.2;
      hold = λ h a s q p. record { lines = registered_held h a s q p.2; totals = total_held h a s q p.2 };
      release = λ h a s q p. record { lines = registered_released h a s q p.2; totals = total_released h a s q p.2 };
      move = λ h a b s q p r. total_moved h a b s q p.0 r.0 p.2;
      credit_alone = λ h a s q. free_alone h a s (h.free a s + q);
      debit_alone = λ h a s q. free_alone h a s (h.free a s - q);
      hold_alone = λ h a s q. both_alone h a s (h.free a s - q) (h.reserved a s + q);
      release_alone = λ h a s q. both_alone h a s (h.free a s + q) (h.reserved a s - q);
      credit_reserved = λ h a s q b t. refl;
      debit_reserved = λ h a s q b t. refl;
    }
