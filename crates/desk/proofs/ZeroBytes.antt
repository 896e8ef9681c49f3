-- Bytes that are all 0 but for the counts of the header show no share on any line.
use Rattle.std.proofs.Common.{◌≡◌, ℕ, zero, suc, ◌+◌, ◌*◌, ◌≤◌, true, false, cond, List, length, get_or, set, replicate, refl, ◌∙◌, ⊎_elim, arith}
use Rattle.std.proofs.lemmas.List.{get_or-set_other, get_or-set_same, length-replicate, length-set}
use Rattle.std.proofs.lemmas.Bool.{cases_Bool, cond-true, cond-false, le-leb}
use Rattle.register.proofs.Changed.{same_holdings}
use Rattle.image.specs.Image.{free_place, imaged, inside, reserved_place, u16_at, u64_at, whole}
use Rattle.desk.specs.Day.{zeros}

-- Zeros, with the two counts in their low bytes.
abbrev pub headed : ℕ → List ℕ
headed n = set (set (replicate n 0) 1 64) 3 16

zeros_at : (n k : ℕ) → ◌≡◌ {A = ℕ} (get_or (replicate n 0) k 0) 0
zeros_at zero k = refl
zeros_at (suc n) zero = refl
zeros_at (suc n) (suc k) = zeros_at n k

module _ (n : ℕ) (enough : 16388 ≤ n) where
  long : length (headed n) ≡ n
  long = length-set (set (replicate n 0) 1 64) 3 16 ∙ length-set (replicate n 0) 1 64 ∙ length-replicate n 0

  elsewhere : (k : ℕ) → (k ≡ 1 → ⊥) → (k ≡ 3 → ⊥) → get_or (headed n) k 0 ≡ 0
  elsewhere k one three =
      get_or-set_other (set (replicate n 0) 1 64) 3 k 16 0 three ∙ get_or-set_other (replicate n 0) 1 k 64 0 one ∙ zeros_at n k

  first : get_or (headed n) 1 0 ≡ 64
  first =
      get_or-set_other (set (replicate n 0) 1 64) 3 1 16 0 (λ e. omega arith)
      ∙ get_or-set_same (replicate n 0) 1 64 0 (omega (arith, length-replicate {A = ℕ} n 0))

  second : get_or (headed n) 3 0 ≡ 16
  second = get_or-set_same (set (replicate n 0) 1 64) 3 16 0 (omega (arith, length-set {A = ℕ} (replicate n 0) 1 64, length-replicate {A = ℕ} n 0))

  accounts : u16_at (headed n) 0 ≡ 64
  accounts = omega (arith, elsewhere 0 (λ e. omega arith) (λ e. omega arith), first)

  securities : u16_at (headed n) 2 ≡ 16
  securities = omega (arith, elsewhere 2 (λ e. omega arith) (λ e. omega arith), second)

  is_whole : whole (headed n) ≡ true
  is_whole =
      let p : u16_at (headed n) 0 * u16_at (headed n) 2 ≡ 1024 = (λ i. accounts i * securities i) in
      le-leb (4 + 16 * (u16_at (headed n) 0 * u16_at (headed n) 2)) (length (headed n)) (omega (arith, p, long))

  nothing_at : (k : ℕ) → 4 ≤ k → u64_at (headed n) k ≡ 0
  nothing_at k l =
      omega (
        arith,
        elsewhere k (λ e. omega arith) (λ e. omega arith),
        elsewhere (k + 1) (λ e. omega arith) (λ e. omega arith),
        elsewhere (k + 2) (λ e. omega arith) (λ e. omega arith),
        elsewhere (k + 3) (λ e. omega arith) (λ e. omega arith),
        elsewhere (k + 4) (λ e. omega arith) (λ e. omega arith),
        elsewhere (k + 5) (λ e. omega arith) (λ e. omega arith),
        elsewhere (k + 6) (λ e. omega arith) (λ e. omega arith),
        elsewhere (k + 7) (λ e. omega arith) (λ e. omega arith),
      )

  nothing_on : (a s k : ℕ) → 4 ≤ k → ◌≡◌ {A = ℕ} (cond (inside (headed n) a s) (u64_at (headed n) k) 0) 0
  nothing_on a s k l =
      ⊎_elim
      (λ (e : inside (headed n) a s ≡ true). cond-true _ _ _ e ∙ nothing_at k l)
      (λ (e : inside (headed n) a s ≡ false). cond-false _ _ _ e)
      (cases_Bool (inside (headed n) a s))

  pub shows_zeros : imaged (headed n) ≡ zeros
  unfolding imaged
  shows_zeros =
      same_holdings _ zeros (cond-true _ _ _ is_whole ∙ accounts) (cond-true _ _ _ is_whole ∙ securities)
      (λ a s. nothing_on a s (free_place (headed n) a s) (omega arith)) (λ a s. nothing_on a s (reserved_place (headed n) a s) (omega arith))
