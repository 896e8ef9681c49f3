-- Sums over the accounts from the first on.
use Rattle.std.proofs.Common.{◌≡◌, ℕ, zero, suc, ◌+◌, ◌-◌, ◌≤◌, refl, add-zero, add-suc, add-one, arith}
use Rattle.register.specs.Holdings.{sum_below}

pub sum_next : (n : ℕ) (f : ℕ → ℕ) → sum_below (n + 1) f ≡ f n + sum_below n f
sum_next n f = rw add-one refl

sum_grows : (n k : ℕ) (f : ℕ → ℕ) → sum_below n f ≤ sum_below (n + k) f
sum_grows n zero f = rw add-zero (omega arith)
sum_grows n (suc k) f = rw add-suc (omega (arith, sum_grows n k f))

-- The sum over the first accounts is no more than the whole.
pub sum_part : (n m : ℕ) (f : ℕ → ℕ) → n ≤ m → sum_below n f ≤ sum_below m f
sum_part n m f l = let e : n + (m - n) ≡ m = omega arith in rw e at (sum_grows n (m - n) f)
