-- Powers of ten, which bound what digits write.
use Rattle.std.proofs.Common.{◌≡◌, ℕ, ◌+◌, ◌*◌, ◌^◌, ◌<◌, ◌≤◌, pow-suc, add-one, arith}
use native.Mathlib.Nat.{pow-le-pow_right}

pub tenfold : (i : ℕ) → 10 ^ (i + 1) ≡ 10 ^ i * 10
tenfold i = rw (add-one, pow-suc)

pub under_13 : (i : ℕ) → i < 13 → 10 ^ i ≤ 1000000000000
under_13 i h = pow-le-pow_right {n = 10} (omega arith) {i = i} {j = 12} (omega arith)
