-- What holds after memory was found.
use Rattle.std.proofs.Common.{◌≡◌, ℕ, Ok, Err, OnOk, Result, arith}

pub kept_is : {A E : Type 0} (r : Result (Unit {0}) E) (u : Unit {0}) → r ≡ Ok u → OnOk r A → A
kept_is (Ok x) u e h = h
kept_is (Err x) u e h = let z : ◌≡◌ {A = ℕ} 0 1 = cc in absurd (omega arith)
