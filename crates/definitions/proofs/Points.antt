-- Points of collateral that is added to and taken from.
use Rattle.std.proofs.Common.{ℕ, zero, suc, ◌+◌, ◌-◌, ◌*◌, ◌≤◌, cond, eqb, List, get_or, set, refl, arith}
use Rattle.std.proofs.lemmas.Bool.{eq-eqb, cond-true}
use Rattle.std.proofs.lemmas.Bool.Decides.{nat_tests}
use Rattle.definitions.specs.Cover.{points}
use Rattle.definitions.specs.Pledges.{weight_at}
use Rattle.definitions.proofs.Tables.{at_set}

pub points_raised : (cents : List ℕ) (kind v : ℕ) → get_or cents kind 0 ≤ v → points cents ≤ points (set cents kind v)
points_raised cents kind v le =
    let at = at_set (λ j c. get_or cents j 0 ≤ c) cents kind v 0 le (λ j. omega arith) in
    omega (arith, at 0, at 1, at 2, at 3)

-- What c cents count of the kind that they are of.
abbrev taken : ℕ → ℕ → ℕ → ℕ
taken kind c j = cond (eqb j kind) c 0

weighed : (kind c : ℕ) → taken kind c 0 * 100 + taken kind c 1 * 95 + taken kind c 2 * 90 + taken kind c 3 * 100 ≤ c * weight_at kind
weighed zero c = omega arith
weighed (suc zero) c = omega arith
weighed (suc (suc zero)) c = omega arith
weighed (suc (suc (suc zero))) c = omega arith
weighed (suc (suc (suc (suc n)))) c = grind (arith, nat_tests)

pub points_lowered : (cents : List ℕ) (kind c : ℕ) → c ≤ get_or cents kind 0
    → points cents ≤ points (set cents kind (get_or cents kind 0 - c)) + c * weight_at kind
points_lowered cents kind c le =
    let own = cond-true (eqb kind kind) c 0 (eq-eqb kind kind refl) in
    let at = at_set (λ j d. get_or cents j 0 ≤ d + taken kind c j) cents kind (get_or cents kind 0 - c) 0 (omega arith) (λ j. omega arith) in
    omega (arith, at 0, at 1, at 2, at 3, weighed kind c)
