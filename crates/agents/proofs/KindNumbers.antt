-- A kind and its number.
use Rattle.std.proofs.Common.{◌≡◌, ℕ, zero, suc, ◌<◌, Some, None, Option, unwrap_or, ap, arith}
use Rattle.std.specs.Option.{option_map}
use Rattle.terms.specs.Numbers.{kind_number, kind_of}
use Rattle.terms.specs.declared.records.Kind.{Kind}
use Rattle.terms.specs.declared.records.Kind.TheVariants.{Cash, Bills, Bonds, Guarantees}
use Rattle.definitions.specs.Cover.{weight}
use Rattle.definitions.specs.Limits.{kind_count}
use Rattle.definitions.specs.Pledges.{weight_at}

pub kind_few : (x : Kind) → kind_number x < kind_count
kind_few Cash = omega arith
kind_few Bills = omega arith
kind_few Bonds = omega arith
kind_few Guarantees = omega arith

abbrev number_of : Option Kind → ℕ
number_of (Some x) = kind_number x
number_of None = 4

pub kind_is : (n : ℕ) (x : Kind) → Some x ≡ kind_of n → kind_number x ≡ n
kind_is zero x e = ap number_of e
kind_is (suc zero) x e = ap number_of e
kind_is (suc (suc zero)) x e = ap number_of e
kind_is (suc (suc (suc zero))) x e = ap number_of e
kind_is (suc (suc (suc (suc n)))) x e = let z : ◌≡◌ {A = ℕ} 0 1 = cc in absurd (omega arith)

pub kind_weight : (n : ℕ) (x : Kind) → Some x ≡ kind_of n → weight x ≡ weight_at n
kind_weight n x e = ap (λ (o : Option Kind). unwrap_or (option_map weight o) 0) e
