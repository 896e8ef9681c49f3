-- The need of one exposure is in range.
use Rattle.std.proofs.Common.{Option, refl, ◌≡◌, ℕ, ◌^◌, ◌≤◌, Some, None, sym, ◌∙◌, mul-le-mul, arith}
use Rattle.std.proofs.ByRecursion.{All-get_or}
use Rattle.std.specs.Option.{IsSome}
use Rattle.std.proofs.lemmas.Bool.{cond-true, lt-ltb, eq-eqb}
use Rattle.tariff.specs.Words.{in_word}
use Rattle.terms.specs.declared.records.Exposure.{Exposure}
use Rattle.definitions.specs.Cover.{need, need_for, price_in}
use Rattle.definitions.specs.Limits.{most_price, most_quantity}
use Rattle.definitions.specs.Sound.{ExposureRanged, PriceRanged, Ranged}
use Rattle.definitions.specs.States.{Kept, no_security}

module _ (k : Kept) (ranged : Ranged k) (g : ℕ) (e : Exposure) (fits : ExposureRanged e) where
  abbrev needs : ℕ
  needs = need e.quantity (price_in k e.security)

  need_most : needs ≤ need most_quantity most_price
  need_most =
      let p : price_in k e.security ≤ most_price = (All-get_or PriceRanged k.securities e.security no_security (omega (arith, ranged.securities, fits.security)) ranged.prices).price in
      omega (arith, mul-le-mul fits.quantity p)

  in-word : in_word needs ≡ Some needs
  in-word = cond-true _ _ _ (lt-ltb needs (2 ^ 64) (omega (arith, need_most)))

  pub need_held : (o : Option ℕ) → o ≡ in_word needs → IsSome o
  need_held None h = let w = in-word in let z : ◌≡◌ {A = ℕ} 0 1 = cc in absurd (omega arith)
  need_held (Some n) h = refl

  module _ (n : ℕ) (h : Some n ≡ in_word needs) where
    is : n ≡ needs
    is = let w = in-word in cc

    pub need_is : e.agent ≡ g → n ≡ need_for k g e
    need_is own = is ∙ sym (cond-true _ _ _ (eq-eqb e.agent g own))

    pub need_bound : n ≤ need most_quantity most_price
    need_bound = omega (arith, is, need_most)
