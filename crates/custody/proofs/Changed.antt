-- What follows of a change of the register that was asked for: it is accepted or refused.
use Rattle.std.proofs.Common.{◌≡◌, Ok, Err, Result, IsOk, sym, refl, subst}
use Rattle.register.specs.Holdings.{Holdings, Changes}
use Rattle.terms.specs.declared.ledger.Ledger.{Ledger}
use Rattle.definitions.specs.Sound.{Sound}
use Rattle.definitions.specs.States.{state}

module _ {X E : Type 0} (P : Type 0) (h k m : Holdings) where
  -- What may be changed is, and what was changed might be.
  pub accepted : (r : Result X E) → Changes r P h k m → P → IsOk r
  accepted (Ok _) c p = refl
  accepted (Err _) c p = absurd (c.0 p)

  pub changed : (r : Result X E) → Changes r P h k m → IsOk r → P × (m ≡ k)
  changed (Ok _) c ok = c
  changed (Err _) c ok = cc

  -- A book that is sound stays so, if it does where the change is accepted.
  pub sound_asked : (l : Ledger) (r : Result X E) → Changes r P h k m → Sound (state h l) → (P → Sound (state k l)) → Sound (state m l)
  sound_asked l (Ok _) c sound p = subst (λ (n : Holdings). Sound (state n l)) (sym c.1) (p c.0)
  sound_asked l (Err _) c sound p = subst (λ (n : Holdings). Sound (state n l)) (sym c.1) sound
