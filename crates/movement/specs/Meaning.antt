-- The holdings of a movement register.
use Rattle.std.specs.Prelude.{◌≡◌, ℕ, [], vec_items}
use Rattle.std.proofs.Common.{inl, inr}
use Rattle.std.proofs.lemmas.Bool.{cases_Bool, and_parts, ltb-true, cond-false}
use Rattle.register.specs.Holdings.{Frame, Holdings, Inside}
use Rattle.image.specs.View.{image_of}
use Rattle.movement.specs.Moved.{moved, within}
use Rattle.movement.specs.declared.state.MovementRegister.{MovementRegister}

abbrev pub holdings_of : MovementRegister → Holdings
holdings_of x =
    moved (image_of x.opening) (image_of x.opening).accounts (image_of x.opening).securities (vec_items x.movements)

-- It changes nobody's memory but its own.
abbrev pub own_memory : Frame
own_memory = record { lender = 0; beyond = [] }

-- A line outside the counts has no shares. This proof stands here since each register hands it over as a ghost member.
pub moved_outside : (x : MovementRegister) (a s : ℕ) → (Inside (holdings_of x) a s → ⊥) → ((holdings_of x).free a s ≡ 0) × ((holdings_of x).reserved a s ≡ 0)
moved_outside x a s h =
    let o = image_of x.opening in
    elim (cases_Bool (within o.accounts o.securities a s)) [
      | inl e ↦ let p = and_parts _ _ e in absurd (h (ltb-true _ _ p.0, ltb-true _ _ p.1))
      | inr e ↦ (cond-false _ _ _ e, cond-false _ _ _ e)
    ]
