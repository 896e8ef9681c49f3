-- A line outside the counts has no shares. This proof stands here since each register hands it over as a ghost member.
use Rattle.std.specs.Prelude.{◌≡◌, ℕ, ◌<◌, true, List}
use Rattle.std.proofs.Common.{inl, inr}
use Rattle.std.proofs.lemmas.Bool.{cases_Bool, cond-false, and_parts, ltb-true}
use Rattle.register.specs.Holdings.{Inside}
use Rattle.image.specs.Image.{accounts_of, securities_of, inside, imaged}

pub inside_true : (bs : List ℕ) (a s : ℕ) → inside bs a s ≡ true → (a < accounts_of bs) × (s < securities_of bs)
inside_true bs a s e =
    let p = and_parts _ _ e in (ltb-true a (accounts_of bs) p.0, ltb-true s (securities_of bs) p.1)

pub imaged_outside : (bs : List ℕ) (a s : ℕ) → (Inside (imaged bs) a s → ⊥) → ((imaged bs).free a s ≡ 0) × ((imaged bs).reserved a s ≡ 0)
unfolding imaged
imaged_outside bs a s h =
    elim (cases_Bool (inside bs a s)) [
      | inl e ↦ absurd (h (inside_true bs a s e))
      | inr e ↦ (cond-false _ _ _ e, cond-false _ _ _ e)
    ]
