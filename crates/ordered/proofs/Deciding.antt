-- What a function answers that a test decides: also for crates that hand such functions on.
use Rattle.std.proofs.Common.{◌≡◌, Bool, Bor, refl, ap, ◌∙◌}
use Rattle.std.specs.Fn.{Shared}
use Rattle.ordered.specs.Selected.{DecidedBy}

module _ {X F : Type 0} (g : Shared F (Bor X × Unit {0}) Bool) (f : F) (test : X → Bool) where
  -- at a reference to a record
  pub told : DecidedBy g f test → (y : Bor X) (b : Bool) → g.post f (y, tt) b → b ≡ test y.now
  told d y b p = d y.now b (record { shown = y; shows = refl; says = record { met = p } })

-- a function is decided by a test if each answer at a reference is the test's
pub decides : {X F : Type 0} {g : Shared F (Bor X × Unit {0}) Bool} {f : F} (test : X → Bool) → ((y : Bor X) (b : Bool) → g.post f (y, tt) b → b ≡ test y.now) → DecidedBy g f test
decides test h x b r = h r.shown b r.says.met ∙ ap test r.shows
