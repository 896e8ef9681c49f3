-- What the inner functions find and write.
use Rattle.std.specs.Prelude.{◌≡◌, ℕ, ◌+◌, ◌<◌, ◌≤◌, ◌⊎◌, List, length, slice_index}
use Rattle.register.specs.Holdings.{Inside}
use Rattle.image.specs.Image.{u64_at, free_place, reserved_place, imaged}
use Rattle.image.specs.declared.lines.Line.{Line}

-- Eight bytes from `at` on now hold v, and no other byte has changed.
pub record Stored (before after : List ℕ) (at v : ℕ) : Type 0 where
  pub len : length after ≡ length before
  pub value : u64_at after at ≡ v
  pub others : (i : ℕ) → (i < at) ⊎ (at + 8 ≤ i) → slice_index after i ≡ slice_index before i

-- The line (a, s) of the register, and the places l of its numbers.
pub record Found (bs : List ℕ) (a s : ℕ) (l : Line) : Type 0 where
  pub account : a < (imaged bs).accounts
  pub security : s < (imaged bs).securities
  pub free_at : l.free_at ≡ free_place bs a s
  pub reserved_at : l.reserved_at ≡ reserved_place bs a s
  pub free_room : l.free_at + 8 ≤ length bs
  pub reserved_room : l.reserved_at + 8 ≤ length bs

-- There is no line (a, s), and it has no shares.
pub record Missing (bs : List ℕ) (a s : ℕ) : Type 0 where
  pub outside : Inside (imaged bs) a s → ⊥
  pub free_is : (imaged bs).free a s ≡ 0
  pub reserved_is : (imaged bs).reserved a s ≡ 0
