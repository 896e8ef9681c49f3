-- What the inner functions find.
use Rattle.std.specs.Prelude.{◌≡◌, ℕ, ◌+◌, ◌*◌, ◌<◌}

-- The index i of the line (a, s) among those of m accounts and n securities.
pub record Placed (m n a s i : ℕ) : Type 0 where
  pub account : a < m
  pub security : s < n
  pub index : i ≡ a * n + s
  pub below : i < m * n
