-- The tenth business day after a day.
use Rattle.std.specs.Prelude.{◌≡◌, ℕ, zero, suc, ◌+◌, ◌<◌, ◌≤◌, Bool, true, cond, ◌&&◌, Some, None, Option, nat_lt}
use Rattle.days.specs.Dates.{last_day}

-- How many business days lie after t and up to d; t itself is not counted.
unfoldable pub business_days : (ℕ → Bool) → ℕ → ℕ → ℕ
business_days b t zero = 0
business_days b t (suc d) = business_days b t d + cond (nat_lt t (suc d) && b (suc d)) 1 0

-- The tenth business day after t is a business day with ten of them after t and up to it.
-- There is none where fewer than ten are left up to the last day.
abbrev pub Tenth : (ℕ → Bool) → ℕ → Option ℕ → Type 0
Tenth b t None = business_days b t last_day < 10
Tenth b t (Some d) = (t < d) × (d ≤ last_day) × (b d ≡ true) × (business_days b t d ≡ 10)
