-- What a register holds at first.
use Rattle.std.specs.Prelude.{◌≡◌, ℕ, ◌≤◌}
use Rattle.register.specs.Holdings.{Holdings, the_cap}

-- No number of an account is above the cap.
abbrev pub AccountFits : Holdings → ℕ → Type 0
AccountFits h a = (s : ℕ) → (h.free a s ≤ the_cap) × (h.reserved a s ≤ the_cap)

-- An opening is acceptable with at most 64 accounts, at most 16 securities and no number above the cap.
abbrev pub Acceptable : Holdings → Type 0
Acceptable h = (h.accounts ≤ 64) × (h.securities ≤ 16) × ((a : ℕ) → AccountFits h a)

-- No accounts, no securities and no shares.
abbrev pub nothing : Holdings
nothing = record { accounts = 0; securities = 0; free = λ _ _. 0; reserved = λ _ _. 0 }

-- A register over the opening o holds o where that is acceptable, and nothing where it is not.
pub record Opened (o h : Holdings) : Type 0 where
  pub accepted : Acceptable o → h ≡ o
  pub unfit : (Acceptable o → ⊥) → h ≡ nothing
