-- What a question answers that is asked alone.
use Rattle.std.specs.Prelude.{◌≡◌, ℕ, Bool, true, false, ◌&&◌, Ok, Err, Result, nat_lt}
use Rattle.register.specs.Holdings.{Holdings}
use Rattle.terms.specs.declared.calls.Refusal.{Refusal}
use Rattle.definitions.specs.Questions.{Question}

-- A yes gives v, and a no the question's refusal.
abbrev pub Asked : {X : Type 0} → Question → X → Result X Refusal → Type 0
Asked q v (Ok w) = (q.1 ≡ true) × (w ≡ v)
Asked q v (Err r) = (q.1 ≡ false) × (r ≡ q.0)

-- The account, the security, and both exist: has_security and has_line of a register alone.
abbrev pub account_in : Holdings → ℕ → Bool
account_in h a = nat_lt a h.accounts

abbrev pub security_in : Holdings → ℕ → Bool
security_in h s = nat_lt s h.securities

abbrev pub line_in : Holdings → ℕ → ℕ → Bool
line_in h a s = nat_lt a h.accounts && nat_lt s h.securities
