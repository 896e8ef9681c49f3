-- The laws of the four changes.
use Rattle.std.specs.Prelude.{◌≡◌, ℕ, ◌+◌}
use Rattle.register.specs.Holdings.{Holdings, Creditable, credited, Debitable, debited, Holdable, held, Releasable, released, registered, total_of}

-- The holdings h and k have the same counts, and the same numbers but for those of the line (a, s).
pub record SameButAt (h k : Holdings) (a s : ℕ) : Type 0 where
  pub accounts : k.accounts ≡ h.accounts
  pub securities : k.securities ≡ h.securities
  pub free : (b t : ℕ) → ((a ≡ b) × (s ≡ t) → ⊥) → k.free b t ≡ h.free b t
  pub reserved : (b t : ℕ) → ((a ≡ b) × (s ≡ t) → ⊥) → k.reserved b t ≡ h.reserved b t

-- The registered number of each line is kept, and the total of each security.
pub record Keeps (h k : Holdings) : Type 0 where
  pub lines : (b t : ℕ) → registered k b t ≡ registered h b t
  pub totals : (t : ℕ) → total_of k t ≡ total_of h t

-- A credit raises the security's total by the shares, and a debit lowers it. Holds and releases keep every line's registered
-- number and every total. A debit at one line and a credit at another of the same security, a move, keeps every total. No
-- change touches another line's numbers, and a credit or a debit no reserved number.
pub record Laws : Type 0 where
  pub credit : (h : Holdings) (a s q : ℕ) → Creditable h a s q → total_of (credited h a s q) s ≡ total_of h s + q
  pub debit : (h : Holdings) (a s q : ℕ) → Debitable h a s q → total_of (debited h a s q) s + q ≡ total_of h s
  pub hold : (h : Holdings) (a s q : ℕ) → Holdable h a s q → Keeps h (held h a s q)
  pub release : (h : Holdings) (a s q : ℕ) → Releasable h a s q → Keeps h (released h a s q)
  pub move : (h : Holdings) (a b s q : ℕ) → Debitable h a s q → Creditable (debited h a s q) b s q → (t : ℕ) → total_of (credited (debited h a s q) b s q) t ≡ total_of h t
  pub credit_alone : (h : Holdings) (a s q : ℕ) → SameButAt h (credited h a s q) a s
  pub debit_alone : (h : Holdings) (a s q : ℕ) → SameButAt h (debited h a s q) a s
  pub hold_alone : (h : Holdings) (a s q : ℕ) → SameButAt h (held h a s q) a s
  pub release_alone : (h : Holdings) (a s q : ℕ) → SameButAt h (released h a s q) a s
  pub credit_reserved : (h : Holdings) (a s q b t : ℕ) → (credited h a s q).reserved b t ≡ h.reserved b t
  pub debit_reserved : (h : Holdings) (a s q b t : ℕ) → (debited h a s q).reserved b t ≡ h.reserved b t
