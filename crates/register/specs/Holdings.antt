-- What a register holds, and what each change makes of it. A line is one account with one security; both are numbered from 0.
use Rattle.std.specs.Prelude.{◌≡◌, ℕ, zero, suc, ◌+◌, ◌-◌, ◌<◌, ◌≤◌, cond, ◌&&◌, List, Ok, Err, Result, ◌==◌}

-- Counts of accounts and securities, and the free and the reserved shares of each line (account, security).
pub record Holdings : Type 0 where
  pub accounts : ℕ
  pub securities : ℕ
  pub free : ℕ → ℕ → ℕ
  pub reserved : ℕ → ℕ → ℕ

-- What no change alters: whose memory a register borrows, by its ghost name, and the bytes there that are none of its numbers.
pub record Frame : Type 0 where
  pub lender : ℕ
  pub beyond : List ℕ

-- No number is raised above this.
abbrev pub the_cap : ℕ
the_cap = 1000000000000

-- The line lies within the counts.
abbrev pub Inside : Holdings → ℕ → ℕ → Type 0
Inside h a s = (a < h.accounts) × (s < h.securities)

-- A line outside the counts has no shares.
abbrev pub Outside : {X : Type 0} → (X → Holdings) → Type 0
Outside {X} holdings =
    (x : X) (a s : ℕ) → (Inside (holdings x) a s → ⊥) → ((holdings x).free a s ≡ 0) × ((holdings x).reserved a s ≡ 0)

-- The function f, but for the value v at the line (a, s).
abbrev pub put : (ℕ → ℕ → ℕ) → ℕ → ℕ → ℕ → ℕ → ℕ → ℕ
put f a s v b t = cond (a == b && s == t) v (f b t)

-- The holdings with v free shares on the line.
abbrev pub with_free : Holdings → ℕ → ℕ → ℕ → Holdings
with_free h a s v =
    record { accounts = h.accounts; securities = h.securities; free = put h.free a s v; reserved = h.reserved }

-- The holdings with v reserved shares on the line.
abbrev pub with_reserved : Holdings → ℕ → ℕ → ℕ → Holdings
with_reserved h a s v =
    record { accounts = h.accounts; securities = h.securities; free = h.free; reserved = put h.reserved a s v }

-- A credit of q shares raises the free number of a line, within the cap.
abbrev pub Creditable : Holdings → ℕ → ℕ → ℕ → Type 0
Creditable h a s q = (a < h.accounts) × (s < h.securities) × (h.free a s + q ≤ the_cap)

abbrev pub credited : Holdings → ℕ → ℕ → ℕ → Holdings
credited h a s q = with_free h a s (h.free a s + q)

-- A debit of q shares lowers the free number, which has to be large enough.
abbrev pub Debitable : Holdings → ℕ → ℕ → ℕ → Type 0
Debitable h a s q = (a < h.accounts) × (s < h.securities) × (q ≤ h.free a s)

abbrev pub debited : Holdings → ℕ → ℕ → ℕ → Holdings
debited h a s q = with_free h a s (h.free a s - q)

-- A hold moves q free shares of a line to its reserved ones, within the cap.
abbrev pub Holdable : Holdings → ℕ → ℕ → ℕ → Type 0
Holdable h a s q =
    (a < h.accounts) × (s < h.securities) × (q ≤ h.free a s) × (h.reserved a s + q ≤ the_cap)

abbrev pub held : Holdings → ℕ → ℕ → ℕ → Holdings
held h a s q = with_reserved (with_free h a s (h.free a s - q)) a s (h.reserved a s + q)

-- A release moves q reserved shares of a line back to its free ones, within the cap.
abbrev pub Releasable : Holdings → ℕ → ℕ → ℕ → Type 0
Releasable h a s q =
    (a < h.accounts) × (s < h.securities) × (q ≤ h.reserved a s) × (h.free a s + q ≤ the_cap)

abbrev pub released : Holdings → ℕ → ℕ → ℕ → Holdings
released h a s q = with_reserved (with_free h a s (h.free a s + q)) a s (h.reserved a s - q)

-- Accepted exactly when P, and then the holdings go from h to k; refused, they stay as they are. After the change they are h'.
abbrev pub Changes : {X E : Type 0} → Result X E → Type 0 → Holdings → Holdings → Holdings → Type 0
Changes (Ok _) P h k h' = P × (h' ≡ k)
Changes (Err _) P h k h' = (P → ⊥) × (h' ≡ h)

-- The registered shares of a line: the free and the reserved ones.
abbrev pub registered : Holdings → ℕ → ℕ → ℕ
registered h a s = h.free a s + h.reserved a s

-- The sum of f over the numbers below n.
abbrev pub sum_below : ℕ → (ℕ → ℕ) → ℕ
sum_below zero f = 0
sum_below (suc n) f = f n + sum_below n f

-- The free shares of a security over all accounts.
abbrev pub sum_free : Holdings → ℕ → ℕ
sum_free h s = sum_below h.accounts (λ a. h.free a s)

-- The reserved shares of a security over all accounts.
abbrev pub sum_reserved : Holdings → ℕ → ℕ
sum_reserved h s = sum_below h.accounts (λ a. h.reserved a s)

-- The total of a security: its registered shares over all accounts.
abbrev pub total_of : Holdings → ℕ → ℕ
total_of h s = sum_below h.accounts (λ a. registered h a s)
