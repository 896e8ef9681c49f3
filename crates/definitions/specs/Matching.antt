-- Which requests match.
use Rattle.std.specs.Prelude.{◌≡◌, ℕ, ◌<◌, ◌≤◌, Bool, true, not, length, nat_le, slice_index_or}
use Rattle.terms.specs.declared.records.Request.{Request}
use Rattle.terms.specs.declared.records.Sharing.{Sharing}
use Rattle.terms.specs.declared.records.Sharing.TheVariants.{One, Many}
use Rattle.definitions.specs.States.{State, agent, is_suspended, no_lending, no_borrowing}

-- A request for one partner has no more left than that partner.
abbrev pub shares_with : Sharing → ℕ → ℕ → Bool
shares_with One own other = nat_le own other
shares_with Many own other = true

-- A request is active while its agent isn't suspended.
abbrev pub active : State → Request → Bool
active x r = not (is_suspended (agent x r.agent).standing)

-- The six conditions on a lending request l and a borrowing request b.
pub record Matches (x : State) (l b : Request) : Type 0 where
  pub security : l.security ≡ b.security
  pub accounts : l.account ≡ b.account → ⊥
  pub active : (active x l ≡ true) × (active x b ≡ true)
  pub rate : l.rate ≤ b.rate
  pub duration : b.duration ≤ l.duration
  pub sharing : (shares_with l.sharing l.left b.left ≡ true) × (shares_with b.sharing b.left l.left ≡ true)

-- The lending request at place i and the borrowing request at place j are a pair.
pub record Pair (x : State) (i j : ℕ) : Type 0 where
  pub lending : i < length x.kept.lending
  pub borrowing : j < length x.kept.borrowing
  pub partners : Matches x (slice_index_or x.kept.lending i no_lending).request (slice_index_or x.kept.borrowing j no_borrowing).request

-- No open lending request matches an open borrowing request.
abbrev pub NoPair : State → Type 0
NoPair x = (i j : ℕ) → Pair x i j → ⊥

-- The first borrowing request that has a partner, with its first partner, in list order: no borrowing request before it has any, and no
-- lending request before that one is a partner of it.
pub record FirstPair (x : State) (i j : ℕ) : Type 0 where
  pub pair : Pair x i j
  pub none_before : (m n : ℕ) → n < j → Pair x m n → ⊥
  pub first_partner : (m : ℕ) → m < i → Pair x m j → ⊥

-- There is one first pair at most, and none where there is no pair.
pub record OneFirstPair (x : State) : Type 0 where
  pub one : (i j m n : ℕ) → FirstPair x i j → FirstPair x m n → (i ≡ m) × (j ≡ n)
  pub none : NoPair x → (i j : ℕ) → FirstPair x i j → ⊥
