-- What a register holds for lending requests.
use Rattle.std.specs.Prelude.{ℕ, ◌<◌, ◌≤◌, List}
use Rattle.std.specs.List.{AllByRecursion as Each}
use Rattle.register.specs.Holdings.{Holdings, Inside, the_cap, total_of}
use Rattle.terms.specs.declared.records.LendingRequest.{LendingRequest}
use Rattle.definitions.specs.Requests.{left_of}

-- Each request is on a line that there is, what is left of them is reserved, and no security has more shares than the cap.
pub record Lent (h : Holdings) (ls : List LendingRequest) : Type 0 where
  pub lines : Each (λ l. Inside h l.request.account l.request.security) ls
  pub enough : (a s : ℕ) → left_of ls a s ≤ h.reserved a s
  pub capped : (s : ℕ) → s < h.securities → total_of h s ≤ the_cap
