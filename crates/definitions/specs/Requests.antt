-- Requests that are taken out of their lists.
use Rattle.std.specs.Prelude.{ℕ, ◌+◌, ◌-◌, Bool, List}
use Rattle.register.specs.Holdings.{Holdings}
use Rattle.ordered.specs.Selected.{those, others}
use Rattle.terms.specs.declared.records.LendingRequest.{LendingRequest}
use Rattle.terms.specs.declared.records.Request.{Request}
use Rattle.definitions.specs.States.{State, with_requests, on_line, total}

-- What is left of a lending request, where the line is its own, and of all the requests of a list.
abbrev pub left_on : ℕ → ℕ → LendingRequest → ℕ
left_on a s l = on_line a s l.request.account l.request.security l.request.left

abbrev pub left_of : List LendingRequest → ℕ → ℕ → ℕ
left_of ls a s = total (left_on a s) ls

-- What is left of some lending requests is released: on each line as much moves from reserved to free.
abbrev pub released_all : Holdings → List LendingRequest → Holdings
released_all h ls = record {
  accounts = h.accounts;
  securities = h.securities;
  free = λ a s. h.free a s + left_of ls a s;
  reserved = λ a s. h.reserved a s - left_of ls a s;
}

-- The requests of both lists that pass a test are taken out, and what is left of the lending ones is released.
abbrev pub taken_out : (Request → Bool) → State → State
taken_out test x = record {
  held = released_all x.held (those (λ l. test l.request) x.kept.lending);
  kept = with_requests x.kept (others (λ l. test l.request) x.kept.lending) (others (λ b. test b.request) x.kept.borrowing);
}
