-- The state that a book stands for, over any register and any calendar, and what a call that is put to it does.
use Rattle.std.specs.Prelude.{◌≡◌, Result}
use Rattle.calendar.specs.declared.Calendar.{Ghosts as CalendarOf}
use Rattle.register.specs.declared.Register.{Ghosts as RegisterOf}
use Rattle.terms.specs.declared.calls.Call.{Call}
use Rattle.terms.specs.declared.calls.Refusal.{Refusal}
use Rattle.definitions.specs.Calls.{asks, does}
use Rattle.definitions.specs.Questions.{Step}
use Rattle.definitions.specs.States.{State, state}
use Rattle.book.specs.declared.books.Book.{Book}

abbrev pub state_of : {R C : Type 0} {r : RegisterOf R} {c : CalendarOf C} → Book R C r c → State
state_of {r = r} b = state (r.holdings b.register) b.ledger

-- The call c was put to the book b, which then is b', and answered a, which is v where it was accepted: by its questions, with what it
-- does. Its calendar, and what lies around its register, stay.
pub record Called {R C X : Type 0} {r : RegisterOf R} {s : CalendarOf C} (c : Call) (v : X) (b b' : Book R C r s) (a : Result X Refusal) : Type 0 where
  pub step : Step (asks (state_of b) c) v (does (state_of b) c) (state_of b) (state_of b') a
  pub calendar : b'.calendar ≡ b.calendar
  pub around : r.frame b'.register ≡ r.frame b.register
