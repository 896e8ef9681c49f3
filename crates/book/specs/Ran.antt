-- What a run leaves.
use Rattle.std.specs.Prelude.{◌≡◌, ℕ, true, List, map, vec_items}
use Rattle.calendar.specs.declared.Calendar.{Ghosts as CalendarOf}
use Rattle.register.specs.declared.Register.{Ghosts as RegisterOf}
use Rattle.terms.specs.declared.calls.Call.{Call}
use Rattle.definitions.specs.Law.{Law}
use Rattle.definitions.specs.Runs.{after, answers, trace}
use Rattle.definitions.specs.States.{fit, opening}
use Rattle.book.specs.Meaning.{state_of}
use Rattle.book.specs.declared.runs.Finished.{Finished}

-- The run of a list of calls from a book that opened on the register and the calendar that were given.
pub record Ran {R C : Type 0} {r : RegisterOf R} {c : CalendarOf C} (register : R) (calendar : C) (day : ℕ) (calls : List Call) (x : Finished R C r c) : Type 0 where
  -- the journal holds exactly the calls that were given, each with its answer
  pub asked : map (λ e. e.call) (vec_items x.journal) ≡ calls
  pub answered : map (λ e. e.answer) (vec_items x.journal) ≡ answers (opening (r.holdings register) day) calls
  -- the book is what the steps leave
  pub leaves : state_of x.book ≡ after (opening (r.holdings register) day) calls
  -- its calendar, and what lies around its register, are as they were
  pub days : x.book.calendar ≡ calendar
  pub around : r.frame x.book.register ≡ r.frame register
  -- and where the register was fit, the law of runs holds
  pub law : fit (r.holdings register) ≡ true → Law (c.business calendar) (opening (r.holdings register) day) (trace (opening (r.holdings register) day) calls) (state_of x.book)
