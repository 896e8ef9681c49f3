-- The law of runs, by one step after another.
use Rattle.std.proofs.Common.{◌≡◌, ℕ, ◌+◌, Bool, false, cond, List, [], ◌∷◌, length, Some, None, Ok, Option, refl, ◌∙◌, arith}
use Rattle.std.specs.List.{AllByRecursion as Each}
use Rattle.std.proofs.lemmas.List.{length-set}
use Rattle.std.proofs.lemmas.Bool.{leb-true, le-ltb}
use Rattle.std.proofs.lemmas.Bool.Decides.{nat_tests}
use Rattle.register.specs.Holdings.{Holdings, registered, debited}
use Rattle.ordered.specs.Selected.{those}
use Rattle.terms.specs.declared.calls.Call.{Call}
use Rattle.terms.specs.declared.calls.Call.TheVariants as call
use Rattle.terms.specs.declared.calls.Refusal.{Refusal}
use Rattle.definitions.specs.Calls.{asks, answer, does, lines}
use Rattle.definitions.specs.Custody.{withdraw_asks, trade_asks}
use Rattle.definitions.specs.Law.{out_on_loan, borrowed, stands, given_out, movement, moved, incoming_by, outgoing_by, incoming, outgoing, closings, cash_closings, line_closings, loans_said, InTime, LawOfRuns}
use Rattle.definitions.specs.Limits.{agent_count, within}
use Rattle.definitions.specs.Listing.{made_eligible, in_security}
use Rattle.definitions.specs.Matching.{NoPair}
use Rattle.definitions.specs.Questions.{first_no, reply_to, left_by}
use Rattle.definitions.specs.Requests.{left_of}
use Rattle.definitions.specs.Runs.{Entry, step, trace, after, written_by}
use Rattle.definitions.specs.Standings.{at_noon}
use Rattle.definitions.specs.States.{State, opening, total}
use Rattle.definitions.proofs.Asked.{all_yes}
use Rattle.definitions.proofs.Covers.{Covered, does_covered}
use Rattle.definitions.proofs.Fitness.{none_reserved_lem}
use Rattle.definitions.proofs.Lines.{credited_line, debited_line}
use Rattle.definitions.proofs.Released.{backs_those, released_line, taken_reserved}
use Rattle.definitions.proofs.Tables.{length_from}
use Rattle.definitions.proofs.Unmatched.{does_none}

-- What is reserved is what is left of the lending requests.
record Backed (x : State) : Type 0 where
  backed : (a s : ℕ) → x.held.reserved a s ≡ left_of x.kept.lending a s

-- From x to y the line (a, s) received i and gave o.
record Shift (a s : ℕ) (x y : State) (i o : ℕ) : Type 0 where
  even : registered y.held a s + out_on_loan y a s + o + borrowed x a s ≡ registered x.held a s + out_on_loan x a s + i + borrowed y a s

shift_none : (a s : ℕ) (x : State) → Shift a s x x 0 0
shift_none a s x = record { even = refl }

shift_both : {a s : ℕ} {x y z : State} {i o j p : ℕ} → Shift a s x y i o → Shift a s y z j p → Shift a s x z (i + j) (o + p)
shift_both h k = record { even = omega (arith, h.even, k.even) }

-- What an accepted call moves on each line.
does_shifts : (x : State) (c : Call) → Backed x → first_no (asks x c) ≡ None → (a s : ℕ)
    → Shift a s x (does x c) (incoming_by a s (movement x c)) (outgoing_by a s (movement x c))
does_shifts x (call.Admit t) k e a s = record { even = refl }
does_shifts x (call.Stop t) k e a s =
    record { even = omega (arith, released_line x.held (those (λ l. in_security t l.request) x.kept.lending) (backs_those (in_security t) x k.backed) a s) }
does_shifts x (call.Price t p) k e a s = record { even = refl }
does_shifts x (call.Deposit b t q) k e a s = record { even = omega (arith, credited_line x.held b t q a s) }
does_shifts x (call.Withdraw b t q) k e a s =
    record { even = omega (arith, debited_line x.held b t q a s (leb-true q (x.held.free b t) (all_yes (withdraw_asks x b t q) e).1.1.1.0)) }
does_shifts x (call.Trade b d t q) k e a s =
    let h = x.held in
    record { even = omega (arith, debited_line h b t q a s (leb-true q (h.free b t) (all_yes (trade_asks x b d t q) e).1.1.1.0), credited_line (debited h b t q) d t q a s) }
does_shifts x (call.Pledge g kind c) k e a s = record { even = refl }
does_shifts x (call.Unpledge g kind c) k e a s = record { even = refl }
does_shifts x (call.Suspend g) k e a s = record { even = refl }
does_shifts x call.Noon k e a s = record { even = refl }

does_backed : (x : State) (c : Call) → Backed x → Backed (does x c)
does_backed x (call.Admit t) k = record { backed = k.backed }
does_backed x (call.Stop t) k = record { backed = taken_reserved (in_security t) (made_eligible x t false) k.backed }
does_backed x (call.Price t p) k = record { backed = k.backed }
does_backed x (call.Deposit b t q) k = record { backed = k.backed }
does_backed x (call.Withdraw b t q) k = record { backed = k.backed }
does_backed x (call.Trade b d t q) k = record { backed = k.backed }
does_backed x (call.Pledge g kind c) k = record { backed = k.backed }
does_backed x (call.Unpledge g kind c) k = record { backed = k.backed }
does_backed x (call.Suspend g) k = record { backed = k.backed }
does_backed x call.Noon k = record { backed = k.backed }

-- What an accepted call does to references: those that stand, those given out, and those that it closes.
record Named (n : ℕ) (x : State) (c : Call) : Type 0 where
  even : stands n (does x c) + (cash_closings n (movement x c) + line_closings n (lines x c)) + given_out n x ≡ stands n x + given_out n (does x c)
  made : (does x c).kept.references ≡ x.kept.references + loans_said (Ok (answer x c))

does_named : (n : ℕ) (x : State) (c : Call) → Named n x c
does_named n x (call.Admit t) = record { even = omega arith; made = omega arith }
does_named n x (call.Stop t) = record { even = omega arith; made = omega arith }
does_named n x (call.Price t p) = record { even = omega arith; made = omega arith }
does_named n x (call.Deposit b t q) = record { even = omega arith; made = omega arith }
does_named n x (call.Withdraw b t q) = record { even = omega arith; made = omega arith }
does_named n x (call.Trade b d t q) = record { even = omega arith; made = omega arith }
does_named n x (call.Pledge g kind c) = record { even = omega arith; made = omega arith }
does_named n x (call.Unpledge g kind c) = record { even = omega arith; made = omega arith }
does_named n x (call.Suspend g) = record { even = omega arith; made = omega arith }
does_named n x call.Noon = record { even = omega arith; made = omega arith }

-- The lines that an accepted call writes are in time.
lines_timely : (days : ℕ → Bool) (x : State) (c : Call) → Each (InTime days x) (lines x c)
lines_timely days x (call.Admit t) = tt
lines_timely days x (call.Stop t) = tt
lines_timely days x (call.Price t p) = tt
lines_timely days x (call.Deposit b t q) = tt
lines_timely days x (call.Withdraw b t q) = tt
lines_timely days x (call.Trade b d t q) = tt
lines_timely days x (call.Pledge g kind c) = tt
lines_timely days x (call.Unpledge g kind c) = tt
lines_timely days x (call.Suspend g) = tt
lines_timely days x call.Noon = tt

-- The table of agents keeps its length.
does_long : (x : State) (c : Call) → length (does x c).kept.agents ≡ length x.kept.agents
does_long x (call.Admit t) = refl
does_long x (call.Stop t) = refl
does_long x (call.Price t p) = refl
does_long x (call.Deposit b t q) = refl
does_long x (call.Withdraw b t q) = refl
does_long x (call.Trade b d t q) = refl
does_long x (call.Pledge g kind c) = length-set x.kept.agents g _
does_long x (call.Unpledge g kind c) = length-set x.kept.agents g _
does_long x (call.Suspend g) = length-set x.kept.agents g _
does_long x call.Noon = length_from (at_noon x.kept) 0 x.kept.agents

-- What holds of every state that calls reach: `closed n` is how often the reference n was closed so far, and `made` how many loans were
-- answered.
record Good (closed : ℕ → ℕ) (made : ℕ) (x : State) : Type 0 where
  backed : Backed x
  named : (n : ℕ) → stands n x + closed n ≡ given_out n x
  loans : x.kept.references ≡ made
  none : NoPair x
  covered : Covered x.kept
  long : length x.kept.agents ≡ agent_count

-- What one entry does.
record Stepped (days : ℕ → Bool) (closed : ℕ → ℕ) (made : ℕ) (e : Entry) : Type 0 where
  shifts : (a s : ℕ) → Shift a s e.before e.reply.leaves (incoming_by a s (moved e)) (outgoing_by a s (moved e))
  good : Good (λ n. closed n + (cash_closings n (moved e) + line_closings n e.reply.writes)) (made + loans_said e.reply.says) e.reply.leaves
  timely : Each (InTime days e.before) e.reply.writes

-- An entry by the first no.
abbrev entry_by : State → Call → Option Refusal → Entry
entry_by x c o = record {
  before = x;
  asked = c;
  reply = record { says = reply_to o (answer x c); writes = written_by (reply_to o (answer x c)) (lines x c); leaves = left_by (reply_to o (answer x c)) (does x c) x };
}

stepped_by : (days : ℕ → Bool) (closed : ℕ → ℕ) (made : ℕ) (x : State) (c : Call) (o : Option Refusal) → first_no (asks x c) ≡ o → Good closed made x → Stepped days closed made (entry_by x c o)
stepped_by days closed made x c (Some r) e h = record {
  shifts = λ a s. shift_none a s x;
  good = record { backed = h.backed; named = λ n. omega (arith, h.named n); loans = omega (arith, h.loans); none = h.none; covered = h.covered; long = h.long };
  timely = tt;
}
stepped_by days closed made x c None e h = record {
  shifts = does_shifts x c h.backed e;
  good = record {
    backed = does_backed x c h.backed;
    named = λ n. omega (arith, h.named n, (does_named n x c).even);
    loans = omega (arith, h.loans, (does_named 0 x c).made);
    none = does_none x c h.none;
    covered = does_covered x c e h.covered;
    long = does_long x c ∙ h.long;
  };
  timely = lines_timely days x c;
}

stepped : (days : ℕ → Bool) (closed : ℕ → ℕ) (made : ℕ) (x : State) (c : Call) → Good closed made x → Stepped days closed made (record { before = x; asked = c; reply = step x c })
stepped days closed made x c h = stepped_by days closed made x c (first_no (asks x c)) refl h

-- What a run does.
record Runs (days : ℕ → Bool) (closed : ℕ → ℕ) (made : ℕ) (x : State) (es : List Entry) (y : State) : Type 0 where
  shifts : (a s : ℕ) → Shift a s x y (incoming a s es) (outgoing a s es)
  good : Good (λ n. closed n + closings n es) (made + total (λ e. loans_said e.reply.says) es) y
  timely : Each (λ e. Each (InTime days e.before) e.reply.writes) es

runs : (days : ℕ → Bool) (cs : List Call) (closed : ℕ → ℕ) (made : ℕ) (x : State) → Good closed made x → Runs days closed made x (trace x cs) (after x cs)
runs days [] closed made x h = record {
  shifts = λ a s. shift_none a s x;
  good = record { backed = h.backed; named = λ n. omega (arith, h.named n); loans = omega (arith, h.loans); none = h.none; covered = h.covered; long = h.long };
  timely = tt;
}
runs days (c ∷ cs) closed made x h =
    let one = stepped days closed made x c h in
    let rest = runs days cs _ _ (step x c).leaves one.good in
    record {
      shifts = λ a s. shift_both (one.shifts a s) (rest.shifts a s);
      good = record {
        backed = rest.good.backed;
        named = λ n. omega (arith, rest.good.named n);
        loans = omega (arith, rest.good.loans);
        none = rest.good.none;
        covered = rest.good.covered;
        long = rest.good.long;
      };
      timely = (one.timely, rest.timely);
    }

none_given : (n : ℕ) → ◌≡◌ {A = ℕ} (cond (within 1 0 n) 1 0) 0
none_given n = grind (arith, nat_tests)

opening_good : (h : Holdings) (day : ℕ) → ((a s : ℕ) → h.reserved a s ≡ 0) → Good (λ n. 0) 0 (opening h day)
opening_good h day z = record {
  backed = record { backed = z };
  named = λ n. omega (arith, none_given n);
  loans = refl;
  none = λ i j p. omega (arith, p.lending);
  covered = record { covered = λ g l c. omega arith };
  long = refl;
}

pub law : LawOfRuns
unfolding LawOfRuns
law days h day cs e out =
    let r = runs days cs (λ n. 0) 0 (opening h day) (opening_good h day (none_reserved_lem h e out)) in
    record {
      balance = λ a s. omega (arith, (r.shifts a s).even);
      reserved = r.good.backed.backed;
      references = λ n. omega (arith, r.good.named n);
      loans = omega (arith, r.good.loans);
      in_time = r.timely;
      unmatched = r.good.none;
      covered = λ g l c. le-ltb _ _ (r.good.covered.covered g (omega (arith, r.good.long)) c);
    }
