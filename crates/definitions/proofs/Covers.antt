-- After each accepted call no clear agent is short.
use Rattle.std.proofs.Common.{◌≡◌, ℕ, ◌+◌, ◌*◌, ◌<◌, ◌≤◌, Bool, true, false, cond, eqb, leb, ◌⊎◌, length, get_or, None, unwrap_or, sym, refl, ap, ◌∙◌, inl, inr, ⊎_elim, arith}
use Rattle.std.proofs.lemmas.List.{length-set}
use Rattle.std.proofs.lemmas.Bool.{and_parts, leb-true, ltb-false, false≢true}
use Rattle.terms.specs.declared.calls.Call.{Call}
use Rattle.terms.specs.declared.calls.Call.TheVariants as call
use Rattle.terms.specs.declared.records.Agent.{Agent}
use Rattle.terms.specs.declared.records.Event.TheVariants as event
use Rattle.terms.specs.declared.records.Request.{Request}
use Rattle.terms.specs.declared.records.Security.{Security}
use Rattle.terms.specs.declared.records.Standing.{Standing}
use Rattle.terms.specs.declared.records.Standing.TheVariants.{Clear, Notified, Suspended}
use Rattle.definitions.specs.Calls.{asks, does}
use Rattle.definitions.specs.Cover.{price_in, need, needed_in, need_for, request_exposure, loan_exposure, points, covers, short_in, standing_after}
use Rattle.definitions.specs.Listing.{with_security, as_eligible, as_posted, made_eligible, in_security}
use Rattle.definitions.specs.Pledges.{with_agent, cents_of, weight_at, unpledge_asks}
use Rattle.definitions.specs.Questions.{first_no}
use Rattle.definitions.specs.Requests.{taken_out}
use Rattle.definitions.specs.Standings.{at_noon, noon_does}
use Rattle.definitions.specs.States.{State, Kept, agent_in, security_in, no_agent, no_security, is_clear, total}
use Rattle.definitions.proofs.Asked.{all_yes}
use Rattle.definitions.proofs.Points.{points_raised, points_lowered}
use Rattle.definitions.proofs.Tables.{at_set, at_each, length_from}
use Rattle.definitions.proofs.Totals.{total_parted, total_same}

-- Each clear agent's points cover what it needs.
pub record Covered (k : Kept) : Type 0 where
  pub covered : (g : ℕ) → g < length k.agents → is_clear (agent_in k g).standing ≡ true → needed_in k g ≤ points (agent_in k g).cents

-- No more is needed of the same agents.
less_covered : (k m : Kept) → m.agents ≡ k.agents → ((g : ℕ) → needed_in m g ≤ needed_in k g) → Covered k → Covered m
less_covered k m e less h =
    let same : (g : ℕ) → agent_in m g ≡ agent_in k g = λ g. ap (λ gs. get_or gs g no_agent) e in
    record {
      covered = λ g l c.
          omega (arith, less g, h.covered g (omega (arith, ap (length {A = Agent}) e)) (sym (ap (λ (a : Agent). is_clear a.standing) (same g)) ∙ c), ap (λ (a : Agent). points a.cents) (same g));
    }

-- One agent's record changes.
agent_covered : (k : Kept) (g : ℕ) (a : Agent) → (g < length k.agents → is_clear a.standing ≡ true → needed_in k g ≤ points a.cents) → Covered k → Covered (with_agent k g a)
agent_covered k g a one h =
    let all = at_set (λ n b. n < length k.agents → is_clear b.standing ≡ true → needed_in k n ≤ points b.cents) k.agents g a no_agent one (λ n. h.covered n) in
    record { covered = λ n l. all n (omega (arith, length-set k.agents g a)) }

-- The prices in force stay, and requests and loans.
same_prices : (k m : Kept) → ((s : ℕ) → price_in m s ≡ price_in k s) → m.borrowing ≡ k.borrowing → m.loans ≡ k.loans → (g : ℕ) → needed_in m g ≡ needed_in k g
same_prices k m p b l g =
    omega (
      arith,
      ap (total (λ r. need_for m g (request_exposure r))) b,
      ap (total (λ r. need_for m g (loan_exposure r))) l,
      total_same (λ r. need_for m g (request_exposure r)) (λ r. need_for k g (request_exposure r)) (λ r. ap (λ (n : ℕ). cond (eqb r.request.agent g) (need r.request.left n) 0) (p r.request.security)) k.borrowing,
      total_same (λ r. need_for m g (loan_exposure r)) (λ r. need_for k g (loan_exposure r)) (λ r. ap (λ (n : ℕ). cond (eqb r.borrower.agent g) (need r.quantity n) 0) (p r.security)) k.loans,
    )

security_needed : (x : State) (s : ℕ) (r : Security) → r.price ≡ (security_in x.kept s).price → (g : ℕ) → needed_in (with_security x s r).kept g ≡ needed_in x.kept g
security_needed x s r e =
    same_prices x.kept (with_security x s r).kept
    (at_set (λ t q. unwrap_or q.price 0 ≡ price_in x.kept t) x.kept.securities s r no_security (ap (λ o. unwrap_or o 0) e) (λ t. refl)) refl refl

taken_needed : (test : Request → Bool) (x : State) (g : ℕ) → needed_in (taken_out test x).kept g ≤ needed_in x.kept g
taken_needed test x g =
    omega (arith, total_parted (λ b. need_for x.kept g (request_exposure b)) (λ b. test b.request) x.kept.borrowing)

-- Who is clear after an event.
never : {X : Type 0} → false ≡ true → X
never e = absurd (false≢true e)

not_suspended : (s : Standing) → is_clear (standing_after s event.Suspend) ≡ true → ⊥
not_suspended Clear e = never e
not_suspended Notified e = never e
not_suspended Suspended e = never e

clear_at_noon : (s : Standing) (b : Bool) → is_clear (standing_after s (event.Noon b)) ≡ true → (is_clear s ≡ true) ⊎ (b ≡ false)
clear_at_noon Clear b e = inl refl
clear_at_noon Notified true e = never e
clear_at_noon Notified false e = inr refl
clear_at_noon Suspended b e = never e

noon_covered : (k : Kept) → Covered k → Covered (noon_does k)
noon_covered k h =
    let all = at_each (λ n b. n < length k.agents → is_clear b.standing ≡ true → needed_in k n ≤ points b.cents) (at_noon k) k.agents no_agent
    (λ n l c. ⊎_elim (λ e. h.covered n l e) (λ e. ltb-false _ _ e) (clear_at_noon (agent_in k n).standing (short_in k n) c))
    (λ n past l c. absurd (omega arith)) in
    record { covered = λ n l. all n (omega (arith, length_from (at_noon k) 0 k.agents)) }

-- Any accepted call.
pub does_covered : (x : State) (c : Call) → first_no (asks x c) ≡ None → Covered x.kept → Covered (does x c).kept
does_covered x (call.Admit s) e h = less_covered x.kept _ refl (λ g. omega (arith, security_needed x s (as_eligible (security_in x.kept s) true) refl g)) h
does_covered x (call.Stop s) e h =
    less_covered x.kept _ refl (λ g. omega (arith, taken_needed (in_security s) (made_eligible x s false) g, security_needed x s (as_eligible (security_in x.kept s) false) refl g)) h
does_covered x (call.Price s p) e h = less_covered x.kept _ refl (λ g. omega (arith, security_needed x s (as_posted (security_in x.kept s) p) refl g)) h
does_covered x (call.Deposit a s q) e h = h
does_covered x (call.Withdraw a s q) e h = h
does_covered x (call.Trade a b s q) e h = h
does_covered x (call.Pledge g kind c) e h =
    let k = x.kept in
    agent_covered k g _ (λ l d. omega (arith, h.covered g l d, points_raised (agent_in k g).cents kind (cents_of k g kind + c) (omega arith))) h
does_covered x (call.Unpledge g kind c) e h =
    let k = x.kept in
    let q = and_parts (leb c (cents_of k g kind)) (covers k g (c * weight_at kind)) (all_yes (unpledge_asks k g kind c) e).1.1.1.0 in
    agent_covered k g _ (λ l d. omega (arith, leb-true _ _ q.1, points_lowered (agent_in k g).cents kind c (leb-true _ _ q.0))) h
does_covered x (call.Suspend g) e h =
    let k = x.kept in agent_covered k g _ (λ l d. absurd (not_suspended (agent_in k g).standing d)) h
does_covered x call.Noon e h = noon_covered x.kept h
