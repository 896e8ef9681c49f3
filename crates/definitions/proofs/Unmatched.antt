-- After each accepted call no pair of requests is left.
use Rattle.std.proofs.Common.{◌≡◌, ℕ, zero, suc, ◌<◌, Bool, true, false, not, List, [], ◌∷◌, length, get_or, sym, refl, ap, ◌∙◌, subst, ⊎_elim, arith}
use Rattle.std.proofs.lemmas.Bool.{both_ways, not-true, not_from_false, cases_Bool, false≢true}
use Rattle.ordered.specs.Selected.{keep_if, those}
use Rattle.terms.specs.declared.calls.Call.{Call}
use Rattle.terms.specs.declared.calls.Call.TheVariants as call
use Rattle.terms.specs.declared.records.Agent.{Agent}
use Rattle.terms.specs.declared.records.BorrowingRequest.{BorrowingRequest}
use Rattle.terms.specs.declared.records.Event.TheVariants as event
use Rattle.terms.specs.declared.records.LendingRequest.{LendingRequest}
use Rattle.terms.specs.declared.records.Request.{Request}
use Rattle.terms.specs.declared.records.Standing.{Standing}
use Rattle.terms.specs.declared.records.Standing.TheVariants.{Clear, Notified, Suspended}
use Rattle.definitions.specs.Calls.{does}
use Rattle.definitions.specs.Cover.{standing_after, short_in}
use Rattle.definitions.specs.Listing.{made_eligible, in_security}
use Rattle.definitions.specs.Matching.{Matches, NoPair, active}
use Rattle.definitions.specs.Pledges.{with_agent}
use Rattle.definitions.specs.Requests.{taken_out}
use Rattle.definitions.specs.Standings.{at_noon, noon_does}
use Rattle.definitions.specs.States.{State, Kept, agent_in, no_agent, no_lending, no_borrowing, is_suspended, suspended, with_kept}
use Rattle.definitions.proofs.Tables.{at_set, at_each}

-- Whoever was suspended still is.
record Weaker (k m : Kept) : Type 0 where
  still : (g : ℕ) → suspended k g ≡ true → suspended m g ≡ true

same_weaker : (k m : Kept) → m.agents ≡ k.agents → Weaker k m
same_weaker k m e = record { still = λ g s. ap (λ gs. is_suspended (get_or gs g no_agent).standing) e ∙ s }

was_active : (x y : State) → Weaker x.kept y.kept → (r : Request) → active y r ≡ true → active x r ≡ true
was_active x y w r e =
    not_from_false _ (⊎_elim (λ t. absurd (both_ways _ (not-true _ e) (w.still r.agent t))) (λ f. f) (cases_Bool (suspended x.kept r.agent)))

matched_before : (x y : State) → Weaker x.kept y.kept → (l b : Request) → Matches y l b → Matches x l b
matched_before x y w l b m =
    record { security = m.security; accounts = m.accounts; active = (was_active x y w l m.active.0, was_active x y w b m.active.1); rate = m.rate; duration = m.duration; sharing = m.sharing }

-- Each of ys stands among xs.
record Among {X : Type 0} (d : X) (xs ys : List X) : Type 0 where
  found : (i : ℕ) → i < length ys → (k : ℕ) × (k < length xs) × (get_or xs k d ≡ get_or ys i d)

no_pair_from : (x y : State) → Weaker x.kept y.kept → Among no_lending x.kept.lending y.kept.lending → Among no_borrowing x.kept.borrowing y.kept.borrowing → NoPair x → NoPair y
no_pair_from x y w ls bs none i j p =
    let l = ls.found i p.lending in
    let b = bs.found j p.borrowing in
    none l.0 b.0 (record {
      lending = l.1;
      borrowing = b.1;
      partners = matched_before x y w _ _
          (subst (λ (m : LendingRequest). Matches y m.request (get_or x.kept.borrowing b.0 no_borrowing).request) (sym l.2)
          (subst (λ (m : BorrowingRequest). Matches y (get_or y.kept.lending i no_lending).request m.request) (sym b.2) p.partners));
    })

same_among : {X : Type 0} (d : X) (xs ys : List X) → ys ≡ xs → Among d xs ys
same_among d xs ys e = record { found = λ i l. (i, omega (arith, ap length e), ap (λ zs. get_or zs i d) (sym e)) }

kept_among : {X : Type 0} (d : X) (b : Bool) (x : X) (xs ys : List X) → Among d xs ys → Among d (x ∷ xs) (keep_if b x ys)
kept_among d true x xs ys h = record { found = at }
  where
    at : (i : ℕ) → i < length (x ∷ ys) → (k : ℕ) × (k < length (x ∷ xs)) × (get_or (x ∷ xs) k d ≡ get_or (x ∷ ys) i d)
    at zero l = (0, omega arith, refl)
    at (suc i) l = let r = h.found i (omega arith) in (suc r.0, omega (arith, r.1), r.2)
kept_among d false x xs ys h = record { found = λ i l. let r = h.found i l in (suc r.0, omega (arith, r.1), r.2) }

those_among : {X : Type 0} (d : X) (test : X → Bool) (xs : List X) → Among d xs (those test xs)
those_among d test [] = record { found = λ i l. absurd (omega arith) }
those_among d test (x ∷ xs) = kept_among d (test x) x xs (those test xs) (those_among d test xs)

taken_none : (test : Request → Bool) (x : State) → NoPair x → NoPair (taken_out test x)
taken_none test x none =
    no_pair_from x (taken_out test x) (same_weaker _ _ refl) (those_among no_lending (λ l. not (test l.request)) x.kept.lending) (those_among no_borrowing (λ b. not (test b.request)) x.kept.borrowing) none

-- Agents change, and no request.
agents_none : (x y : State) → Weaker x.kept y.kept → y.kept.lending ≡ x.kept.lending → y.kept.borrowing ≡ x.kept.borrowing → NoPair x → NoPair y
agents_none x y w l b none = no_pair_from x y w (same_among no_lending _ _ l) (same_among no_borrowing _ _ b) none

-- One agent's record changes, and it is suspended if it was.
agent_none : (x : State) (g : ℕ) (a : Agent) → (suspended x.kept g ≡ true → is_suspended a.standing ≡ true) → NoPair x → NoPair (with_kept x (with_agent x.kept g a))
agent_none x g a e none =
    let k = x.kept in
    agents_none x (with_kept x (with_agent k g a)) (record { still = at_set (λ n b. suspended k n ≡ true → is_suspended b.standing ≡ true) k.agents g a no_agent e (λ n s. s) }) refl refl none

-- Suspension outlasts noon and being suspended.
stays_suspended : (s : Standing) (b : Bool) → is_suspended s ≡ true → (is_suspended (standing_after s (event.Noon b)) ≡ true) × (is_suspended (standing_after s event.Suspend) ≡ true)
stays_suspended Clear b e = absurd (false≢true e)
stays_suspended Notified b e = absurd (false≢true e)
stays_suspended Suspended b e = (refl, refl)

noon_none : (x : State) → NoPair x → NoPair (with_kept x (noon_does x.kept))
noon_none x none =
    let k = x.kept in
    agents_none x (with_kept x (noon_does k))
    (record { still = at_each (λ n b. suspended k n ≡ true → is_suspended b.standing ≡ true) (at_noon k) k.agents no_agent (λ n e. (stays_suspended (agent_in k n).standing (short_in k n) e).0) (λ n past e. e) }) refl refl none

same_none : (x y : State) → y.kept.agents ≡ x.kept.agents → y.kept.lending ≡ x.kept.lending → y.kept.borrowing ≡ x.kept.borrowing → NoPair x → NoPair y
same_none x y g l b none = agents_none x y (same_weaker _ _ g) l b none

-- Any accepted call.
pub does_none : (x : State) (c : Call) → NoPair x → NoPair (does x c)
does_none x (call.Admit s) none = same_none x _ refl refl refl none
does_none x (call.Stop s) none =
    taken_none (in_security s) (made_eligible x s false) (same_none x (made_eligible x s false) refl refl refl none)
does_none x (call.Price s p) none = same_none x _ refl refl refl none
does_none x (call.Deposit a s q) none = same_none x _ refl refl refl none
does_none x (call.Withdraw a s q) none = same_none x _ refl refl refl none
does_none x (call.Trade a b s q) none = same_none x _ refl refl refl none
does_none x (call.Pledge g kind c) none = agent_none x g _ (λ e. e) none
does_none x (call.Unpledge g kind c) none = agent_none x g _ (λ e. e) none
does_none x (call.Suspend g) none =
    agent_none x g _ (λ e. (stays_suspended (agent_in x.kept g).standing false e).1) none
does_none x call.Noon none = noon_none x none
