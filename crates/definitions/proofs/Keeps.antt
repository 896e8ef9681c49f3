-- Each call keeps a book upright.
use Rattle.std.proofs.Common.{◌≡◌, ℕ, ◌<◌, true, ltb, leb, Some, None, Option, Result, sym, refl, ap, ◌∙◌, subst, arith}
use Rattle.std.proofs.lemmas.Bool.{and_parts, leb-true, ltb-true}
use Rattle.terms.specs.declared.calls.Call.{Call}
use Rattle.terms.specs.declared.calls.Call.TheVariants as call
use Rattle.terms.specs.declared.calls.Refusal.{Refusal}
use Rattle.terms.specs.declared.records.Event.TheVariants.{Suspend}
use Rattle.definitions.specs.Calls.{asks, does}
use Rattle.definitions.specs.Custody.{deposit_asks, withdraw_asks, trade_asks}
use Rattle.definitions.specs.Limits.{most_securities, most_price}
use Rattle.definitions.specs.Listing.{admit_asks, stop_asks, price_asks}
use Rattle.definitions.specs.Pledges.{pledge_asks, unpledge_asks}
use Rattle.definitions.specs.Questions.{Step, first_no, reply_to, left_by, has_line}
use Rattle.definitions.specs.Sound.{Upright}
use Rattle.definitions.specs.Standings.{suspend_asks}
use Rattle.definitions.specs.States.{State}
use Rattle.definitions.proofs.Asked.{all_yes}
use Rattle.definitions.proofs.Keeping.{upright_credited, upright_debited, upright_moved}
use Rattle.definitions.proofs.Ranges.{agent_ranged, event_ranged, upright_agent, upright_cents, upright_cents_less, upright_eligible, upright_posted, upright_stopped, upright_noon}

-- A security that there is has a record.
known : (x : State) → Upright x → x.kept.opened ≡ true → (s : ℕ) → ltb s x.held.securities ≡ true → s < most_securities
known x k o s e = omega (arith, ltb-true _ _ e, (k.borne o).securities)

-- Any accepted call.
pub does_upright : (x : State) (c : Call) → Upright x → first_no (asks x c) ≡ None → Upright (does x c)
does_upright x (call.Admit s) k e =
    let q = all_yes (admit_asks x s) e in upright_eligible x k s true (known x k q.0 s q.1.0)
does_upright x (call.Stop s) k e = let q = all_yes (stop_asks x s) e in upright_stopped x k s (known x k q.0 s q.1.0)
does_upright x (call.Price s p) k e =
    let q = all_yes (price_asks x s p) e in
    upright_posted x k s p (known x k q.0 s q.1.0) (leb-true _ _ (and_parts (leb 1 p) (leb p most_price) q.1.1.0).1)
does_upright x (call.Deposit a s n) k e =
    let q = all_yes (deposit_asks x a s n) e in
    upright_credited x k a s n (ltb-true _ _ (and_parts (ltb a x.held.accounts) (ltb s x.held.securities) q.1.0).0) (λ o. leb-true _ _ q.1.1.1.0)
does_upright x (call.Withdraw a s n) k e =
    let q = all_yes (withdraw_asks x a s n) e in
    upright_debited x k a s n (ltb-true _ _ (and_parts (ltb a x.held.accounts) (ltb s x.held.securities) q.1.0).0) (leb-true _ _ q.1.1.1.0)
does_upright x (call.Trade a b s n) k e =
    let q = all_yes (trade_asks x a b s n) e in
    let lines = and_parts (has_line x a s) (has_line x b s) q.1.0 in
    upright_moved x k a b s n
    (ltb-true _ _ (and_parts (ltb a x.held.accounts) (ltb s x.held.securities) lines.0).0)
    (ltb-true _ _ (and_parts (ltb b x.held.accounts) (ltb s x.held.securities) lines.1).0) (leb-true _ _ q.1.1.1.0)
does_upright x (call.Pledge g kind c) k e =
    let q = all_yes (pledge_asks x.kept g kind c) e in
    upright_cents x k g kind _ (ltb-true _ _ (and_parts (ltb g 16) (ltb kind 4) q.1.0).0) (leb-true _ _ q.1.1.1.0)
does_upright x (call.Unpledge g kind c) k e =
    let q = all_yes (unpledge_asks x.kept g kind c) e in
    upright_cents_less x k g kind c (ltb-true _ _ (and_parts (ltb g 16) (ltb kind 4) q.1.0).0)
does_upright x (call.Suspend g) k e =
    let q = all_yes (suspend_asks x.kept g) e in
    upright_agent x k g _ (event_ranged _ Suspend (agent_ranged x.kept k.ranged g (ltb-true _ _ q.1.0)))
does_upright x call.Noon k e = upright_noon x k

by_answer : (x y : State) (c : Call) (o : Option Refusal) {X : Type 0} (v : X) → Upright x → first_no (asks x c) ≡ o → y ≡ left_by (reply_to o v) (does x c) x → Upright y
by_answer x y c None v k e l = subst Upright (sym l) (does_upright x c k e)
by_answer x y c (Some r) v k e l = subst Upright (sym l) k

-- Any call, accepted or refused, by its step.
pub step_upright : (x y : State) (c : Call) {X : Type 0} (v : X) (r : Result X Refusal) → Upright x → Step (asks x c) v (does x c) x y r → Upright y
step_upright x y c {X} v r k s =
    by_answer x y c (first_no (asks x c)) v k refl (s.leaves ∙ ap (λ (a : Result X Refusal). left_by a (does x c) x) s.answers)
