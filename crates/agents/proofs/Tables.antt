-- A ledger whose table of agents is another.
use Rattle.std.proofs.Common.{◌≡◌, ℕ, List, get_or, set, Some, None, Ok, Err, sym, ap, subst}
use Rattle.std.proofs.lemmas.List.{set-get_or}
use Rattle.terms.specs.declared.calls.Refusal.{Refusal}
use Rattle.terms.specs.declared.ledger.Ledger.{Ledger}
use Rattle.terms.specs.declared.records.Agent.{Agent}
use Rattle.definitions.specs.Questions.{Question, Step, first_no, reply_to}
use Rattle.definitions.specs.Sound.{AgentRanged, Kempt}
use Rattle.definitions.specs.States.{Kept, kept_of, no_agent}
use Rattle.definitions.proofs.Ranges.{ranged_agent}

abbrev pub with_table : Ledger → List Agent → Ledger
with_table l gs =
    record { opened = l.opened; today = l.today; securities = l.securities; agents = gs; requests = l.requests; loans = l.loans }

-- One agent's record changes, and nothing else.
pub kempt_agent : (l : Ledger) → Kempt l → (g : ℕ) (a : Agent) → AgentRanged a → Kempt (with_table l (set l.agents g a))
kempt_agent l kempt g a r =
    let n = kempt.neat in
    record { neat = record { lending = n.lending; borrowing = n.borrowing; loans = n.loans }; ranged = ranged_agent (kept_of l) kempt.ranged g a r }

-- A record that was lent and comes back as it was.
module _ (l : Ledger) (g : ℕ) where
  same_ledger : with_table l (set l.agents g (get_or l.agents g no_agent)) ≡ l
  same_ledger = ap (with_table l) (set-get_or l.agents g no_agent)

  pub kempt_back : Kempt l → Kempt (with_table l (set l.agents g (get_or l.agents g no_agent)))
  kempt_back kempt = subst Kempt (sym same_ledger) kempt

  pub refused : {X : Type 0} (qs : List Question) (v : X) (new : Kept) (r : Refusal) → first_no qs ≡ Some r
      → Step qs v new (kept_of l) (kept_of (with_table l (set l.agents g (get_or l.agents g no_agent)))) (Err r)
  refused qs v new r e = record { answers = sym (ap (λ o. reply_to o v) e); leaves = ap kept_of same_ledger }

pub done : {X : Type 0} (qs : List Question) (v : X) (new x y : Kept) → first_no qs ≡ None → y ≡ new → Step qs v new x y (Ok v)
done qs v new x y e s = record { answers = sym (ap (λ o. reply_to o v) e); leaves = s }
