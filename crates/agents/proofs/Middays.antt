-- Noon comes to each agent.
use Rattle.std.proofs.Common.{◌≡◌, ◌≢◌, ℕ, zero, suc, ◌+◌, ◌<◌, ◌≤◌, Bool, true, ◌&&◌, Ok, List, [], ◌∷◌, length, map, get_or, set, refl, sym, ap, ◌∙◌, subst, ⊎_elim, arith, below_more}
use Rattle.std.specs.Array.{IsFromFnResult, IsFromFnResultFrom}
use Rattle.std.specs.Fn.{Called, Mut}
use Rattle.std.specs.List.{AllByRecursion as Each, count_by, filter, range_with_len}
use Rattle.std.proofs.lemmas.List.Sums.{length-filter}
use Rattle.std.proofs.lemmas.Bool.{cases_eq}
use Rattle.std.proofs.lemmas.List.{ext_get_or, get_or_default, get_or-set_other, get_or-set_same, length-set}
use Rattle.std.proofs.lemmas.List.FromFn.{fill_by_all}
use Rattle.terms.specs.declared.ledger.Ledger.{Ledger}
use Rattle.terms.specs.declared.records.Agent.{Agent}
use Rattle.terms.specs.declared.records.Event.TheVariants.{Noon}
use Rattle.terms.specs.declared.records.Standing.{Standing}
use Rattle.terms.specs.declared.records.Standing.TheVariants.{Clear, Notified, Suspended}
use Rattle.definitions.specs.Cover.{agent_after, short_in, standing_after}
use Rattle.definitions.specs.Limits.{agent_count}
use Rattle.definitions.specs.Sound.{AgentRanged, Kempt}
use Rattle.definitions.specs.Questions.{Step}
use Rattle.definitions.specs.Standings.{at_noon, noon_asks, noon_does, suspended_at_noon, suspensions}
use Rattle.definitions.specs.States.{Kept, agent_in, is_notified, kept_of, map_from, no_agent, with_agents}
use Rattle.definitions.proofs.Ranges.{event_ranged, ranged_agents}
use Rattle.definitions.proofs.Tables.{at_from, length_from}
use Rattle.agents.proofs.Tables.{with_table}

-- What calls at each number gave, where each leaves the closure as it was.
given : {F B : Type 0} (g : Mut F (ℕ × Unit {0}) B) (f : F) (ys : List B) (h : ℕ → B) → ((i : ℕ) (y : B) (q : F) → Called g f (i, tt) y q → (q ≡ f) × (y ≡ h i))
    → (n i : ℕ) (p : F) → p ≡ f → IsFromFnResultFrom g p ys i n → (j : ℕ) (d : B) → i ≤ j → j < i + n → get_or ys j d ≡ h j
given g f ys h is zero i p e all j d l m = absurd (omega arith)
given g f ys h is (suc n) i p e all j d l m =
    let s = is i all.1 all.0 (subst (λ r. Called g r (i, tt) all.1 all.0) e all.3) in
    ⊎_elim
    (λ (same : i ≡ j). subst (λ m. get_or ys m d ≡ h m) same (all.2.1 d ∙ s.1))
    (λ (ne : i ≡ j → ⊥). given g f ys h is n (i + 1) all.0 s.0 all.4 j d (omega arith) (omega arith))
    (cases_eq i j)

-- Whether an agent is short counts at noon only where it was notified.
noon_counts : (s : Standing) (b : Bool) → standing_after s (Noon (is_notified s && b)) ≡ standing_after s (Noon b)
noon_counts Clear b = refl
noon_counts Notified b = refl
noon_counts Suspended b = refl

ranged : (k : Kept) (from : ℕ) (gs : List Agent) → Each AgentRanged gs → Each AgentRanged (map_from (at_noon k) from gs)
ranged k from [] all = tt
ranged k from (a ∷ gs) all = (event_ranged a (Noon (short_in k from)) all.0, ranged k (suc from) gs all.1)

-- Noon came to the agents before i: now they are ys.
pub record Passing (k : Kept) (ys : List Agent) (i : ℕ) : Type 0 where
  pub long : length ys ≡ agent_count
  pub behind : (j : ℕ) → j < i → get_or ys j no_agent ≡ at_noon k j (agent_in k j)
  pub ahead : (j : ℕ) → i ≤ j → get_or ys j no_agent ≡ agent_in k j

module _ (l : Ledger) (kempt : Kempt l) where
  abbrev k : Kept
  k = kept_of l

  -- the agents after noon
  abbrev pub table : List Agent
  table = map_from (at_noon k) 0 l.agents

  -- whom noon suspends, as it was asked of each
  pub told : {F : Type 0} {g : Mut F (ℕ × Unit {0}) Bool} (f : F) (bs : List Bool) → IsFromFnResult g f bs agent_count
      → ((i : ℕ) (y : Bool) (q : F) → Called g f (i, tt) y q → (q ≡ f) × (y ≡ suspended_at_noon k i))
      → (j : ℕ) (d : Bool) → j < agent_count → get_or bs j d ≡ suspended_at_noon k j
  told {F} {g} f bs made is j d h = given g f bs (suspended_at_noon k) is agent_count 0 f refl made.each j d (omega arith) (omega arith)

  pub counted : (bs : List Bool) → length bs ≡ agent_count → ((j : ℕ) (d : Bool) → j < agent_count → get_or bs j d ≡ suspended_at_noon k j) → (n : ℕ) → n ≡ length (filter (λ b. b) bs) → n ≡ suspensions k
  counted bs long is n e =
      let all : bs ≡ map (suspended_at_noon k) (range_with_len 0 agent_count) = fill_by_all (suspended_at_noon k) bs agent_count true long (λ j h. is j true h) in
      omega (arith, e ∙ length-filter (λ b. b) bs ∙ ap (count_by (λ b. b)) all)

  pub passing_none : Passing k l.agents 0
  passing_none = record { long = kempt.ranged.agents; behind = λ j h. absurd (omega arith); ahead = λ j h. refl }

  pub passing_more : (ys : List Agent) (i : ℕ) (b : Bool) (a d : Agent) → Passing k ys i → i < agent_count → b ≡ suspended_at_noon k i → a ≡ agent_after (get_or ys i d) (Noon b) → Passing k (set ys i a) (i + 1)
  passing_more ys i b a d p h told is =
      let at : get_or ys i d ≡ agent_in k i = get_or_default ys i d no_agent (omega (arith, p.long)) ∙ p.ahead i (omega arith) in
      let here : a ≡ agent_after (agent_in k i) (Noon (suspended_at_noon k i)) = is ∙ ap (λ (x : Agent). agent_after x (Noon b)) at ∙ ap (λ (t : Bool). agent_after (agent_in k i) (Noon t)) told in
      record {
        long = length-set ys i a ∙ p.long;
        behind = below_more _ _
            (λ j h. let ne : j ≢ i = omega arith in get_or-set_other ys i j a no_agent ne ∙ p.behind j h)
            (get_or-set_same ys i a no_agent (omega (arith, p.long)) ∙ here ∙ ap (λ (s : Standing). record { standing = s; cents = (agent_in k i).cents }) (noon_counts (agent_in k i).standing (short_in k i)));
        ahead = λ j h. let ne : j ≢ i = omega arith in get_or-set_other ys i j a no_agent ne ∙ p.ahead j (omega arith);
      }

  all_passed : (ys : List Agent) → Passing k ys agent_count → ys ≡ table
  all_passed ys p =
      ext_get_or no_agent ys table (p.long ∙ sym kempt.ranged.agents ∙ sym (length_from (at_noon k) 0 l.agents))
      (λ j h.
      let z : 0 + j ≡ j = omega arith in
      p.behind j (omega (arith, p.long))
      ∙ sym (at_from (at_noon k) 0 l.agents j no_agent no_agent (omega (arith, p.long, kempt.ranged.agents)) ∙ ap (λ m. at_noon k m (agent_in k j)) z))

  pub kempt_passed : (ys : List Agent) → Passing k ys agent_count → Kempt (with_table l ys)
  kempt_passed ys p = record {
    neat = record { lending = kempt.neat.lending; borrowing = kempt.neat.borrowing; loans = kempt.neat.loans };
    ranged = ranged_agents k kempt.ranged ys p.long (subst (Each AgentRanged) (sym (all_passed ys p)) (ranged k 0 l.agents kempt.ranged.collateral));
  }

  pub step_passed : l.opened ≡ true → (ys : List Agent) → Passing k ys agent_count → (n : ℕ) → n ≡ suspensions k
      → Step (noon_asks k) (suspensions k) (noon_does k) k (kept_of (with_table l ys)) (Ok n)
  step_passed opened ys p n count =
      record { answers = rw (opened, count) refl; leaves = ap (with_agents k) (all_passed ys p) }
