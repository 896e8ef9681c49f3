-- What noon and stop come to.
use Rattle.std.proofs.Common.{◌≡◌, ℕ, ◌+◌, ◌≤◌, Bool, true, false, cond, not, ◌&&◌, List, length, sym, refl, ap, ◌∙◌, subst}
use Rattle.std.specs.List.{AllByRecursion as Each}
use Rattle.std.proofs.ByRecursion.{All-weaker, kept_by_passes}
use Rattle.std.proofs.lemmas.List.{get_or_past}
use Rattle.std.proofs.lemmas.Bool.{not-true, true≢false}
use Rattle.register.proofs.Sums.{sum_both, sum_same}
use Rattle.ordered.specs.Selected.{others}
use Rattle.ordered.proofs.Selections.{those_kept_by}
use Rattle.terms.specs.declared.records.Agent.{Agent}
use Rattle.terms.specs.declared.records.Event.TheVariants.{Noon}
use Rattle.terms.specs.declared.records.Standing.{Standing}
use Rattle.terms.specs.declared.records.Standing.TheVariants.{Clear, Notified, Suspended}
use Rattle.definitions.specs.Cover.{agent_after, short_in, standing_after}
use Rattle.definitions.specs.Limits.{agent_count}
use Rattle.definitions.specs.Listing.{in_security, made_eligible}
use Rattle.definitions.specs.Standings.{at_noon, noon_does, suspended_at_noon}
use Rattle.definitions.specs.States.{Kept, agent_in, is_notified, is_suspended, no_agent, suspended}
use Rattle.definitions.specs.Theorems.{CallsDecide, NoonDecides}
use Rattle.definitions.proofs.Released.{backs_those, released_line}
use Rattle.definitions.proofs.Tables.{at_each}

-- One agent at noon.
one_more : (s : Standing) (b : Bool) → cond (is_suspended (standing_after s (Noon b))) 1 0 ≡ cond (is_suspended s) 1 0 + cond (is_notified s && b) 1 0
one_more Clear b = refl
one_more Notified true = refl
one_more Notified false = refl
one_more Suspended b = refl

none_notified : (s : Standing) (b : Bool) → is_notified (standing_after s (Noon b)) ≡ false
none_notified Clear b = refl
none_notified Notified true = refl
none_notified Notified false = refl
none_notified Suspended b = refl

stays : (a : Agent) (b : Bool) → is_notified a.standing ≡ false → agent_after a (Noon b) ≡ a
stays a b e = by_standing a.standing e
  where
    by_standing : (s : Standing) → is_notified s ≡ false → agent_after (record { standing = s; cents = a.cents }) (Noon b) ≡ record { standing = s; cents = a.cents }
    by_standing Clear e = refl
    by_standing Notified e = absurd (true≢false e)
    by_standing Suspended e = refl

module _ (k : Kept) where
  -- past the last agent nobody stands
  past : (g : ℕ) → length k.agents ≤ g → agent_in k g ≡ no_agent
  past g l = get_or_past k.agents g no_agent l

  more_at : (g : ℕ) → cond (suspended (noon_does k) g) 1 0 ≡ cond (suspended k g) 1 0 + cond (suspended_at_noon k g) 1 0
  more_at = at_each (λ g a. cond (is_suspended a.standing) 1 0 ≡ cond (suspended k g) 1 0 + cond (suspended_at_noon k g) 1 0) (at_noon k) k.agents no_agent
      (λ g. one_more (agent_in k g).standing (short_in k g))
      (λ g l. ap (λ (a : Agent). cond (is_suspended a.standing) 1 0) (past g l) ∙ sym (ap (λ (a : Agent). cond (is_suspended a.standing) 1 0 + cond (is_notified a.standing && short_in k g) 1 0) (past g l)))

  noon_decides : NoonDecides k
  noon_decides = record {
    counted =
        sum_same agent_count (λ g. cond (suspended k g) 1 0 + cond (suspended_at_noon k g) 1 0) (λ g. cond (suspended (noon_does k) g) 1 0) (λ g l. more_at g)
        ∙ sum_both agent_count (λ g. cond (suspended k g) 1 0) (λ g. cond (suspended_at_noon k g) 1 0);
    decided = at_each (λ g a. is_notified a.standing ≡ false) (at_noon k) k.agents no_agent (λ g. none_notified (agent_in k g).standing (short_in k g)) (λ g l. ap (λ (a : Agent). is_notified a.standing) (past g l));
    others = at_each (λ g a. is_notified (agent_in k g).standing ≡ false → a ≡ agent_in k g) (at_noon k) k.agents no_agent (λ g. stays (agent_in k g) (short_in k g)) (λ g l e. refl);
  }

-- None of the others passes.
others_fail : {X : Type 0} (test : X → Bool) (xs : List X) → Each (λ x. test x ≡ false) (others test xs)
others_fail test xs =
    subst (Each (λ x. test x ≡ false)) (sym (those_kept_by (λ x. not (test x)) xs))
    (All-weaker (λ x. not (test x) ≡ true) (λ x. test x ≡ false) (λ x e. not-true (test x) e) _ (kept_by_passes (λ x. not (test x)) xs))

pub decide : CallsDecide
decide = (
  noon_decides,
  λ x s. record {
    lending = others_fail (λ l. in_security s l.request) x.kept.lending;
    borrowing = others_fail (λ b. in_security s b.request) x.kept.borrowing;
    loans = refl;
    lines = λ backed a t. released_line x.held _ (backs_those (in_security s) (made_eligible x s false) backed) a t;
  },
)
