-- The changes of a ledger that keep a book upright.
use Rattle.std.proofs.Common.{◌≡◌, ℕ, zero, suc, ◌-◌, ◌<◌, ◌≤◌, Bool, false, List, [], ◌∷◌, length, get_or, set, ◌∙◌, arith}
use Rattle.std.specs.List.{AllByRecursion as Each}
use Rattle.std.proofs.ByRecursion.{All-get_or, All-set}
use Rattle.std.proofs.lemmas.List.{length-set}
use Rattle.register.specs.Holdings.{the_cap}
use Rattle.definitions.proofs.Tables.{length_from}
use Rattle.ordered.proofs.Selections.{all_others}
use Rattle.terms.specs.declared.records.Agent.{Agent}
use Rattle.terms.specs.declared.records.Event.{Event}
use Rattle.terms.specs.declared.records.Event.TheVariants.{Noon}
use Rattle.terms.specs.declared.records.Request.{Request}
use Rattle.terms.specs.declared.records.Security.{Security}
use Rattle.definitions.specs.Cover.{agent_after, short_in}
use Rattle.definitions.specs.Limits.{agent_count, most_price, most_securities}
use Rattle.definitions.specs.Listing.{with_security, made_eligible, stop_does, price_does, in_security}
use Rattle.definitions.specs.Pledges.{with_agent, with_cents, cents_of}
use Rattle.definitions.specs.Requests.{taken_out}
use Rattle.definitions.specs.Sound.{AgentRanged, PriceRanged, Ranged, Borne, Upright}
use Rattle.definitions.specs.Standings.{at_noon, noon_does}
use Rattle.definitions.specs.States.{State, Kept, agent_in, security_in, no_agent, no_security, with_agents, with_kept, map_from}
use Rattle.definitions.proofs.Released.{backs_those, released_total, taken_reserved}

-- Each number of cents is within the cap, and one that is not there is 0.
cents_capped : (cents : List ℕ) (kind : ℕ) → Each (λ c. c ≤ the_cap) cents → get_or cents kind 0 ≤ the_cap
cents_capped [] kind all = omega arith
cents_capped (c ∷ cents) zero all = all.0
cents_capped (c ∷ cents) (suc kind) all = cents_capped cents kind all.1

-- A register bears the others out when requests are taken out.
pub borne_taken : (x : State) → Borne x → (test : Request → Bool) → Borne (taken_out test x)
borne_taken x b test = record {
  securities = b.securities;
  capped = λ s l. omega (arith, released_total x.held _ (backs_those test x b.reserved) s, b.capped s l);
  lines = all_others (λ l. test l.request) _ x.kept.lending b.lines;
  reserved = taken_reserved test x b.reserved;
}

-- An agent after an event has the collateral that it had.
pub event_ranged : (a : Agent) (e : Event) → AgentRanged a → AgentRanged (agent_after a e)
event_ranged a e r = record { kinds = r.kinds; capped = r.capped }

noon_ranged : (k : Kept) (from : ℕ) (gs : List Agent) → Each AgentRanged gs → Each AgentRanged (map_from (at_noon k) from gs)
noon_ranged k from [] all = tt
noon_ranged k from (a ∷ gs) all = (event_ranged a (Noon (short_in k from)) all.0, noon_ranged k (suc from) gs all.1)

module _ (k : Kept) (ranged : Ranged k) where
  pub agent_ranged : (g : ℕ) → g < agent_count → AgentRanged (agent_in k g)
  agent_ranged g l = All-get_or AgentRanged k.agents g no_agent (omega (arith, ranged.agents)) ranged.collateral

  -- other agents
  pub ranged_agents : (gs : List Agent) → length gs ≡ agent_count → Each AgentRanged gs → Ranged (with_agents k gs)
  ranged_agents gs long all =
      record { agents = long; collateral = all; securities = ranged.securities; prices = ranged.prices; borrowing = ranged.borrowing; loans = ranged.loans }

  -- one agent's record
  pub ranged_agent : (g : ℕ) (a : Agent) → AgentRanged a → Ranged (with_agent k g a)
  ranged_agent g a r =
      ranged_agents (set k.agents g a) (length-set k.agents g a ∙ ranged.agents) (All-set AgentRanged k.agents g a r ranged.collateral)

module _ (x : State) (upright : Upright x) where
  -- other agents: the register bears them out as well
  upright_by : (gs : List Agent) → Ranged (with_agents x.kept gs) → Upright (with_kept x (with_agents x.kept gs))
  upright_by gs ranged = record {
    ranged = ranged;
    borne = λ o. let b = upright.borne o in record { securities = b.securities; capped = b.capped; lines = b.lines; reserved = b.reserved };
  }

  pub upright_agent : (g : ℕ) (a : Agent) → AgentRanged a → Upright (with_kept x (with_agent x.kept g a))
  upright_agent g a r = upright_by (set x.kept.agents g a) (ranged_agent x.kept upright.ranged g a r)

  pub upright_noon : Upright (with_kept x (noon_does x.kept))
  upright_noon =
      let k = x.kept in
      upright_by (map_from (at_noon k) 0 k.agents)
      (ranged_agents k upright.ranged _ (length_from (at_noon k) 0 k.agents ∙ upright.ranged.agents) (noon_ranged k 0 k.agents upright.ranged.collateral))

  -- the cents of one kind
  pub upright_cents : (g kind c : ℕ) → g < agent_count → c ≤ the_cap → Upright (with_kept x (with_cents x.kept g kind c))
  upright_cents g kind c l le =
      let k = agent_ranged x.kept upright.ranged g l in
      upright_agent g _ (record { kinds = length-set (agent_in x.kept g).cents kind c ∙ k.kinds; capped = All-set (λ n. n ≤ the_cap) (agent_in x.kept g).cents kind c le k.capped })

  pub upright_cents_less : (g kind c : ℕ) → g < agent_count → Upright (with_kept x (with_cents x.kept g kind (cents_of x.kept g kind - c)))
  upright_cents_less g kind c l =
      let k = agent_ranged x.kept upright.ranged g l in
      upright_cents g kind (cents_of x.kept g kind - c) l (omega (arith, cents_capped (agent_in x.kept g).cents kind k.capped))

  -- one security's record
  pub upright_security : (s : ℕ) (r : Security) → PriceRanged r → Upright (with_security x s r)
  upright_security s r k =
      let n = upright.ranged in
      record {
        ranged = record {
          agents = n.agents;
          collateral = n.collateral;
          securities = length-set x.kept.securities s r ∙ n.securities;
          prices = All-set PriceRanged x.kept.securities s r k n.prices;
          borrowing = n.borrowing;
          loans = n.loans;
        };
        borne = λ o. let b = upright.borne o in record { securities = b.securities; capped = b.capped; lines = b.lines; reserved = b.reserved };
      }

  security_ranged : (s : ℕ) → s < most_securities → PriceRanged (security_in x.kept s)
  security_ranged s l = All-get_or PriceRanged x.kept.securities s no_security (omega (arith, upright.ranged.securities)) upright.ranged.prices

  pub upright_eligible : (s : ℕ) (e : Bool) → s < most_securities → Upright (made_eligible x s e)
  upright_eligible s e l =
      let k = security_ranged s l in upright_security s _ (record { posted = k.posted; price = k.price })

  pub upright_posted : (s p : ℕ) → s < most_securities → p ≤ most_price → Upright (price_does x s p)
  upright_posted s p l le = upright_security s _ (record { posted = le; price = (security_ranged s l).price })

  -- requests are taken out
  pub upright_taken : (test : Request → Bool) → Upright (taken_out test x)
  upright_taken test =
      let n = upright.ranged in
      record {
        ranged = record {
          agents = n.agents;
          collateral = n.collateral;
          securities = n.securities;
          prices = n.prices;
          borrowing = all_others (λ b. test b.request) _ x.kept.borrowing n.borrowing;
          loans = n.loans;
        };
        borne = λ o. borne_taken x (upright.borne o) test;
      }

pub upright_stopped : (x : State) → Upright x → (s : ℕ) → s < most_securities → Upright (stop_does x s)
upright_stopped x upright s l = upright_taken (made_eligible x s false) (upright_eligible x upright s false l) (in_security s)
