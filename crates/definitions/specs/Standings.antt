-- Suspend and noon: how agents stand.
use Rattle.std.specs.Prelude.{ℕ, Bool, not, ◌&&◌, List, [], ◌∷◌}
use Rattle.terms.specs.declared.calls.Refusal.TheVariants.{Unknown, WrongCondition}
use Rattle.terms.specs.declared.records.Agent.{Agent}
use Rattle.terms.specs.declared.records.Event.TheVariants.{Noon, Suspend}
use Rattle.definitions.specs.Cover.{agent_after, short_in}
use Rattle.definitions.specs.Limits.{agent_count}
use Rattle.definitions.specs.Pledges.{with_agent}
use Rattle.definitions.specs.Questions.{Question, opened_in, has_agent}
use Rattle.definitions.specs.States.{Kept, with_agents, agent_in, suspended, is_notified, map_from, count_below}

-- Suspend: opened, agent, and it is not suspended yet.
abbrev pub suspend_asks : Kept → ℕ → List Question
suspend_asks k g = opened_in k ∷ (Unknown, has_agent g) ∷ (WrongCondition, not (suspended k g)) ∷ []

abbrev pub suspend_does : Kept → ℕ → Kept
suspend_does k g = with_agent k g (agent_after (agent_in k g) Suspend)

-- Noon comes to every agent: opened.
abbrev pub noon_asks : Kept → List Question
noon_asks k = opened_in k ∷ []

abbrev pub at_noon : Kept → ℕ → Agent → Agent
at_noon k g a = agent_after a (Noon (short_in k g))

abbrev pub noon_does : Kept → Kept
noon_does k = with_agents k (map_from (at_noon k) 0 k.agents)

-- It answers how many it suspended: the agents that are notified and short.
abbrev pub suspended_at_noon : Kept → ℕ → Bool
suspended_at_noon k g = is_notified (agent_in k g).standing && short_in k g

abbrev pub suspensions : Kept → ℕ
suspensions k = count_below agent_count (suspended_at_noon k)
