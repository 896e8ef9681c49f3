-- Pledge and unpledge: an agent's collateral.
use Rattle.std.specs.Prelude.{ℕ, ◌+◌, ◌-◌, ◌*◌, ◌&&◌, List, [], ◌∷◌, nat_le, nat_lt, slice_index, slice_set}
use Rattle.std.specs.Option.{option_map, unwrap_or}
use Rattle.register.specs.Holdings.{the_cap}
use Rattle.terms.specs.Numbers.{kind_of}
use Rattle.terms.specs.declared.calls.Refusal.TheVariants.{Unknown, OutOfRange, Uncovered, OverCap}
use Rattle.terms.specs.declared.records.Agent.{Agent}
use Rattle.definitions.specs.Cover.{covers, weight}
use Rattle.definitions.specs.Limits.{kind_count, within}
use Rattle.definitions.specs.Questions.{Question, opened_in, has_agent}
use Rattle.definitions.specs.States.{Kept, with_agents, agent_in}

-- Another record of an agent.
abbrev pub with_agent : Kept → ℕ → Agent → Kept
with_agent k g a = with_agents k (slice_set k.agents g a)

-- The cents of an agent in the kind with a number.
abbrev pub cents_of : Kept → ℕ → ℕ → ℕ
cents_of k g kind = slice_index (agent_in k g).cents kind

abbrev pub with_cents : Kept → ℕ → ℕ → ℕ → Kept
with_cents k g kind c =
    with_agent k g (record { standing = (agent_in k g).standing; cents = slice_set (agent_in k g).cents kind c })

-- The points of a cent of the kind with a number.
abbrev pub weight_at : ℕ → ℕ
weight_at kind = unwrap_or (option_map weight (kind_of kind)) 0

-- Pledge adds cents: opened, agent and kind, cents in range, and the agent's kind stays within the cap.
abbrev pub pledge_asks : Kept → ℕ → ℕ → ℕ → List Question
pledge_asks k g kind c =
    opened_in k ∷ (Unknown, has_agent g && nat_lt kind kind_count) ∷ (OutOfRange, within 1 the_cap c) ∷ (OverCap, nat_le (cents_of k g kind + c) the_cap) ∷ []

abbrev pub pledge_does : Kept → ℕ → ℕ → ℕ → Kept
pledge_does k g kind c = with_cents k g kind (cents_of k g kind + c)

-- Unpledge takes cents: opened, agent and kind, cents in range, and the cents are there and available covers their points.
abbrev pub unpledge_asks : Kept → ℕ → ℕ → ℕ → List Question
unpledge_asks k g kind c =
    opened_in k ∷ (Unknown, has_agent g && nat_lt kind kind_count) ∷ (OutOfRange, within 1 the_cap c)
    ∷ (Uncovered, nat_le c (cents_of k g kind) && covers k g (c * weight_at kind)) ∷ []

abbrev pub unpledge_does : Kept → ℕ → ℕ → ℕ → Kept
unpledge_does k g kind c = with_cents k g kind (cents_of k g kind - c)
