use borrow.Author.Tests.{tests}
use Rattle.std.proofs.Common.{◌≡◌, ℕ, ◌<◌, Bool, get_or, arith, rules, subst}
use Rattle.std.proofs.lemmas.Iterator.{YieldsList-from_slice}
use Rattle.std.proofs.lemmas.Iterator.Consumers.{YieldsList-from_filter, count_from_yields_List}
use Rattle.definitions.specs.Limits.{agent_count}
use Rattle.definitions.specs.Standings.{suspended_at_noon}
use Rattle.definitions.specs.States.{kept_of}
use Rattle.agents.proofs.Middays.{Passing, counted, kempt_passed, passing_more, passing_none, step_passed, told}
use Rattle.agents.proofs.noon.noon.Goals as goal
use Rattle.agents.proofs.noon.noon.Goals.{After-from_fn-suspended}

whom : (c : After-from_fn-suspended) → (j : ℕ) (d : Bool) → j < agent_count → get_or c.from_fn-suspended.result j d ≡ suspended_at_noon (kept_of c.args.ledger.now) j
whom c = told c.args.ledger.now c.requires _ c.from_fn-suspended.result c.from_fn-suspended.ensures.items (λ i y q k. search rules)

pub loop-place-init : goal.loop-place-init
loop-place-init c = passing_none c.args.ledger.now c.requires

pub loop-place-preserved : goal.loop-place-preserved
loop-place-preserved c =
    passing_more c.args.ledger.now c.requires c.loop-place.agent-items c.loop-place.place _ _ _ c.loop-place.invariant c.loop-place-test.true
    (whom (goal.at.loop-place-preserved c).After-from_fn-suspended c.loop-place.place _ c.loop-place-test.true)
    c.change_standing.ensures

pub returns-clause-step : goal.returns-clause-step
returns-clause-step c =
    let l = c.args.ledger.now in
    let end : c.loop-place.place ≡ agent_count = omega arith in
    step_passed l c.requires c.in_ok-is_opened.ensures.0 _ (subst (Passing (kept_of l) c.loop-place.agent-items) end c.loop-place.invariant) _
    (counted l c.requires c.from_fn-suspended.result c.from_fn-suspended.ensures.items.long (whom (goal.at.returns-clause-step c).After-from_fn-suspended) c.count-count.result
    (count_from_yields_List _ _ c.count-count.ensures.ran (YieldsList-from_filter _ (λ b. b) (YieldsList-from_slice c.from_fn-suspended.result cc) c.filter.ensures.closure (λ x b q k. search (rules, tests)))))

pub returns-clause-kempt : goal.returns-clause-kempt
returns-clause-kempt c =
    let end : c.loop-place.place ≡ agent_count = omega arith in
    kempt_passed c.args.ledger.now c.requires _ (subst (Passing (kept_of c.args.ledger.now) c.loop-place.agent-items) end c.loop-place.invariant)
