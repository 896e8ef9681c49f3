use Rattle.std.proofs.Common.{◌≡◌, Bool, List, length, Option, sym, ap, ◌∙◌, subst, rules, arith}
use Rattle.terms.specs.declared.records.BorrowingRequest.{BorrowingRequest}
use Rattle.terms.specs.declared.records.LendingRequest.{LendingRequest}
use Rattle.terms.specs.declared.records.Request.{Request}
use Rattle.ordered.specs.Places.{records}
use Rattle.ordered.specs.Selected.{those, others, DecidedBy}
use Rattle.ordered.proofs.Deciding.{decides, told}
use Rattle.definitions.specs.Requests.{taken_out}
use Rattle.definitions.specs.Sound.{Borne}
use Rattle.definitions.specs.States.{state}
use Rattle.definitions.proofs.Ranges.{borne_taken}
use Rattle.removal.proofs.Removing.{few_leave, lent_from_lem, removed_state, with_lists}
use Rattle.removal.proofs.requests.remove_requests.Goals as goal
use Rattle.removal.proofs.requests.remove_requests.Goals.{After-remove_those-borrowing}

pub release_those-requires-clause-lent : goal.release_those-requires-clause-lent
release_those-requires-clause-lent g c = lent_from_lem (g.R.Register.holdings c.args.register.now) c.args.ledger.now c.requires.borne

pub remove_those-lending-requires-clause-decided : goal.remove_those-lending-requires-clause-decided
remove_those-lending-requires-clause-decided g c =
    let p = c.requires.decided in
    (λ l. p.0 l.request, decides _ (λ y b h. let t = told g.F.Fn c.args.leaves p.0 p.1 in search rules))

pub remove_those-borrowing-requires-clause-decided : goal.remove_those-borrowing-requires-clause-decided
remove_those-borrowing-requires-clause-decided g c =
    let p = c.requires.decided in
    (λ l. p.0 l.request, decides _ (λ y b h. let t = told g.F.Fn c.args.leaves p.0 p.1 in search rules))

-- what is left of each list, and how many leave it, by a test that decides
module _ (g : _) (c : After-remove_those-borrowing g) (test : Request → Bool) (d : DecidedBy g.F.Fn c.args.leaves test) where
  lending-left : records c.remove_those-lending.new.self.places.now ≡ others (λ l. test l.request) (records c.args.ledger.now.requests.lending)
  lending-left =
      c.remove_those-lending.ensures.removed (λ l. test l.request) (decides _ (λ y b h. let t = told g.F.Fn c.args.leaves test d in search rules))
      ∙ ap (λ (ps : List (Option LendingRequest)). others (λ l. test l.request) (records ps)) c.over-list.ensures.same

  lending-count : c.remove_those-lending.result ≡ length (those (λ l. test l.request) (records c.args.ledger.now.requests.lending))
  lending-count =
      c.remove_those-lending.ensures.count (λ l. test l.request) (decides _ (λ y b h. let t = told g.F.Fn c.args.leaves test d in search rules))
      ∙ ap (λ (ps : List (Option LendingRequest)). length (those (λ l. test l.request) (records ps))) c.over-list.ensures.same

  borrowing-left : records c.remove_those-borrowing.new.self.places.now ≡ others (λ b. test b.request) (records c.args.ledger.now.requests.borrowing)
  borrowing-left =
      c.remove_those-borrowing.ensures.removed (λ l. test l.request) (decides _ (λ y b h. let t = told g.F.Fn c.args.leaves test d in search rules))
      ∙ ap (λ (ps : List (Option BorrowingRequest)). others (λ b. test b.request) (records ps)) c.over-list-2.ensures.same

  borrowing-count : c.remove_those-borrowing.result ≡ length (those (λ b. test b.request) (records c.args.ledger.now.requests.borrowing))
  borrowing-count =
      c.remove_those-borrowing.ensures.count (λ l. test l.request) (decides _ (λ y b h. let t = told g.F.Fn c.args.leaves test d in search rules))
      ∙ ap (λ (ps : List (Option BorrowingRequest)). length (those (λ b. test b.request) (records ps))) c.over-list-2.ensures.same

  left : state (g.R.Register.holdings c.release_those.new.register) (with_lists c.args.ledger.now c.remove_those-lending.new.self.places.now c.remove_those-borrowing.new.self.places.now) ≡ taken_out test (state (g.R.Register.holdings c.args.register.now) c.args.ledger.now)
  left =
      removed_state test (g.R.Register.holdings c.args.register.now) (g.R.Register.holdings c.release_those.new.register) c.args.ledger.now
      c.remove_those-lending.new.self.places.now c.remove_those-borrowing.new.self.places.now
      (c.release_those.ensures.holds test d) lending-left borrowing-left

pub overflow_add-result : goal.overflow_add-result
overflow_add-result g c =
    let l = c.args.ledger.now in
    let p = c.requires.decided in
    omega (
      arith,
      lending-count g c p.0 p.1,
      borrowing-count g c p.0 p.1,
      few_leave (λ l. p.0 l.request) l.requests.lending,
      few_leave (λ b. p.0 b.request) l.requests.borrowing,
      c.requires.neat.lending.long,
      c.requires.neat.borrowing.long,
    )

pub returns : goal.returns
returns g c =
    let p = c.requires.decided in
    let l = c.args.ledger.now in
    let w = (goal.at.returns g c).After-remove_those-borrowing in
    record {
      leaves = left g w;
      count = λ test d. omega (arith, lending-count g w test d, borrowing-count g w test d);
      neat = record {
        lending = record { ordered = c.remove_those-lending.ensures.stays; long = c.remove_those-lending.ensures.long ∙ ap length c.over-list.ensures.same ∙ c.requires.neat.lending.long };
        borrowing = record { ordered = c.remove_those-borrowing.ensures.stays; long = c.remove_those-borrowing.ensures.long ∙ ap length c.over-list-2.ensures.same ∙ c.requires.neat.borrowing.long };
        loans = c.requires.neat.loans;
      };
      borne = subst Borne (sym (left g w p.0 p.1)) (borne_taken (state (g.R.Register.holdings c.args.register.now) l) c.requires.borne p.0);
      frame = c.release_those.ensures.frame;
    }
