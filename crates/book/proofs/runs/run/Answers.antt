use Rattle.std.proofs.Common.{◌≡◌, ℕ, ◌+◌, List, ◌∷◌, get_or, drop, vec_items, sym, refl, ap, ◌∙◌, subst, add-one, arith, drop-cons}
use Rattle.std.proofs.lemmas.List.{drop_all}
use Rattle.terms.specs.declared.calls.Call.{Call}
use Rattle.terms.specs.declared.calls.Call.TheVariants.{Admit}
use Rattle.definitions.specs.Law.{Law, LawOfRuns}
use Rattle.definitions.specs.Runs.{after, answers, trace}
use Rattle.definitions.specs.States.{State, opening}
use Rattle.definitions.proofs.LawProof.{law}
use Rattle.book.specs.Meaning.{state_of}
use Rattle.book.specs.declared.runs.Entry.{Entry}
use Rattle.book.proofs.Going.{Going, going_start, going_next, going_end}
use Rattle.book.proofs.runs.run.Goals as goal

pub loop-call-init : goal.loop-call-init
loop-call-init g c =
    let x = state_of c.open-book.result in
    let made = c.in-Ok.ensures in (
      subst (Going x c.args.calls.now c.args.calls.now x) (sym made.items) (going_start x c.args.calls.now),
      made.len,
      made.capacity,
      refl,
      refl,
    )

pub loop-call-preserved : goal.loop-call-preserved
loop-call-preserved g c =
    let x = state_of c.open-book.result in
    let y = state_of c.loop-call.book in
    let z = state_of c.execute-answer.new.self in
    let calls = c.args.calls.now in
    let i = c.loop-call.call-index in
    let call : Call = get_or calls i (Admit 0) in
    let es = vec_items c.loop-call.journal in
    let inv = c.loop-call.invariant in
    let split : drop i calls ≡ call ∷ drop (i + 1) calls = drop-cons calls i (Admit 0) (omega arith) ∙ ap (λ (n : ℕ). call ∷ drop n calls) (sym (add-one i)) in
    let next = going_next x calls (drop (i + 1) calls) y z es call c.execute-answer.result
    (subst (λ (l : List Call). Going x calls l y es) split inv.0) c.execute-answer.ensures.says c.execute-answer.ensures.leaves in (
      subst (λ (l : List Entry). Going x calls (drop (i + 1) calls) z l) (sym c.push_reserved.ensures.items) next,
      omega arith,
      omega arith,
      c.execute-answer.ensures.calendar ∙ inv.3,
      c.execute-answer.ensures.frame ∙ inv.4,
    )

pub returns : goal.returns
unfolding LawOfRuns
returns g c =
    let h = g.R.Register.holdings c.args.register in
    let calls = c.args.calls.now in
    let inv = c.loop-call.invariant in
    let start = c.open-book.ensures in
    let end = going_end (state_of c.open-book.result) calls (drop c.loop-call.call-index calls)
    (state_of c.loop-call.book) (vec_items c.loop-call.journal) (drop_all c.loop-call.call-index calls (omega arith)) inv.0 in
    let leaves = end.2 ∙ ap (λ (s : State). after s calls) start.state in
    record {
      asked = end.0;
      answered = end.1 ∙ ap (λ (s : State). answers s calls) start.state;
      leaves = leaves;
      days = inv.3 ∙ start.calendar;
      around = inv.4 ∙ ap g.R.Register.frame start.register;
      law = λ fit.
          subst (Law (g.C.Calendar.business c.args.calendar) (opening h c.args.day) (trace (opening h c.args.day) calls)) (sym leaves)
          (law (g.C.Calendar.business c.args.calendar) h c.args.day calls fit (g.R.Register.outside c.args.register));
    }
