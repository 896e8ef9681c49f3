-- A run on its way: whatever goes on from here completes what began.
use Rattle.std.proofs.Common.{◌≡◌, List, [], ◌∷◌, ◌++◌, map, Result, sym, refl, ap, ◌∙◌, append-nil}
use Rattle.terms.specs.declared.calls.Answer.{Answer}
use Rattle.terms.specs.declared.calls.Call.{Call}
use Rattle.terms.specs.declared.calls.Refusal.{Refusal}
use Rattle.definitions.specs.Runs.{after, answer_to, answers, step}
use Rattle.definitions.specs.States.{State}
use Rattle.book.specs.declared.runs.Entry.{Entry}

-- From the state x the calls were put, `rest` of which are left; the book is in the state y, and the journal holds es.
pub record Going (x : State) (calls rest : List Call) (y : State) (es : List Entry) : Type 0 where
  pub asked : map (λ e. e.call) es ++ rest ≡ calls
  pub answered : map (λ e. e.answer) es ++ answers y rest ≡ answers x calls
  pub leaves : after y rest ≡ after x calls

pub going_start : (x : State) (calls : List Call) → Going x calls calls x []
going_start x calls = record { asked = refl; answered = refl; leaves = refl }

map_push : {X Y : Type 0} (f : X → Y) (xs : List X) (x : X) (ys : List Y) → map f (xs ++ x ∷ []) ++ ys ≡ map f xs ++ f x ∷ ys
map_push f [] x ys = refl
map_push f (z ∷ zs) x ys = ap (λ l. f z ∷ l) (map_push f zs x ys)

pub going_next : (x : State) (calls rest : List Call) (y z : State) (es : List Entry) (c : Call) (r : Result Answer Refusal)
    → Going x calls (c ∷ rest) y es → r ≡ answer_to y c → z ≡ (step y c).leaves
    → Going x calls rest z (es ++ record { call = c; answer = r } ∷ [])
going_next x calls rest y z es c r g p q = record {
  asked = map_push (λ (e : Entry). e.call) es (record { call = c; answer = r }) rest ∙ g.asked;
  answered =
      map_push (λ (e : Entry). e.answer) es (record { call = c; answer = r }) (answers z rest)
      ∙ ap (λ (a : Result Answer Refusal). map (λ (e : Entry). e.answer) es ++ a ∷ answers z rest) p
      ∙ ap (λ (s : State). map (λ (e : Entry). e.answer) es ++ answer_to y c ∷ answers s rest) q ∙ g.answered;
  leaves = ap (λ (s : State). after s rest) q ∙ g.leaves;
}

-- Nothing is left to put.
pub going_end : (x : State) (calls rest : List Call) (y : State) (es : List Entry) → rest ≡ [] → Going x calls rest y es
    → (map (λ e. e.call) es ≡ calls) × (map (λ e. e.answer) es ≡ answers x calls) × (y ≡ after x calls)
going_end x calls rest y es none g = (
  sym (append-nil (map (λ (e : Entry). e.call) es)) ∙ ap (λ (l : List Call). map (λ (e : Entry). e.call) es ++ l) (sym none) ∙ g.asked,
  sym (append-nil (map (λ (e : Entry). e.answer) es)) ∙ ap (λ (l : List Call). map (λ (e : Entry). e.answer) es ++ answers y l) (sym none) ∙ g.answered,
  ap (after y) (sym none) ∙ g.leaves,
)
