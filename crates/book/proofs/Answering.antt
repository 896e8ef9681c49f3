-- A call as a step of a run.
use Rattle.std.proofs.Common.{◌≡◌, List, Some, None, Ok, Err, Option, Result, sym, refl, ap, ◌∙◌, subst}
use Rattle.register.specs.Holdings.{Holdings}
use Rattle.terms.specs.declared.calls.Call.{Call}
use Rattle.terms.specs.declared.calls.Refusal.{Refusal}
use Rattle.definitions.specs.Calls.{answer, asks, does}
use Rattle.definitions.specs.Questions.{Question, Step, first_no, left_by, reply_to}
use Rattle.definitions.specs.Runs.{step}
use Rattle.definitions.specs.Sound.{Kempt, Upheld}
use Rattle.definitions.specs.States.{Kept, State, kept_of, state, with_kept}
use Rattle.definitions.proofs.Keeps.{step_upright}
use Rattle.terms.specs.declared.ledger.Ledger.{Ledger}

leaves : {X Y : Type 0} (o : Option Refusal) (v : X) (w : Y) (new x : State) → left_by (reply_to o v) new x ≡ left_by (reply_to o w) new x
leaves None v w new x = refl
leaves (Some r) v w new x = refl

-- The call k, which is the call c that was put, was answered a in code.
module _ {X : Type 0} (x y : State) (c k : Call) (same : c ≡ k) (v : X) (a : Result X Refusal) (s : Step (asks x k) v (does x k) x y a) where
  pub call_leaves : y ≡ (step x c).leaves
  call_leaves =
      s.leaves ∙ ap (λ (w : Result X Refusal). left_by w (does x k) x) s.answers
      ∙ leaves (first_no (asks x k)) v (answer x k) (does x k) x ∙ ap (λ (d : Call). (step x d).leaves) (sym same)

-- A step of what a ledger keeps is a step of the book that has it.
kept_leaves : {X : Type 0} (x : State) (new : Kept) (r : Result X Refusal) → with_kept x (left_by r new x.kept) ≡ left_by r (with_kept x new) x
kept_leaves x new (Ok v) = refl
kept_leaves x new (Err e) = refl

pub kept_step : {X : Type 0} (x : State) (qs : List Question) (v : X) (new k : Kept) (r : Result X Refusal) → Step qs v new x.kept k r → Step qs v (with_kept x new) x (with_kept x k) r
kept_step x qs v new k r s = record { answers = s.answers; leaves = ap (with_kept x) s.leaves ∙ kept_leaves x new r }

-- The call c changes only what the ledger keeps, to `new`: a register that upheld the old ledger upholds the new one.
pub kept_upheld : {X : Type 0} (h : Holdings) (l m : Ledger) (c : Call) (v : X) (new : Kept) (a : Result X Refusal)
    → does (state h l) c ≡ with_kept (state h l) new
    → Step (asks (state h l) c) v new (kept_of l) (kept_of m) a → Upheld h l → Kempt m → Upheld h m
kept_upheld h l m c v new a same s upheld kempt =
    let x = state h l in
    let step = subst (λ (y : State). Step (asks x c) v y x (state h m) a) (sym same) (kept_step x (asks x c) v new (kept_of m) a s) in
    record { neat = kempt.neat; upright = step_upright x (state h m) c v a upheld.upright step }
