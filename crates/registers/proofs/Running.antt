-- Lists of changes: one more change, and two runs from the same holdings.
use Rattle.std.proofs.Common.{◌≡◌, ℕ, ◌+◌, ◌<◌, List, [], ◌∷◌, ◌++◌, length, get_or, take, set, Result, Ok, Err, sym, refl, ap, ◌∙◌, subst}
use Rattle.std.proofs.lemmas.List.{take_more, take_more_set}
use Rattle.register.specs.Holdings.{Holdings, Changes}
use Rattle.register.specs.declared.Refused.{Refused}
use Rattle.registers.specs.Changes.{Allowed, Answered, changed, line_of}
use Rattle.registers.specs.Lists.{Runs}
use Rattle.registers.specs.declared.changes.Answer.{Answer}
use Rattle.registers.specs.declared.changes.Change.{Change}

pub runs_none : (h : Holdings) → Runs h [] [] h
unfolding Runs
runs_none h = refl

runs_push : (h i k : Holdings) (xs : List Change) (rs : List Answer) (x : Change) (r : Answer) → Runs h xs rs i → Answered i x r k → Runs h (xs ++ x ∷ []) (rs ++ r ∷ []) k
unfolding Runs
runs_push h i k [] [] x r e a = (k, subst (λ (j : Holdings). Answered j x r k) e a, refl)
runs_push h i k [] (q ∷ rs) x r none a = absurd none
runs_push h i k (y ∷ xs) [] x r none a = absurd none
runs_push h i k (y ∷ xs) (q ∷ rs) x r run a = (run.0, run.1, runs_push run.0 i k xs rs x r run.2 a)

-- A turn of a loop over changes and answers.
pub runs_more : (h i k : Holdings) (xs : List Change) (rs : List Answer) (n : ℕ) (d : Change) (r : Answer) → n < length xs → n < length rs → Runs h (take n xs) (take n rs) i → Answered i (get_or xs n d) r k → Runs h (take (n + 1) xs) (take (n + 1) (set rs n r)) k
runs_more h i k xs rs n d r lx lr run a =
    rw (take_more xs n d lx, take_more_set rs n r lr) (runs_push h i k (take n xs) (take n rs) (get_or xs n d) r run a)

outcome_alike : (P : Type 0) (a b : Result (Unit {0}) Refused) (h i j y : Holdings) → Changes a P h y i → Changes b P h y j → (a ≡ b) × (i ≡ j)
outcome_alike P (Ok u) (Ok v) h i j y p q = (refl, p.1 ∙ sym q.1)
outcome_alike P (Ok u) (Err f) h i j y p q = absurd (q.0 p.0)
outcome_alike P (Err e) (Ok v) h i j y p q = absurd (p.0 q.0)
outcome_alike P (Err e) (Err f) h i j y p q = (refl, p.1 ∙ sym q.1)

same_answer : (r q : Answer) → r.outcome ≡ q.outcome → r.free ≡ q.free → r.reserved ≡ q.reserved → r ≡ q
same_answer r q e f g = λ i. record { outcome = e i; free = f i; reserved = g i }

answered_alike : (h i j : Holdings) (x : Change) (r q : Answer) → Answered h x r i → Answered h x q j → (r ≡ q) × (i ≡ j)
answered_alike h i j x r q a b =
    let e = outcome_alike (Allowed x h) r.outcome q.outcome h i j (changed x h) a.outcome b.outcome in
    let l = line_of x in (
      same_answer r q e.0
          (a.free ∙ (ap (λ (k : Holdings). k.free l.account l.security) e.1 ∙ sym b.free))
          (a.reserved ∙ (ap (λ (k : Holdings). k.reserved l.account l.security) e.1 ∙ sym b.reserved)),
      e.1,
    )

-- From the same holdings the same changes have the same answers, and lead to the same holdings.
pub runs_alike : (h i j : Holdings) (xs : List Change) (rs qs : List Answer) → Runs h xs rs i → Runs h xs qs j → (rs ≡ qs) × (i ≡ j)
unfolding Runs
runs_alike h i j [] [] [] p q = (refl, p ∙ sym q)
runs_alike h i j [] [] (s ∷ qs) p q = absurd q
runs_alike h i j [] (r ∷ rs) qs p q = absurd p
runs_alike h i j (x ∷ xs) [] qs p q = absurd p
runs_alike h i j (x ∷ xs) (r ∷ rs) [] p q = absurd q
runs_alike h i j (x ∷ xs) (r ∷ rs) (s ∷ qs) p q =
    let e = answered_alike h p.0 q.0 x r s p.1 q.1 in
    let rest = runs_alike q.0 i j xs rs qs (subst (λ (k : Holdings). Runs k xs rs i) e.1 p.2) q.2 in
    (ap (λ (z : Answer). z ∷ rs) e.0 ∙ ap (λ zs. s ∷ zs) rest.0, rest.1)
