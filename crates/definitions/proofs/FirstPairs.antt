-- There is one first pair at most.
use Rattle.std.proofs.Common.{◌≡◌, ℕ, ◌<◌, sym, subst, ⊎_elim}
use Rattle.std.proofs.lemmas.Bool.{cases_order}
use Rattle.definitions.specs.Matching.{FirstPair, OneFirstPair, Pair}
use Rattle.definitions.specs.States.{State}

module _ (x : State) (i j m n : ℕ) (p : FirstPair x i j) (q : FirstPair x m n) where
  same_borrowing : j ≡ n
  same_borrowing =
      ⊎_elim (λ (e : j ≡ n). e)
      (⊎_elim (λ (l : j < n). absurd (q.none_before i j l p.pair)) (λ (l : n < j). absurd (p.none_before m n l q.pair)))
      (cases_order j n)

  same_lending : i ≡ m
  same_lending =
      ⊎_elim (λ (e : i ≡ m). e)
      (⊎_elim
      (λ (l : i < m). absurd (q.first_partner i l (subst (Pair x i) same_borrowing p.pair)))
      (λ (l : m < i). absurd (p.first_partner m l (subst (Pair x m) (sym same_borrowing) q.pair))))
      (cases_order i m)

pub one_first_pair : (x : State) → OneFirstPair x
one_first_pair x = record { one = λ i j m n p q. (same_lending x i j m n p q, same_borrowing x i j m n p q); none = λ h i j p. h i j p.pair }
