-- The turns of the search for the first pair.
use Rattle.std.proofs.Common.{◌≡◌, ℕ, ◌+◌, ◌<◌, ◌≤◌, Bool, true, false, length, get_or, Some, None, Decides, Option, sym, refl, subst, ⊎_elim, arith}
use Rattle.std.proofs.lemmas.Bool.{cases_eq, false≢true}
use Rattle.register.specs.Holdings.{Holdings}
use Rattle.ordered.specs.Places.{records}
use Rattle.ordered.proofs.Standing.{at_none, at_some, few_records, there}
use Rattle.terms.specs.declared.ledger.Ledger.{Ledger}
use Rattle.terms.specs.declared.records.BorrowingRequest.{BorrowingRequest}
use Rattle.terms.specs.declared.records.LendingRequest.{LendingRequest}
use Rattle.definitions.specs.Matching.{FirstPair, Matches, NoPair, Pair}
use Rattle.definitions.specs.Sound.{Neat}
use Rattle.definitions.specs.States.{State, state, no_borrowing, no_lending}
use Rattle.matching.specs.Meets.{Meets}

-- A place that holds a partner.
holds : (x : State) (o : Option LendingRequest) (b : BorrowingRequest) → Meets x o b → (l : LendingRequest) × ((o ≡ Some l) × Matches x l.request b.request)
holds x None b m = absurd m
holds x (Some l) b m = (l, (refl, m))

module _ (h : Holdings) (l : Ledger) (neat : Neat l) (j : ℕ) where
  abbrev x : State
  x = state h l

  -- no borrowing request before the place j has a partner
  abbrev pub NoneBefore : Type 0
  NoneBefore = (m n : ℕ) → n < j → Pair x m n → ⊥

  pub none_left : NoneBefore → length (records l.requests.borrowing) ≤ j → NoPair x
  none_left none le m n p = none m n (omega (arith, p.borrowing)) p

  pub none_at_end : NoneBefore → get_or l.requests.borrowing j None ≡ None → NoPair x
  none_at_end none e = none_left none (at_none l.requests.borrowing j e)

  pub none_at_all : NoneBefore → length l.requests.borrowing ≤ j → NoPair x
  none_at_all none le = none_left none (omega (arith, few_records l.requests.borrowing))

  -- the request b stands at the place j
  module _ (b : BorrowingRequest) (here : get_or l.requests.borrowing j None ≡ Some b) where
    stands : (j < length (records l.requests.borrowing)) × (get_or (records l.requests.borrowing) j no_borrowing ≡ b)
    stands = at_some l.requests.borrowing j b no_borrowing neat.borrowing.ordered.0 here

    meets_there : (i : ℕ) → Pair x i j → Meets x (get_or l.requests.lending i None) b
    meets_there i p =
        subst (λ (o : Option LendingRequest). Meets x o b) (sym (there l.requests.lending i no_lending p.lending))
        (subst (λ (c : BorrowingRequest). Matches x (get_or (records l.requests.lending) i no_lending).request c.request) stands.1 p.partners)

    pub next_partner : (i : ℕ) (r : Bool) → ((m : ℕ) → m < i → Pair x m j → ⊥) → Decides r (Meets x (get_or l.requests.lending i None) b) → r ≡ false → (m : ℕ) → m < i + 1 → Pair x m j → ⊥
    next_partner i r none d f m lt p =
        ⊎_elim
        (λ (e : m ≡ i). false≢true (subst (λ (t : Bool). t ≡ true) f (d.1 (meets_there i (subst (λ (n : ℕ). Pair x n j) e p)))))
        (λ (e : m ≡ i → ⊥). none m (omega arith) p)
        (cases_eq m i)

    pub next_borrowing : NoneBefore → (i : ℕ) → length l.requests.lending ≤ i → ((m : ℕ) → m < i → Pair x m j → ⊥) → (m n : ℕ) → n < j + 1 → Pair x m n → ⊥
    next_borrowing none i all partner m n lt p =
        ⊎_elim
        (λ (e : n ≡ j). partner m (omega (arith, p.lending, few_records l.requests.lending)) (subst (Pair x m) e p))
        (λ (e : n ≡ j → ⊥). none m n (omega arith) p)
        (cases_eq n j)

    pub found : NoneBefore → (i : ℕ) (r : Bool) → ((m : ℕ) → m < i → Pair x m j → ⊥) → Decides r (Meets x (get_or l.requests.lending i None) b) → r ≡ true → FirstPair x i j
    found none i r partner d t =
        let held = holds x (get_or l.requests.lending i None) b (d.0 t) in
        let at = at_some l.requests.lending i held.0 no_lending neat.lending.ordered.0 held.1.0 in
        record {
          pair = record {
            lending = at.0;
            borrowing = stands.0;
            partners = subst (λ (y : LendingRequest). Matches x y.request (get_or (records l.requests.borrowing) j no_borrowing).request) (sym at.1)
                (subst (λ (c : BorrowingRequest). Matches x held.0.request c.request) (sym stands.1) held.1.1);
          };
          none_before = none;
          first_partner = partner;
        }
