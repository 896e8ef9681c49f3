-- The loop that releases what is left of the requests that leave.
use Rattle.std.proofs.Common.{◌≡◌, ℕ, ◌+◌, ◌<◌, ◌≤◌, Bool, true, false, cond, ◌&&◌, eqb, List, [], ◌∷◌, length, get_or, drop, Some, None, Option, sym, refl, ap, ◌∙◌, subst, arith}
use Rattle.std.proofs.lemmas.Bool.{cond-true, eq-eqb, and_from}
use Rattle.register.specs.Holdings.{Holdings, Releasable, released}
use Rattle.register.proofs.Changed.{line_most, same_holdings, total_released}
use Rattle.ordered.specs.Places.{records}
use Rattle.ordered.specs.Selected.{keep_if, those}
use Rattle.ordered.proofs.Walking.{records_all, records_end, records_more}
use Rattle.terms.specs.declared.records.LendingRequest.{LendingRequest}
use Rattle.definitions.specs.Requests.{left_on, left_of, released_all}
use Rattle.definitions.proofs.Lines.{put_less, put_more}
use Rattle.removal.specs.Held.{Lent}

-- Nothing is released for no request.
none_released : (h : Holdings) → released_all h [] ≡ h
none_released h = same_holdings (released_all h []) h refl refl (λ a s. omega arith) (λ a s. omega arith)

abbrev freed : Holdings → LendingRequest → Holdings
freed h l = released h l.request.account l.request.security l.request.left

-- One request released, and then the others.
one_released : (h : Holdings) (l : LendingRequest) (ls : List LendingRequest) → released_all (freed h l) ls ≡ released_all h (l ∷ ls)
one_released h l ls =
    same_holdings (released_all (freed h l) ls) (released_all h (l ∷ ls)) refl refl
    (λ a s. put_more h.free l.request.account l.request.security l.request.left a s (left_of ls a s))
    (λ a s. put_less h.reserved l.request.account l.request.security l.request.left a s (left_of ls a s))

own_line : (l : LendingRequest) → left_on l.request.account l.request.security l ≡ l.request.left
own_line l =
    let a = l.request.account in
    let s = l.request.security in
    cond-true (eqb a a && eqb s s) l.request.left 0 (and_from (eqb a a) (eqb s s) (eq-eqb a a refl) (eq-eqb s s refl))

left_reserved : (h : Holdings) (l : LendingRequest) (ls : List LendingRequest) → Lent h (l ∷ ls) → l.request.left ≤ h.reserved l.request.account l.request.security
left_reserved h l ls k = omega (arith, k.enough l.request.account l.request.security, own_line l)

-- What is left of the first request can be released.
pub releasable : (h : Holdings) (l : LendingRequest) (ls : List LendingRequest) → Lent h (l ∷ ls) → Releasable h l.request.account l.request.security l.request.left
releasable h l ls k =
    let inside = k.lines.0 in
    let le = left_reserved h l ls k in
    (inside.0, inside.1, le, omega (arith, line_most h l.request.account l.request.security inside.0, k.capped l.request.security inside.1))

-- The first request leaves or stays.
lent_next : (b : Bool) (h : Holdings) (l : LendingRequest) (ls : List LendingRequest) → Lent h (l ∷ ls) → Lent (cond b (freed h l) h) ls
lent_next true h l ls k = record {
  lines = k.lines.1;
  enough = λ a s.
      omega (arith, k.enough a s, put_less h.reserved l.request.account l.request.security l.request.left a s 0);
  capped = λ s m. omega (arith, total_released h l.request.account l.request.security l.request.left (left_reserved h l ls k) s, k.capped s m);
}
lent_next false h l ls k = record { lines = k.lines.1; enough = λ a s. omega (arith, k.enough a s); capped = k.capped }

onward_next : (b : Bool) (h : Holdings) (l : LendingRequest) (ls : List LendingRequest) → released_all (cond b (freed h l) h) ls ≡ released_all h (keep_if b l ls)
onward_next true h l ls = one_released h l ls
onward_next false h l ls = refl

-- The loop at the place i: what goes on from here completes what began.
pub record Releasing (test : LendingRequest → Bool) (h₀ h : Holdings) (ps : List (Option LendingRequest)) (i : ℕ) : Type 0 where
  pub onward : released_all h (those test (records (drop i ps))) ≡ released_all h₀ (those test (records ps))
  pub lent : Lent h (records (drop i ps))

module _ (test : LendingRequest → Bool) (h₀ h : Holdings) (ps : List (Option LendingRequest)) (i : ℕ) (k : Releasing test h₀ h ps i) where
  end : records (drop i ps) ≡ [] → h ≡ released_all h₀ (those test (records ps))
  end e = sym (none_released h) ∙ ap (λ ls. released_all h (those test ls)) (sym e) ∙ k.onward

  pub releasing_all : length ps ≤ i → h ≡ released_all h₀ (those test (records ps))
  releasing_all le = end (records_all ps i le)

  pub releasing_stop : i < length ps → get_or ps i None ≡ None → h ≡ released_all h₀ (those test (records ps))
  releasing_stop lt e = end (records_end ps i None lt e)

  pub next_releasable : (l : LendingRequest) → i < length ps → get_or ps i None ≡ Some l → Releasable h l.request.account l.request.security l.request.left
  next_releasable l lt e = releasable h l (records (drop (i + 1) ps)) (subst (Lent h) (records_more ps i None lt l e) k.lent)

  pub releasing_more : (l : LendingRequest) (m : Holdings) → i < length ps → get_or ps i None ≡ Some l → m ≡ cond (test l) (freed h l) h → Releasing test h₀ m ps (i + 1)
  releasing_more l m lt e f = record {
    onward =
        ap (λ (n : Holdings). released_all n (those test (records (drop (i + 1) ps)))) f
        ∙ onward_next (test l) h l (those test (records (drop (i + 1) ps)))
        ∙ ap (λ ls. released_all h (those test ls)) (sym (records_more ps i None lt l e)) ∙ k.onward;
    lent = subst (λ (n : Holdings). Lent n (records (drop (i + 1) ps))) (sym f)
        (lent_next (test l) h l (records (drop (i + 1) ps)) (subst (Lent h) (records_more ps i None lt l e) k.lent));
  }
