-- What it tells that a register is fit.
use Rattle.std.proofs.Common.{◌≡◌, ℕ, zero, suc, ◌<◌, ◌≤◌, Bool, true, ◌&&◌, eqb, leb, ap, ◌∙◌, ⊎_elim, arith}
use Rattle.std.proofs.lemmas.Bool.{and_parts, eqb-true, leb-true, cases_eq, cases_lt}
use Rattle.register.specs.Holdings.{Holdings, Inside, the_cap, sum_reserved, total_of}
use Rattle.register.proofs.Sums.{sum_most}
use Rattle.definitions.specs.Limits.{most_accounts, most_securities}
use Rattle.definitions.specs.States.{all_below, fit}

-- A test that all numbers below n pass is passed by each.
pub each_below : (n : ℕ) (p : ℕ → Bool) → all_below n p ≡ true → (k : ℕ) → k < n → p k ≡ true
each_below zero p e k l = absurd (omega arith)
each_below (suc n) p e k l =
    let q = and_parts _ _ e in
    ⊎_elim
    (λ (s : k ≡ n). ap p s ∙ q.0)
    (λ (d : k ≡ n → ⊥). each_below n p q.1 k (omega arith))
    (cases_eq k n)

pub record Fit (h : Holdings) : Type 0 where
  pub some_account : 1 ≤ h.accounts
  pub few_accounts : h.accounts ≤ most_accounts
  pub some_security : 1 ≤ h.securities
  pub few_securities : h.securities ≤ most_securities
  pub unreserved : (s : ℕ) → s < h.securities → sum_reserved h s ≡ 0
  pub capped : (s : ℕ) → s < h.securities → total_of h s ≤ the_cap

pub fit_parts : (h : Holdings) → fit h ≡ true → Fit h
fit_parts h e =
    let p = and_parts _ _ e in
    let a = and_parts _ _ p.0 in
    let q = and_parts _ _ p.1 in
    let b = and_parts _ _ q.0 in
    let each : (s : ℕ) → s < h.securities → (eqb (sum_reserved h s) 0 && leb (total_of h s) the_cap) ≡ true =
    each_below h.securities (λ s. eqb (sum_reserved h s) 0 && leb (total_of h s) the_cap) q.1 in
    record {
      some_account = leb-true 1 h.accounts a.0;
      few_accounts = leb-true h.accounts most_accounts a.1;
      some_security = leb-true 1 h.securities b.0;
      few_securities = leb-true h.securities most_securities b.1;
      unreserved = λ s l. eqb-true (sum_reserved h s) 0 (and_parts _ _ (each s l)).0;
      capped = λ s l. leb-true (total_of h s) the_cap (and_parts _ _ (each s l)).1;
    }

-- Nothing is reserved on any line.
pub none_reserved_lem : (h : Holdings) → fit h ≡ true → ((a s : ℕ) → (Inside h a s → ⊥) → (h.free a s ≡ 0) × (h.reserved a s ≡ 0))
    → (a s : ℕ) → h.reserved a s ≡ 0
none_reserved_lem h e out a s =
    ⊎_elim
    (λ (l : a < h.accounts).
    ⊎_elim
    (λ (m : s < h.securities). omega (arith, sum_most h.accounts (λ b. h.reserved b s) a l, (fit_parts h e).unreserved s m))
    (λ (m : h.securities ≤ s). (out a s (λ i. omega (arith, i.1))).1)
    (cases_lt s h.securities))
    (λ (l : h.accounts ≤ a). (out a s (λ i. omega (arith, i.0))).1)
    (cases_lt a h.accounts)
