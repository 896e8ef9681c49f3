-- A register is unfit by one of its securities.
use Rattle.std.proofs.Common.{List, length, get_or, subst, ◌≡◌, ℕ, zero, suc, ◌+◌, ◌<◌, ◌≤◌, Bool, true, false, ◌&&◌, eqb, leb, [], replicate, sym, refl, ap, ◌∙◌, ⊎_elim, add-one, arith}
use Rattle.std.specs.List.{AllByRecursion as Each}
use Rattle.std.proofs.lemmas.Bool.{le-leb, and_left, and_parts, and_right, and_from, cases_eq}
use Rattle.register.specs.Holdings.{Holdings, Inside, sum_reserved, the_cap, total_of}
use Rattle.std.specs.Array.{AllOfLen}
use Rattle.std.specs.Bool.{MatchBool}
use Rattle.std.specs.List.{AllWithin, HoldsAt, range_with_len}
use Rattle.std.proofs.lemmas.List.FromFn.{get_or-range_with_len, length-range_with_len}
use Rattle.std.proofs.lemmas.List.{ext_get_or, get_or-replicate, length-replicate}
use Rattle.terms.specs.declared.records.Agent.{Agent}
use Rattle.terms.specs.declared.records.Standing.{Standing}
use Rattle.terms.specs.declared.records.Standing.TheVariants.{Clear}
use Rattle.terms.specs.declared.records.Security.{Security}
use Rattle.definitions.specs.Limits.{agent_count, kind_count, last_opening, most_accounts, most_securities, within}
use Rattle.definitions.specs.Sound.{AgentRanged, PriceRanged, Upright}
use Rattle.definitions.specs.States.{State, all_below, fit, new_agent, no_security, opening}
use Rattle.definitions.proofs.Fitness.{fit_parts, none_reserved_lem}

one_fails : (n : ℕ) (p : ℕ → Bool) (k : ℕ) → k < n → p k ≡ false → all_below n p ≡ false
one_fails zero p k l e = absurd (omega arith)
one_fails (suc n) p k l e =
    ⊎_elim
    (λ (s : k ≡ n). let f : p n ≡ p k = ap p (sym s) in and_left (p n) (all_below n p) (f ∙ e))
    (λ (d : k ≡ n → ⊥). and_right (p n) (all_below n p) (one_fails n p k (omega arith) e))
    (cases_eq k n)

pub one_more : (n : ℕ) (p : ℕ → Bool) → all_below n p ≡ true → p n ≡ true → all_below (n + 1) p ≡ true
one_more n p all e = rw add-one (and_from (p n) (all_below n p) e all)

pub unfit : (h : Holdings) (k : ℕ) → k < h.securities → (eqb (sum_reserved h k) 0 && leb (total_of h k) the_cap) ≡ false → fit h ≡ false
unfit h k l e =
    and_right (within 1 most_accounts h.accounts) _
    (and_right (within 1 most_securities h.securities) _ (one_fails h.securities (λ s. eqb (sum_reserved h s) 0 && leb (total_of h s) the_cap) k l e))

all_pass : (n : ℕ) (p : ℕ → Bool) → ((k : ℕ) → k < n → p k ≡ true) → all_below n p ≡ true
all_pass zero p each = refl
all_pass (suc n) p each = and_from (p n) (all_below n p) (each n (omega arith)) (all_pass n p (λ k l. each k (omega arith)))

at_place : (n k : ℕ) → k < n → get_or (range_with_len 0 n) k 0 ≡ k
at_place n k l = omega (arith, get_or-range_with_len 0 n k 0 l)

-- A test that was asked of each number below n.
pub asked_below : (n : ℕ) (p : ℕ → Bool) (r : Bool) → MatchBool r (AllWithin (λ k. p k ≡ true) (range_with_len 0 n) 0 (length (range_with_len 0 n))) ((k : ℕ) × (k < length (range_with_len 0 n)) × HoldsAt (λ k. p k ≡ false) (range_with_len 0 n) k) → r ≡ all_below n p
asked_below n p true m =
    sym (all_pass n p (λ k l. subst (λ i. p i ≡ true) (at_place n k l) (m k 0 (omega arith) (omega (arith, length-range_with_len 0 n)))))
asked_below n p false m =
    let l : m.0 < n = omega (arith, length-range_with_len 0 n, m.1) in
    sym (one_fails n p m.0 l (subst (λ i. p i ≡ false) (at_place n m.0 l) (m.2 0)))

-- A register with few enough accounts and securities is fit if each of its securities is.
pub fit_by : (h : Holdings) (r : Bool) → 1 ≤ h.accounts → h.accounts ≤ most_accounts → 1 ≤ h.securities → h.securities ≤ most_securities
    → r ≡ all_below h.securities (λ s. eqb (sum_reserved h s) 0 && leb (total_of h s) the_cap) → r ≡ fit h
fit_by h r a b c d e =
    let each = all_below h.securities (λ s. eqb (sum_reserved h s) 0 && leb (total_of h s) the_cap) in
    let accounts : within 1 most_accounts h.accounts ≡ true = and_from _ _ (le-leb 1 h.accounts a) (le-leb h.accounts most_accounts b) in
    let securities : within 1 most_securities h.securities ≡ true = and_from _ _ (le-leb 1 h.securities c) (le-leb h.securities most_securities d) in
    e ∙ sym (ap (λ w. w && (within 1 most_securities h.securities && each)) accounts ∙ ap (λ w. w && each) securities)

-- A book that opens, with the question answered by o, and each security and agent as given.
abbrev pub opened_by : Holdings → ℕ → Bool → Security → Agent → State
opened_by h day o s g = record { held = h; kept = record { opened = o; today = day; securities = replicate most_securities s; agents = replicate agent_count g; lending = []; borrowing = []; updates = 0; loans = []; references = 0 } }

pub opened_as : (h : Holdings) (day : ℕ) (o : Bool) (s : Security) (g : Agent) → o ≡ (fit h && leb day last_opening) → s ≡ no_security → g ≡ new_agent → opened_by h day o s g ≡ opening h day
opened_as h day o s g p q r =
    ap (λ b. opened_by h day b s g) p ∙ ap (λ x. opened_by h day (fit h && leb day last_opening) x g) q ∙ ap (opened_by h day (fit h && leb day last_opening) no_security) r

abbrev agent_of : Standing → List ℕ → Agent
agent_of s cents = record { standing = s; cents = cents }

-- An agent is new that is clear, and has no cents of any kind.
pub is_new : (g : Agent) → g.standing ≡ Clear → AllOfLen (λ c. c ≡ 0) g.cents kind_count → g ≡ new_agent
is_new g clear none =
    let cents : g.cents ≡ replicate kind_count 0 = ext_get_or 0 g.cents (replicate kind_count 0) (none.long ∙ sym (length-replicate {A = ℕ} kind_count 0))
    (λ i l. let m : i < kind_count = omega (arith, l, none.long) in none.at i 0 m ∙ sym (get_or-replicate {A = ℕ} kind_count i 0 0 m)) in
    ap (λ s. agent_of s g.cents) clear ∙ ap (agent_of Clear) cents

all_same : {X : Type 0} (P : X → Type 0) (x : X) → P x → (n : ℕ) → Each P (replicate n x)
all_same P x p zero = tt
all_same P x p (suc n) = (p, all_same P x p n)

-- A book is sound as it opens, on a register that has no shares on lines outside its counts.
pub opening_upright : (h : Holdings) (day : ℕ) → ((a s : ℕ) → (Inside h a s → ⊥) → (h.free a s ≡ 0) × (h.reserved a s ≡ 0)) → Upright (opening h day)
opening_upright h day out = record {
  ranged = record {
    agents = refl;
    collateral = all_same AgentRanged new_agent (record { kinds = refl; capped = all_same (λ c. c ≤ the_cap) 0 (omega arith) kind_count }) agent_count;
    securities = refl;
    prices = all_same PriceRanged no_security (record { posted = omega arith; price = omega arith }) most_securities;
    borrowing = tt;
    loans = tt;
  };
  borne = λ o.
      let fits = (and_parts (fit h) (leb day last_opening) o).0 in
      record { securities = (fit_parts h fits).few_securities; capped = (fit_parts h fits).capped; lines = tt; reserved = none_reserved_lem h fits out };
}
