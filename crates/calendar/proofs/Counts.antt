-- Counts of business days.
use Rattle.std.proofs.Common.{◌≡◌, ℕ, zero, suc, ◌+◌, ◌-◌, ◌<◌, ◌≤◌, Bool, true, false, cond, ◌&&◌, ltb, Some, None, Option, MatchOption, List, ◌∷◌, sym, subst, refl, ap, ◌∙◌, ⊎_elim, add-zero, add-suc, add-one, arith}
use Rattle.std.specs.List.{filter, slice_get, range_with_len}
use Rattle.std.specs.Option.{option_map}
use Rattle.std.proofs.lemmas.Bool.{lt-ltb, le-ltb, cases_lt, cases_order}
use Rattle.days.specs.Dates.{last_day}
use Rattle.calendar.specs.Notice.{business_days, Tenth}
use Rattle.calendar.specs.Theorems.{OneTenth}

module _ (b : ℕ → Bool) (t : ℕ) where
  count_step : (d : ℕ) → business_days b t (d + 1) ≡ business_days b t d + cond (ltb t (d + 1) && b (d + 1)) 1 0
  unfolding business_days
  count_step d = rw add-one refl

  pub count_yes : (d : ℕ) → t ≤ d → b (d + 1) ≡ true → business_days b t (d + 1) ≡ business_days b t d + 1
  count_yes d h e = let a = lt-ltb t (d + 1) (omega arith) in count_step d ∙ rw (a, e) refl

  pub count_no : (d : ℕ) → t ≤ d → b (d + 1) ≡ false → business_days b t (d + 1) ≡ business_days b t d
  count_no d h e = let a = lt-ltb t (d + 1) (omega arith) in count_step d ∙ rw (a, e) (add-zero (business_days b t d))

  pub count_none : (d : ℕ) → d ≤ t → business_days b t d ≡ 0
  unfolding business_days
  count_none zero h = refl
  count_none (suc d) h = let a = le-ltb t (suc d) h in rw a (add-zero (business_days b t d) ∙ count_none d (omega arith))

  count_grows : (d n : ℕ) → business_days b t d ≤ business_days b t (d + n)
  unfolding business_days
  count_grows d zero = rw add-zero (omega arith)
  count_grows d (suc n) = rw add-suc (omega (arith, count_grows d n))

  pub count_mono : (d e : ℕ) → d ≤ e → business_days b t d ≤ business_days b t e
  count_mono d e h = let q : d + (e - d) ≡ e = omega arith in rw q at (count_grows d (e - d))

-- A business day after another has the greater count.
later_more : (b : ℕ → Bool) (t d e : ℕ) → t < e → d < e → b e ≡ true → business_days b t d < business_days b t e
later_more b t d e h l p =
    let q : e - 1 + 1 ≡ e = omega arith in
    let r : b (e - 1 + 1) ≡ true = ap b q ∙ p in
    omega (arith, count_yes b t (e - 1) (omega arith) r, count_mono b t d (e - 1) (omega arith), ap (business_days b t) q)

pub one_tenth : OneTenth
one_tenth b t None None p q = refl
one_tenth b t None (Some y) p q = absurd (omega (arith, count_mono b t y last_day q.1))
one_tenth b t (Some x) None p q = absurd (omega (arith, count_mono b t x last_day p.1))
one_tenth b t (Some x) (Some y) p q =
    ⊎_elim (λ e. ap Some e)
    (⊎_elim (λ (l : x < y). absurd (omega (arith, later_more b t x y q.0 l q.2)))
    (λ (l : y < x). absurd (omega (arith, later_more b t y x p.0 l p.2))))
    (cases_order x y)

-- The business days after a day up to the last one, in their order.
module _ (b : ℕ → Bool) (t : ℕ) where
  -- The one at the place k, of those after the day a.
  abbrev After : ℕ → ℕ → Option ℕ → Type 0
  After a k r = MatchOption r (business_days b t last_day ≤ business_days b t a + k)
      (λ d. (t < d) × (d ≤ last_day) × (b d ≡ true) × (business_days b t d ≡ business_days b t a + k + 1))

  -- One after the day a + 1, counted from the day a.
  later : (a j k : ℕ) → business_days b t (a + 1) + j ≡ business_days b t a + k → (r : Option ℕ) → After (a + 1) j r → After a k r
  later a j k e None p = omega arith
  later a j k e (Some d) p = (p.0, p.1, p.2, omega (arith, p.3))

  place : (n a k : ℕ) → t ≤ a → a + n ≡ last_day → After a k (slice_get (filter b (range_with_len (a + 1) n)) k)
  place zero a k h l = let e : a ≡ last_day = omega arith in omega (arith, ap (business_days b t) e)
  place (suc n) a k h l = by (b (a + 1)) refl k (λ j. place n (a + 1) j (omega arith) (omega arith))
    where
      rest : List ℕ
      rest = filter b (range_with_len (a + 1 + 1) n)

      by : (v : Bool) → b (a + 1) ≡ v → (k : ℕ) → ((j : ℕ) → After (a + 1) j (slice_get rest j)) → After a k (slice_get (cond v ((a + 1) ∷ rest) rest) k)
      by true e zero p = (omega arith, omega arith, e, omega (arith, count_yes b t a h e))
      by true e (suc k) p = later a k (suc k) (omega (arith, count_yes b t a h e)) _ (p k)
      by false e k p = later a k k (omega (arith, count_no b t a h e)) _ (p k)

  to_tenth : (r : Option ℕ) → After t 9 r → Tenth b t r
  to_tenth None p = omega (arith, count_none b t t (omega arith))
  to_tenth (Some d) p = (p.0, p.1, p.2, omega (arith, p.3, count_none b t t (omega arith)))

  same : (r : Option ℕ) → option_map (λ x. x) r ≡ r
  same None = refl
  same (Some d) = refl

  -- The days after t begin at a; past the last day there are none.
  pub tenth_lem : (r : Option ℕ) (a : ℕ) → (t ≤ last_day → a ≡ t + 1) → (last_day < t → last_day < a) → option_map (λ x. x) r ≡ slice_get (filter b (range_with_len a (last_day + 1 - a))) 9 → Tenth b t r
  tenth_lem r a within past e =
      let q = sym e ∙ same r in
      let at : ℕ → ℕ → Option ℕ = λ m n. slice_get (filter b (range_with_len m n)) 9 in
      to_tenth r (subst (λ o. After t 9 o) q
      (⊎_elim
      (λ (h : last_day < t).
      let n : 0 ≡ last_day + 1 - a = omega (arith, past h) in
      subst (λ m. After t 9 (at a m)) n (omega (arith, count_none b t last_day (omega arith))))
      (λ (h : t ≤ last_day).
      let n : last_day - t ≡ last_day + 1 - a = omega (arith, within h) in
      subst (λ m. After t 9 (at a m)) n (subst (λ m. After t 9 (at m (last_day - t))) (sym (within h)) (place (last_day - t) t 9 (omega arith) (omega arith))))
      (cases_lt last_day t)))
