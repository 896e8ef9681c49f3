-- What a write of one number does to the holdings in the bytes, and to what lies beyond.
use Rattle.std.proofs.Common.{◌≡◌, ℕ, ◌+◌, ◌*◌, ◌/◌, ◌%◌, ◌<◌, ◌≤◌, Bool, true, cond, ◌⊎◌, List, length, get_or, drop, Option, None, Some, MatchOption, sym, ap, subst, ◌∙◌, inl, inr, arith}
use Rattle.std.proofs.lemmas.Nat.{mul-add-lt, div-mul-add, mod-mul-add}
use Rattle.std.proofs.lemmas.List.{ext_get_or, get_or-drop, length-drop}
use Rattle.std.proofs.lemmas.Bool.Decides.{nat_tests}
use Rattle.std.proofs.lemmas.Bool.{cases_Bool, cond-false, cond-true, leb-true, cases_lt}
use Rattle.register.specs.Holdings.{with_free, with_reserved, Inside}
use Rattle.register.proofs.Changed.{same_holdings}
use Rattle.register.proofs.Sums.{is_put}
use Rattle.image.specs.Image.{u16_at, u64_at, size_of, whole, accounts_of, securities_of, free_place, reserved_place, inside, imaged, beyond, frame_of}
use Rattle.image.specs.Inner.{Stored, Found, Missing}
use Rattle.image.specs.Zero.{inside_true}
use Rattle.image.specs.declared.lines.Line.{Line}

-- Two lines of one place are one line.
pub place_apart : (n a s b t : ℕ) → s < n → t < n → a * n + s ≡ b * n + t → (a ≡ b) × (s ≡ t)
place_apart n a s b t ls lt e =
    (sym (div-mul-add a n s ls) ∙ (ap (λ k. k / n) e ∙ div-mul-add b n t lt), sym (mod-mul-add a n s ls) ∙ (ap (λ k. k % n) e ∙ mod-mul-add b n t lt))

pub imaged_free : (bs : List ℕ) (a s : ℕ) → Inside (imaged bs) a s → (imaged bs).free a s ≡ u64_at bs (free_place bs a s)
unfolding imaged
imaged_free bs a s h = grind (arith, nat_tests)

pub imaged_reserved : (bs : List ℕ) (a s : ℕ) → Inside (imaged bs) a s → (imaged bs).reserved a s ≡ u64_at bs (reserved_place bs a s)
unfolding imaged
imaged_reserved bs a s h = grind (arith, nat_tests)

-- Where there is a line the bytes are enough, and its numbers lie within those that the header announces.
pub enough : (bs : List ℕ) (a : ℕ) → a < accounts_of bs → whole bs ≡ true
enough bs a la =
    elim (cases_Bool (whole bs)) [
      | inl e ↦ e
      | inr e ↦ let none : accounts_of bs ≡ 0 = cond-false (whole bs) _ _ e in absurd (omega arith)
    ]

pub room : (bs : List ℕ) (a s : ℕ) → a < accounts_of bs → s < securities_of bs → (reserved_place bs a s + 8 ≤ size_of bs) × (size_of bs ≤ length bs)
room bs a s la ls =
    let e = enough bs a la in
    let ea : accounts_of bs ≡ u16_at bs 0 = cond-true (whole bs) _ _ e in
    let es : securities_of bs ≡ u16_at bs 2 = cond-true (whole bs) _ _ e in
    let p : accounts_of bs * securities_of bs ≡ u16_at bs 0 * u16_at bs 2 = rw (ea, es) in
    (omega (arith, mul-add-lt a (securities_of bs) s (accounts_of bs) la ls), leb-true _ _ e)

-- After a write behind the header.
module _ (bs cs : List ℕ) (at v : ℕ) (st : Stored bs cs at v) (behind : 4 ≤ at) where
  header_accounts : u16_at cs 0 ≡ u16_at bs 0
  header_accounts = omega (arith, st.others 0 (inl (omega arith)), st.others 1 (inl (omega arith)))

  header_securities : u16_at cs 2 ≡ u16_at bs 2
  header_securities = omega (arith, st.others 2 (inl (omega arith)), st.others 3 (inl (omega arith)))

  whole_same : whole cs ≡ whole bs
  whole_same = rw (header_accounts, header_securities, st.len)

  accounts_same : accounts_of cs ≡ accounts_of bs
  accounts_same = rw (whole_same, header_accounts)

  securities_same : securities_of cs ≡ securities_of bs
  securities_same = rw (whole_same, header_securities)

  inside_same : (b t : ℕ) → inside cs b t ≡ inside bs b t
  inside_same b t = rw (accounts_same, securities_same)

  free_at_same : (b t : ℕ) → free_place cs b t ≡ free_place bs b t
  free_at_same b t = rw securities_same

  reserved_at_same : (b t : ℕ) → reserved_place cs b t ≡ reserved_place bs b t
  reserved_at_same b t = rw (accounts_same, securities_same)

  found_same : (a s : ℕ) (l : Line) → Found bs a s l → Found cs a s l
  unfolding imaged
  found_same a s l f =
      record {
        account = omega (arith, accounts_same, f.account);
        security = omega (arith, securities_same, f.security);
        free_at = f.free_at ∙ sym (free_at_same a s);
        reserved_at = f.reserved_at ∙ sym (reserved_at_same a s);
        free_room = omega (arith, st.len, f.free_room);
        reserved_room = omega (arith, st.len, f.reserved_room);
      }

  size_same : size_of cs ≡ size_of bs
  size_same = rw (header_accounts, header_securities)

  -- a write within the numbers leaves what lies beyond
  beyond_same : whole bs ≡ true → at + 8 ≤ size_of bs → beyond cs ≡ beyond bs
  unfolding beyond
  beyond_same e le =
      let n = size_of bs in
      let after : beyond cs ≡ drop n cs = cond-true _ _ _ (whole_same ∙ e) ∙ ap (λ k. drop k cs) size_same in
      let before : beyond bs ≡ drop n bs = cond-true _ _ _ e in
      after ∙ (ext_get_or 0 (drop n cs) (drop n bs) (simp length-drop (rw st.len))
      (λ i lt. get_or-drop n cs i 0 ∙ (st.others (n + i) (inr (omega arith)) ∙ sym (get_or-drop n bs i 0))) ∙ sym before)

  -- a number that does not meet the written one is as it was
  u64_at_apart : (k : ℕ) → (k + 8 ≤ at) ⊎ (at + 8 ≤ k) → u64_at cs k ≡ u64_at bs k
  u64_at_apart k apart =
      let g : (j : ℕ) → j < 8 → get_or cs (k + j) 0 ≡ get_or bs (k + j) 0 =
      λ j lt. st.others (k + j) (elim apart [ inl h ↦ inl (omega arith) | inr h ↦ inr (omega arith) ]) in
      let g0 : get_or cs k 0 ≡ get_or bs k 0 = st.others k (elim apart [ inl h ↦ inl (omega arith) | inr h ↦ inr (omega arith) ]) in
      omega (arith, g 1 (omega arith), g 2 (omega arith), g 3 (omega arith), g 4 (omega arith), g 5 (omega arith), g 6 (omega arith), g 7 (omega arith))

-- The number m is written: each other is as it was.
pub number_same : (bs cs : List ℕ) (m v k : ℕ) → Stored bs cs (4 + 8 * m) v → (m ≡ k → ⊥) → u64_at cs (4 + 8 * k) ≡ u64_at bs (4 + 8 * k)
number_same bs cs m v k st ne =
    u64_at_apart bs cs (4 + 8 * m) v st (omega arith) (4 + 8 * k)
    (elim (cases_lt m k) [ inl lt ↦ inr (omega arith) | inr le ↦ inl (omega arith) ])

-- Two different lines have different places.
pub lines_apart : (n a s b t : ℕ) → s < n → t < n → ((a ≡ b) × (s ≡ t) → ⊥) → a * n + s ≡ b * n + t → ⊥
lines_apart n a s b t ls lt ne e = ne (place_apart n a s b t ls lt e)

-- A conditional number is another where its test is the same and, under the test, its value.
pub cond_same : (x y : Bool) (m n : ℕ) → x ≡ y → (y ≡ true → m ≡ n) → cond x m 0 ≡ cond y n 0
cond_same x y m n e h =
    rw e (elim (cases_Bool y) [ inl t ↦ ap (λ k. cond y k 0) (h t) | inr f ↦ cond-false y m 0 f ∙ sym (cond-false y n 0 f) ])

module _ (bs cs : List ℕ) (a s v : ℕ) (within : Inside (imaged bs) a s) where
  -- a write of a free number
  pub stored_free : Stored bs cs (free_place bs a s) v → imaged cs ≡ with_free (imaged bs) a s v
  unfolding imaged
  stored_free st =
      let at = free_place bs a s in
      let n = securities_of bs in
      let m = accounts_of bs * securities_of bs in
      let acs = accounts_same bs cs at v st (omega arith) in
      let secs = securities_same bs cs at v st (omega arith) in
      let is = inside_same bs cs at v st (omega arith) in
      same_holdings (imaged cs) (with_free (imaged bs) a s v) acs secs
      (is_put (imaged bs).free (imaged cs).free a s v
      (imaged_free cs a s (omega arith, omega arith) ∙ (ap (u64_at cs) (free_at_same bs cs at v st (omega arith) a s) ∙ st.value))
      (λ b t ne. cond_same (inside cs b t) (inside bs b t) _ _ (is b t)
      (λ i. ap (u64_at cs) (free_at_same bs cs at v st (omega arith) b t) ∙ number_same bs cs (a * n + s) v (b * n + t) st (lines_apart n a s b t within.1 (inside_true bs b t i).1 ne))))
      (λ b t. cond_same (inside cs b t) (inside bs b t) _ _ (is b t)
      (λ i. ap (u64_at cs) (reserved_at_same bs cs at v st (omega arith) b t) ∙ number_same bs cs (a * n + s) v (m + (b * n + t)) st (λ e. omega (arith, mul-add-lt a n s (accounts_of bs) within.0 within.1))))

  -- a write of a reserved number
  pub stored_reserved : Stored bs cs (reserved_place bs a s) v → imaged cs ≡ with_reserved (imaged bs) a s v
  unfolding imaged
  stored_reserved st =
      let at = reserved_place bs a s in
      let n = securities_of bs in
      let m = accounts_of bs * securities_of bs in
      let acs = accounts_same bs cs at v st (omega arith) in
      let secs = securities_same bs cs at v st (omega arith) in
      let is = inside_same bs cs at v st (omega arith) in
      same_holdings (imaged cs) (with_reserved (imaged bs) a s v) acs secs
      (λ b t. cond_same (inside cs b t) (inside bs b t) _ _ (is b t)
      (λ i. ap (u64_at cs) (free_at_same bs cs at v st (omega arith) b t) ∙ number_same bs cs (m + (a * n + s)) v (b * n + t) st (λ e. omega (arith, mul-add-lt b n t (accounts_of bs) (inside_true bs b t i).0 (inside_true bs b t i).1))))
      (is_put (imaged bs).reserved (imaged cs).reserved a s v
      (imaged_reserved cs a s (omega arith, omega arith) ∙ (ap (u64_at cs) (reserved_at_same bs cs at v st (omega arith) a s) ∙ st.value))
      (λ b t ne. cond_same (inside cs b t) (inside bs b t) _ _ (is b t)
      (λ i. ap (u64_at cs) (reserved_at_same bs cs at v st (omega arith) b t) ∙ number_same bs cs (m + (a * n + s)) v (m + (b * n + t)) st (λ e. lines_apart n a s b t within.1 (inside_true bs b t i).1 ne (omega arith)))))

-- A found line is the line of its own account and security.
pub line_found : (bs : List ℕ) (a s : ℕ) (r : Option Line) → MatchOption r (Missing bs a s) (λ l. Found bs a s l × (l.account ≡ a) × (l.security ≡ s)) → MatchOption r (Inside (imaged bs) a s → ⊥) (λ l. Inside (imaged bs) a s × (l.account ≡ a) × (l.security ≡ s) × Found bs l.account l.security l)
line_found bs a s None m = m.outside
line_found bs a s (Some l) p =
    ((p.0.account, p.0.security), p.1, p.2, subst (λ b. Found bs b l.security l) (sym p.1) (subst (λ t. Found bs a t l) (sym p.2) p.0))

module _ (bs : List ℕ) (a s : ℕ) (l : Line) (f : Found bs a s l) where
  pub free_found : u64_at bs l.free_at ≡ (imaged bs).free a s
  free_found = ap (u64_at bs) f.free_at ∙ sym (imaged_free bs a s (f.account, f.security))

  pub reserved_found : u64_at bs l.reserved_at ≡ (imaged bs).reserved a s
  reserved_found = ap (u64_at bs) f.reserved_at ∙ sym (imaged_reserved bs a s (f.account, f.security))

  module _ (cs : List ℕ) (v : ℕ) where
    pub set_free_after : Stored bs cs l.free_at v → imaged cs ≡ with_free (imaged bs) a s v
    set_free_after st = stored_free bs cs a s v (f.account, f.security) (rw f.free_at at st)

    pub set_free_frame : Stored bs cs l.free_at v → (lender : ℕ) → frame_of lender cs ≡ frame_of lender bs
    unfolding imaged
    set_free_frame st lender =
        let r = room bs a s f.account f.security in
        ap (λ (rest : List ℕ). record { lender = lender; beyond = rest }) (beyond_same bs cs l.free_at v st (omega (arith, f.free_at)) (enough bs a f.account) (omega (arith, f.free_at)))

    pub set_free_stays : Stored bs cs l.free_at v → Found cs a s l
    set_free_stays st = found_same bs cs l.free_at v st (omega (arith, f.free_at)) a s l f

    pub set_reserved_after : Stored bs cs l.reserved_at v → imaged cs ≡ with_reserved (imaged bs) a s v
    set_reserved_after st = stored_reserved bs cs a s v (f.account, f.security) (rw f.reserved_at at st)

    pub set_reserved_frame : Stored bs cs l.reserved_at v → (lender : ℕ) → frame_of lender cs ≡ frame_of lender bs
    unfolding imaged
    set_reserved_frame st lender =
        let r = room bs a s f.account f.security in
        ap (λ (rest : List ℕ). record { lender = lender; beyond = rest }) (beyond_same bs cs l.reserved_at v st (omega (arith, f.reserved_at)) (enough bs a f.account) (omega (arith, f.reserved_at)))

    pub set_reserved_stays : Stored bs cs l.reserved_at v → Found cs a s l
    set_reserved_stays st = found_same bs cs l.reserved_at v st (omega (arith, f.reserved_at)) a s l f
