-- An image is its holdings and what lies beyond.
use Rattle.std.proofs.Common.{◌≡◌, ℕ, zero, suc, ◌+◌, ◌-◌, ◌*◌, ◌/◌, ◌%◌, ◌<◌, ◌≤◌, true, false, List, length, get_or, drop, sym, ap, ◌∙◌, inl, inr, add-zero, arith}
use Rattle.std.proofs.lemmas.Nat.{div-add-mod', div_below, mod_below}
use Rattle.std.proofs.lemmas.List.{ext_get_or, get_or-drop, length-drop}
use Rattle.std.proofs.lemmas.Bool.{cases_Bool, cases_eq, cases_lt, cond-false, cond-true, leb-true}
use Rattle.image.specs.Image.{u16_at, u64_at, size_of, whole, accounts_of, securities_of, imaged, beyond}
use Rattle.image.specs.Theorems.{Bytes, ImagesPinned}
use Rattle.image.proofs.Places.{imaged_free, imaged_reserved}

-- The number of n digits in base 256, the most significant first.
abbrev number : ℕ → (ℕ → ℕ) → ℕ
number zero f = 0
number (suc n) f = number n f * 256 + f n

last_digit : (x y b c : ℕ) → b < 256 → c < 256 → x * 256 + b ≡ y * 256 + c → (x ≡ y) × (b ≡ c)
last_digit x y b c lb lc e = (omega arith, omega arith)

-- Equal numbers have equal digits.
digits : (n : ℕ) (f g : ℕ → ℕ) → ((j : ℕ) → f j < 256) → ((j : ℕ) → g j < 256) → number n f ≡ number n g → (j : ℕ) → j < n → f j ≡ g j
digits zero f g lf lg e j lt = absurd (omega arith)
digits (suc n) f g lf lg e j lt =
    let p = last_digit (number n f) (number n g) (f n) (g n) (lf n) (lg n) e in
    elim (cases_eq j n) [ inl same ↦ rw same p.1 | inr ne ↦ digits n f g lf lg p.0 j (omega arith) ]

u16_number : (bs : List ℕ) (i : ℕ) → number 2 (λ j. get_or bs (i + j) 0) ≡ u16_at bs i
u16_number bs i = omega (arith, ap (λ k. get_or bs k 0) (add-zero i))

u64_number : (bs : List ℕ) (i : ℕ) → number 8 (λ j. get_or bs (i + j) 0) ≡ u64_at bs i
u64_number bs i = omega (arith, ap (λ k. get_or bs k 0) (add-zero i))

-- The free numbers stand first, then the reserved ones.
module _ (bs : List ℕ) (k : ℕ) (lt : k < accounts_of bs * securities_of bs) where
  some : 0 < securities_of bs
  some = elim (cases_eq (securities_of bs) 0) [ inl e ↦ absurd (let z : k < accounts_of bs * 0 = rw e at lt in omega arith) | inr ne ↦ omega arith ]

  row : k / securities_of bs < accounts_of bs
  row = div_below k (securities_of bs) (accounts_of bs) some lt

  free_number : (imaged bs).free (k / securities_of bs) (k % securities_of bs) ≡ u64_at bs (4 + 8 * k)
  unfolding imaged
  free_number =
      imaged_free bs (k / securities_of bs) (k % securities_of bs) (row, mod_below k (securities_of bs) some) ∙ ap (λ i. u64_at bs (4 + 8 * i)) (div-add-mod' k (securities_of bs))

  reserved_number : (imaged bs).reserved (k / securities_of bs) (k % securities_of bs) ≡ u64_at bs (4 + 8 * (accounts_of bs * securities_of bs + k))
  unfolding imaged
  reserved_number =
      imaged_reserved bs (k / securities_of bs) (k % securities_of bs) (row, mod_below k (securities_of bs) some) ∙ ap (λ i. u64_at bs (4 + 8 * (accounts_of bs * securities_of bs + i))) (div-add-mod' k (securities_of bs))

beyond_whole : (bs : List ℕ) → whole bs ≡ true → beyond bs ≡ drop (size_of bs) bs
unfolding beyond
beyond_whole bs e = cond-true _ _ _ e

beyond_short : (bs : List ℕ) → whole bs ≡ false → beyond bs ≡ bs
unfolding beyond
beyond_short bs e = cond-false _ _ _ e

-- Of two lists of one length that agree in what lies beyond, both are enough for their numbers or neither is.
unlike : (bs cs : List ℕ) → whole bs ≡ true → whole cs ≡ false → length bs ≡ length cs → beyond bs ≡ beyond cs → ⊥
unlike bs cs eb ec len same =
    let l : length (drop (size_of bs) bs) ≡ length cs = ap length (sym (beyond_whole bs eb) ∙ (same ∙ beyond_short cs ec)) in
    let fits : size_of bs ≤ length bs = leb-true _ _ eb in
    omega (arith, length-drop (size_of bs) bs)

module _ (bs cs : List ℕ) (wb : Bytes bs) (wc : Bytes cs) (img : imaged bs ≡ imaged cs) where
  two_bytes : (i j : ℕ) → j < 2 → u16_at bs i ≡ u16_at cs i → get_or bs (i + j) 0 ≡ get_or cs (i + j) 0
  two_bytes i j lt e =
      digits 2 (λ k. get_or bs (i + k) 0) (λ k. get_or cs (i + k) 0) (λ k. wb (i + k)) (λ k. wc (i + k)) (u16_number bs i ∙ (e ∙ sym (u16_number cs i))) j lt

  eight_bytes : (i j : ℕ) → j < 8 → u64_at bs i ≡ u64_at cs i → get_or bs (i + j) 0 ≡ get_or cs (i + j) 0
  eight_bytes i j lt e =
      digits 8 (λ k. get_or bs (i + k) 0) (λ k. get_or cs (i + k) 0) (λ k. wb (i + k)) (λ k. wc (i + k)) (u64_number bs i ∙ (e ∙ sym (u64_number cs i))) j lt

  accounts_agree : accounts_of bs ≡ accounts_of cs
  unfolding imaged
  accounts_agree = ap (λ h. h.accounts) img

  securities_agree : securities_of bs ≡ securities_of cs
  unfolding imaged
  securities_agree = ap (λ h. h.securities) img

  lines_agree : accounts_of bs * securities_of bs ≡ accounts_of cs * securities_of cs
  lines_agree = rw (accounts_agree, securities_agree)

  numbers_agree : (k : ℕ) → k < 2 * (accounts_of bs * securities_of bs) → u64_at bs (4 + 8 * k) ≡ u64_at cs (4 + 8 * k)
  numbers_agree k lt =
      elim (cases_lt k (accounts_of bs * securities_of bs)) [
        | inl less ↦
            sym (free_number bs k less) ∙ (ap (λ h. h.free (k / securities_of bs) (k % securities_of bs)) img
            ∙ (ap (λ n. (imaged cs).free (k / n) (k % n)) securities_agree ∙ free_number cs k (omega (arith, lines_agree))))
        | inr le ↦
            let d : ℕ = k - accounts_of bs * securities_of bs in
            let e : accounts_of bs * securities_of bs + d ≡ k = omega arith in
            let f : accounts_of cs * securities_of cs + d ≡ k = omega (arith, lines_agree) in
            ap (λ i. u64_at bs (4 + 8 * i)) (sym e) ∙ (sym (reserved_number bs d (omega arith)) ∙ (ap (λ h. h.reserved (d / securities_of bs) (d % securities_of bs)) img
            ∙ (ap (λ n. (imaged cs).reserved (d / n) (d % n)) securities_agree ∙ (reserved_number cs d (omega (arith, lines_agree)) ∙ ap (λ i. u64_at cs (4 + 8 * i)) f))))
      ]

  module _ (eb : whole bs ≡ true) (ec : whole cs ≡ true) (same : beyond bs ≡ beyond cs) where
    header_accounts : u16_at bs 0 ≡ u16_at cs 0
    header_accounts = sym (cond-true _ _ 0 eb) ∙ (accounts_agree ∙ cond-true _ _ _ ec)

    header_securities : u16_at bs 2 ≡ u16_at cs 2
    header_securities = sym (cond-true _ _ 0 eb) ∙ (securities_agree ∙ cond-true _ _ _ ec)

    size_agree : size_of bs ≡ size_of cs
    size_agree = rw (header_accounts, header_securities)

    size_lines : size_of bs ≡ 4 + 16 * (accounts_of bs * securities_of bs)
    size_lines =
        let a : accounts_of bs ≡ u16_at bs 0 = cond-true _ _ _ eb in
        let s : securities_of bs ≡ u16_at bs 2 = cond-true _ _ _ eb in
        rw (a, s)

    byte_agrees : (i : ℕ) → get_or bs i 0 ≡ get_or cs i 0
    byte_agrees i =
        elim (cases_lt i 2) [
          | inl l2 ↦ let e : 0 + i ≡ i = omega arith in rw e at (two_bytes 0 i l2 header_accounts)
          | inr g2 ↦ elim (cases_lt i 4) [
            | inl l4 ↦ let e : 2 + (i - 2) ≡ i = omega arith in rw e at (two_bytes 2 (i - 2) (omega arith) header_securities)
            | inr g4 ↦ elim (cases_lt i (size_of bs)) [
              | inl ls ↦
                  let e : 4 + 8 * ((i - 4) / 8) + (i - 4) % 8 ≡ i = omega arith in
                  let n = numbers_agree ((i - 4) / 8) (omega (arith, size_lines)) in
                  rw e at (eight_bytes (4 + 8 * ((i - 4) / 8)) ((i - 4) % 8) (omega arith) n)
              | inr gs ↦
                  let e : size_of bs + (i - size_of bs) ≡ i = omega arith in
                  let f : size_of cs + (i - size_of bs) ≡ i = omega (arith, size_agree) in
                  let d = ap (λ l. get_or l (i - size_of bs) 0) (sym (beyond_whole bs eb) ∙ (same ∙ beyond_whole cs ec)) in
                  ap (λ k. get_or bs k 0) (sym e) ∙ (sym (get_or-drop (size_of bs) bs (i - size_of bs) 0) ∙ (d ∙ (get_or-drop (size_of cs) cs (i - size_of bs) 0 ∙ ap (λ k. get_or cs k 0) f)))
            ]
          ]
        ]

pub images_pinned : ImagesPinned
images_pinned bs cs wb wc len img same =
    elim (cases_Bool (whole bs)) [
      | inl eb ↦ elim (cases_Bool (whole cs)) [
        | inl ec ↦ ext_get_or 0 bs cs len (λ i lt. byte_agrees bs cs wb wc img eb ec same i)
        | inr ec ↦ absurd (unlike bs cs eb ec len same)
      ]
      | inr eb ↦ elim (cases_Bool (whole cs)) [
        | inl ec ↦ absurd (unlike cs bs ec eb (sym len) (sym same))
        | inr ec ↦ sym (beyond_short bs eb) ∙ (same ∙ beyond_short cs ec)
      ]
    ]
