-- The entries of all days, and their lines.
use Rattle.std.proofs.Common.{◌≡◌, ℕ, zero, suc, ◌+◌, ◌<◌, ◌≤◌, false, List, ◌∷◌, ◌++◌, map, length, get_or, Some, None, Option, codes, decimal, refl, sym, ap, ◌∙◌, ⊎_elim, add-one, arith}
use Rattle.std.specs.List.{cons_option, filter_map, range_with_len}
use Rattle.std.proofs.lemmas.Bool.{cases_lt, cond-true, cond-false, eq-eqb, ne_eqb, le-leb, lt-leb, not_from_true}
use Rattle.std.proofs.lemmas.Option.{none-some}
use Rattle.std.proofs.lemmas.List.FromFn.{length-map-range_with_len, get_or-map-range_with_len}
use Rattle.days.specs.Dates.{last_day}
use Rattle.almanac.specs.Almanac.{again_text, entry_at, entry_of, differs, line_text, lines_before}
use Rattle.almanac.specs.declared.entry.Entry.{Entry}

-- The entries of n days from the day a on, none of them past the last.
entries_lem : (n a : ℕ) → a + n ≡ last_day + 1 → filter_map entry_of (range_with_len a n) ≡ map entry_at (range_with_len a n)
entries_lem zero a h = refl
entries_lem (suc n) a h =
    let rest = filter_map entry_of (range_with_len (a + 1) n) in
    let some : entry_of a ≡ Some (entry_at a) = cond-true _ (Some (entry_at a)) None (le-leb a last_day (omega arith)) in
    ap (λ e. cons_option e rest) some ∙ ap (λ es. entry_at a ∷ es) (entries_lem n (a + 1) (omega arith))

abbrev pub entries : List Entry
entries = filter_map entry_of (range_with_len 0 (last_day + 1))

pub length-entries : length entries ≡ last_day + 1
length-entries = ap length (entries_lem (last_day + 1) 0 refl) ∙ length-map-range_with_len entry_at 0 (last_day + 1)

pub get_or-entries : (n : ℕ) (e : Entry) → (n < length entries) × (e ≡ get_or entries n e) → e ≡ entry_at n
get_or-entries n e h =
    h.1 ∙ ap (λ es. get_or es n e) (entries_lem (last_day + 1) 0 refl)
    ∙ get_or-map-range_with_len entry_at 0 (last_day + 1) n n e (omega (arith, h.0, length-entries)) (omega arith)

-- What a line says of a day that does not come back.
pub other_text : (d n : ℕ) (o : Option ℕ) → o ≡ Some n → (n ≡ d → ⊥) → decimal n ++ codes " differs" ≡ again_text d o
other_text d n o e ne = sym (ap (again_text d) e ∙ cond-false _ _ _ (ne_eqb n d ne))

pub none_text : (d : ℕ) (o : Option ℕ) → o ≡ None → codes "none differs" ≡ again_text d o
none_text d o e = sym (ap (again_text d) e)

-- An entry is that of its day, which is not past the last.
pub entry_at_lem : (d : ℕ) (e : Entry) → Some e ≡ entry_of d → (e ≡ entry_at d) × (d ≤ last_day)
entry_at_lem d e p =
    ⊎_elim
    (λ (h : last_day < d). absurd (none-some e (sym (p ∙ cond-false _ (Some (entry_at d)) None (lt-leb d last_day h)))))
    (λ (h : d ≤ last_day). let q = cond-true _ (Some (entry_at d)) None (le-leb d last_day h) in (cc, h))
    (cases_lt last_day d)

-- No entry differs.
pub none_differs : (d : ℕ) (e : Entry) → e ≡ entry_at d → differs e.day e.again ≡ false
none_differs d e p = ap (λ (x : Entry). differs x.day x.again) p ∙ not_from_true _ (eq-eqb d d refl)

pub one_more : (d : ℕ) → lines_before (d + 1) ≡ lines_before d ++ line_text (entry_at d)
unfolding lines_before
one_more d = rw add-one refl
