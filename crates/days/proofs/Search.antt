-- A search in the table of first days ends at the month that a day lies in.
use Rattle.std.proofs.Common.{◌≡◌, ℕ, ◌+◌, ◌-◌, ◌<◌, ◌≤◌, true, false, leb, leb-true, leb-false, List, length, get_or, ap, ⊎_elim, arith}
use Rattle.std.specs.List.Sorted.{IsPartitionedBy, IsPartitionPoint}
use Rattle.std.proofs.lemmas.Bool.{cases_lt}
use Rattle.std.proofs.lemmas.List.Sorted.{IsNonDecreasingBy-from_default, IsPartitionedBy-leb}
use Rattle.days.specs.Dates.{last_day}
use Rattle.days.specs.Table.{month_start, is_month_table}
use Rattle.days.proofs.Months.{start_first, table_at}
use Rattle.days.proofs.Conversions.{start_end, start_mono}

-- So many months have begun by a day, and it lies in the last of them.
pub record Begun (n d : ℕ) : Type 0 where
  pub some : 0 < n
  pub begun : month_start (n - 1) ≤ d
  pub left : d < month_start (n - 1 + 1)

module _ (xs : List ℕ) (rule : is_month_table 18263 xs ≡ true) (d : ℕ) where
  ascends : (i j : ℕ) → i ≤ j → j < length xs → get_or xs i 0 ≤ get_or xs j 0
  ascends i j h l =
      let e : i + (j - i) ≡ j = omega arith in
      omega (arith, table_at 18263 xs rule i (omega arith), table_at 18263 xs rule j l, start_mono i (j - i), ap month_start e)

  pub parted : IsPartitionedBy (λ first. leb first d) xs
  parted = IsPartitionedBy-leb (λ first. first) xs d (IsNonDecreasingBy-from_default (λ first. first) xs 0 ascends)

  module _ (n : ℕ) (p : IsPartitionPoint (λ first. leb first d ≡ true) (λ first. leb first d ≡ false) xs n) where
    passed : length xs ≡ 600 → d ≤ last_day → n ≤ length xs → d < month_start n
    passed len h l =
        ⊎_elim
        (λ (s : n < 600).
        omega (arith, leb-false _ _ (p.1 n 0 (omega arith) (omega arith)), table_at 18263 xs rule n (omega arith)))
        (λ (s : 600 ≤ n). let e : n ≡ 600 = omega arith in omega (arith, ap month_start e, start_end))
        (cases_lt n 600)

    pub begun_at : length xs ≡ 600 → d ≤ last_day → n ≤ length xs → Begun n d
    begun_at len h l =
        let q = passed len h l in
        ⊎_elim (λ (s : n < 1). let e : n ≡ 0 = omega arith in absurd (omega (arith, ap month_start e, start_first)))
        (λ (s : 1 ≤ n).
        let e : n - 1 + 1 ≡ n = omega arith in
        let b = leb-true _ _ (p.0 (n - 1) 0 (omega arith) (omega arith)) in
        record { some = s; begun = omega (arith, table_at 18263 xs rule (n - 1) (omega arith)); left = omega (arith, ap month_start e) })
        (cases_lt n 1)
