-- What `{:02}` writes of a number.
use Rattle.std.proofs.Common.{◌≡◌, ℕ, ◌+◌, ◌-◌, ◌/◌, ◌%◌, ◌^◌, ◌<◌, ◌≤◌, [], ◌∷◌, ◌++◌, length, decimal, sym, ap, ◌∙◌, ⊎_elim, length-append, arith}
use Rattle.std.specs.Fmt.{padded_integral, format_spec, styled_decimal, char_count}
use Rattle.std.proofs.lemmas.Bool.{cases_lt}
use Rattle.std.proofs.lemmas.List.{append-nil}
use Rattle.std.proofs.lemmas.Fmt.{decimal_digit, decimal_step, decimal_nonempty}
use Rattle.days.specs.Dates.{two_digits}

zero_padded : (n : ℕ) → n < 2 ^ 64 → styled_decimal (format_spec 32 0 4 2 (2 ^ 64 - 1)) n ≡ two_digits n
unfolding padded_integral char_count
zero_padded n small =
    ⊎_elim
    (λ (one : n < 10).
    let high : n / 10 ≡ 0 = omega arith in
    let low : n % 10 ≡ n = omega arith in
    let zero : decimal 0 ≡ 48 ∷ [] = decimal_digit 0 (omega arith) in
    rw (decimal_digit n one, high, low, decimal_digit n one) (ap (λ ds. ds ++ (48 + n) ∷ []) (sym zero)))
    (λ (two : 10 ≤ n).
    let last = decimal_digit (n % 10) (omega arith) in
    let more = decimal_step n two small in
    let some = decimal_nonempty (n / 10) (omega arith) in
    let none : 2 - length (decimal n) - 0 - 0 ≡ 0 = omega (arith, ap length more, length-append (decimal (n / 10)) ((48 + n % 10) ∷ [])) in
    let back : decimal (n / 10) ++ decimal (n % 10) ≡ decimal n = ap (λ ds. decimal (n / 10) ++ ds) last ∙ sym more in
    rw none (append-nil (decimal n) ∙ sym back))
    (cases_lt n 10)

pub two_digits_lem : (s : _) (n : ℕ) → n < 2 ^ 64 → s ≡ format_spec 32 0 4 2 (2 ^ 64 - 1) → styled_decimal s n ≡ two_digits n
two_digits_lem s n small e = ap (λ t. styled_decimal t n) e ∙ zero_padded n small
