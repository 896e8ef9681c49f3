use Rattle.std.proofs.Common.{◌≡◌, ◌+◌, ◌*◌, ◌≤◌, Some, ap, ◌∙◌, arith}
use Rattle.std.proofs.lemmas.Bool.Decides.{nat_tests}
use Rattle.days.specs.Dates.{valid, day_number}
use Rattle.days.specs.Table.{month_start, length_of}
use Rattle.days.proofs.Conversions.{invalid, valid_day, valid_true, place, place_start, place_length, start_below}
use Rattle.days.proofs.dates.day_of.Goals as goal

pub returns-then-not-contains : goal.returns-then-not-contains
unfolding valid
returns-then-not-contains c = invalid c.args.date (grind (arith, nat_tests))

pub returns-then-from-length : goal.returns-then-from-length
unfolding valid
returns-then-from-length c =
    let y = c.args.date.year in
    let m = c.args.date.month in
    let from : 2000 ≤ y = grind arith in
    let first : 1 ≤ m = grind arith in
    let last : m ≤ 12 = grind arith in
    let k : c.from.result * 12 + c.from-2.result ≡ place y m = omega arith in
    let l = ap length_of k in
    let n = place_length y m first last from in
    invalid c.args.date (grind (arith, nat_tests))

pub overflow_add-result : goal.overflow_add-result
overflow_add-result c =
    let below = start_below (c.from.result * 12 + c.from-2.result) (grind arith) in
    record { fits = omega arith }

pub returns : goal.returns
unfolding day_number
returns c =
    let y = c.args.date.year in
    let m = c.args.date.month in
    let from : 2000 ≤ y = grind arith in
    let to : y ≤ 2049 = grind arith in
    let first : 1 ≤ m = grind arith in
    let last : m ≤ 12 = grind arith in
    let k : c.from.result * 12 + c.from-2.result ≡ place y m = omega arith in
    let l = ap length_of k in
    let b = ap month_start k in
    let s = place_start y m first last from in
    let n = place_length y m first last from in
    let e : c.first_day.result + c.from-4.result ≡ day_number c.args.date = omega arith in
    let v = valid_true c.args.date (record { from = from; to = to; first = first; last = last; one = omega arith; fits = omega arith }) in
    ap Some e ∙ valid_day c.args.date v
