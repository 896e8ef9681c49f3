use Rattle.std.proofs.Common.{refl, arith}
use Rattle.std.proofs.Output.{has_written_of_eq}
use Rattle.days.proofs.Digits.{two_digits_lem}
use Rattle.days.proofs.dates.DateDisplay.fmt.Goals as goal

pub returns-clause-writes : goal.returns-clause-writes
returns-clause-writes g c = λ plain ok.
    let month = two_digits_lem _ c.args.self.now.month (omega arith) c.laid_out.ensures in
    let day = two_digits_lem _ c.args.self.now.day (omega arith) c.laid_out-2.ensures in
    has_written_of_eq _ _ _ _ _ (rw (month, day) refl) (c.write.ensures.writes plain ok)
