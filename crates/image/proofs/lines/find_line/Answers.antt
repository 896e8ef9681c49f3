use Rattle.std.proofs.Common.{◌<◌, refl, arith}
use Rattle.register.specs.Holdings.{Inside}
use Rattle.image.specs.Image.{imaged, accounts_of, securities_of}
use Rattle.image.specs.Zero.{imaged_outside}
use Rattle.image.proofs.Places.{room}
use Rattle.image.proofs.lines.find_line.Goals as goal

pub returns-then-account-accounts : goal.returns-then-account-accounts
unfolding imaged
returns-then-account-accounts c =
    let bs = c.args.bytes.now in
    let out : (Inside (imaged bs) c.args.account c.args.security → ⊥) = λ w. grind arith in
    let none = imaged_outside bs c.args.account c.args.security out in
    record { outside = out; free_is = none.0; reserved_is = none.1 }

pub returns : goal.returns
unfolding imaged
returns c =
    let bs = c.args.bytes.now in
    let counts = c.counts_in-accounts.ensures in
    let la : c.args.account < accounts_of bs = omega arith in
    let ls : c.args.security < securities_of bs = omega arith in
    let fits = room bs c.args.account c.args.security la ls in (
      record {
        account = la;
        security = ls;
        free_at = rw counts.securities;
        reserved_at = rw (counts.accounts, counts.securities);
        free_room = rw counts.securities (omega (arith, fits));
        reserved_room = rw (counts.accounts, counts.securities) (omega (arith, fits));
      },
      refl,
      refl,
    )
