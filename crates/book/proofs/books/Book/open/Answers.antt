use Rattle.std.proofs.Common.{rules, sym, refl, subst}
use Rattle.definitions.specs.Sound.{Upright}
use Rattle.book.proofs.Fits.{is_new, opened_as, opening_upright}
use Rattle.book.proofs.books.Book.open.Goals as goal

pub invariant_of-result : goal.invariant_of-result
invariant_of-result g c =
    let h = g.R.Register.holdings c.args.register in
    record {
      upheld = record {
        neat = record {
          lending = record { ordered = (refl, refl); long = refl };
          borrowing = record { ordered = (refl, refl); long = refl };
          loans = record { ordered = (refl, refl); long = refl };
        };
        upright = subst Upright (sym (opened_as h c.args.day c.may_open-opened.result c.default.result c.default-2.result c.may_open-opened.ensures (search rules) (is_new _ c.default-2.ensures.0 c.default-2.ensures.1))) (opening_upright h c.args.day (g.R.Register.outside c.args.register));
      };
    }
