use Rattle.std.proofs.Common.{refl}
use Rattle.terms.specs.declared.calls.Call.TheVariants as call
use Rattle.definitions.specs.Standings.{suspend_does}
use Rattle.definitions.specs.States.{kept_of}
use Rattle.book.proofs.Answering.{kept_upheld}
use Rattle.book.proofs.books.Book.suspend.Goals as goal

pub invariant_of-self : goal.invariant_of-self
invariant_of-self g c =
    let h = g.R.Register.holdings c.args.self.now.register in
    let l = c.args.self.now.ledger in
    let k = kept_of l in
    let a = c.args in
    record { upheld = kept_upheld h l c.suspend.new.ledger (call.Suspend a.agent) tt (suspend_does k a.agent) c.suspend.result refl c.suspend.ensures.step a.self.now.upheld c.suspend.ensures.kempt }
