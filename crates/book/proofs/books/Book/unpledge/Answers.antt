use Rattle.std.proofs.Common.{refl}
use Rattle.terms.specs.declared.calls.Call.TheVariants as call
use Rattle.definitions.specs.Pledges.{unpledge_does}
use Rattle.definitions.specs.States.{kept_of}
use Rattle.book.proofs.Answering.{kept_upheld}
use Rattle.book.proofs.books.Book.unpledge.Goals as goal

pub invariant_of-self : goal.invariant_of-self
invariant_of-self g c =
    let h = g.R.Register.holdings c.args.self.now.register in
    let l = c.args.self.now.ledger in
    let k = kept_of l in
    let a = c.args in
    record { upheld = kept_upheld h l c.unpledge.new.ledger (call.Unpledge a.agent a.kind a.cents) tt (unpledge_does k a.agent a.kind a.cents) c.unpledge.result refl c.unpledge.ensures.step a.self.now.upheld c.unpledge.ensures.kempt }
