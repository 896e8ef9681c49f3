use Rattle.std.proofs.Common.{rules, w64, SFits}
use Rattle.std.proofs.lemmas.List.{length-set}
use Rattle.image.specs.View.{image_of}
use Rattle.movement.proofs.Movements.{reserved_bound, moved_reserved, settled_reserved}
use Rattle.movement.proofs.lines.MovementRegisterNumbers.set_reserved.Goals as goal

pub towards-movement-requires-clause-bound : goal.towards-movement-requires-clause-bound
towards-movement-requires-clause-bound c =
    let x = c.args.self.now in
    let p = c.requires.found in
    reserved_bound (image_of x.opening) _ _ c.args.line.account c.args.line.security c.args.number x.movements.items p.account p.security x.reserved c.requires.bound

pub invariant_of-self : goal.invariant_of-self
invariant_of-self c =
    let x = c.args.self.now in
    let p = c.requires.found in
    let within_cap = reserved_bound (image_of x.opening) _ _ c.args.line.account c.args.line.security c.args.number x.movements.items p.account p.security x.reserved c.requires.bound in
    let fits : SFits w64 c.towards-movement.result = search rules in
    let all = settled_reserved (image_of x.opening) _ _ _ _ _ x.movements.items c.index_mut.result.now x.len c.requires.found c.index_mut.ensures.value c.towards-movement.result _ c.args.number fits c.towards-movement.ensures within_cap x.free x.reserved c.reserved.ensures (x.acceptable.2 c.args.line.account c.args.line.security).1 in
    record { acceptable = x.acceptable; len = simp length-set x.len; free = all.0; reserved = all.1 }

pub returns-clause-number : goal.returns-clause-number
returns-clause-number c =
    let x = c.args.self.now in
    let p = c.requires.found in
    let within_cap = reserved_bound (image_of x.opening) _ _ c.args.line.account c.args.line.security c.args.number x.movements.items p.account p.security x.reserved c.requires.bound in
    let fits : SFits w64 c.towards-movement.result = search rules in
    moved_reserved (image_of x.opening) _ _ _ _ _ x.movements.items c.index_mut.result.now x.len c.requires.found c.index_mut.ensures.value c.towards-movement.result _ c.args.number fits c.towards-movement.ensures within_cap c.reserved.ensures (x.acceptable.2 c.args.line.account c.args.line.security).1
