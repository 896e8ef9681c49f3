use Rattle.std.proofs.Common.{arith}
use Rattle.ordered.proofs.Gathering.{taken_count, left_records, left_ordered}
use Rattle.ordered.proofs.Reading.{counted}
use Rattle.ordered.proofs.places.remove_those.Goals as goal

pub overflow_sub-result : goal.overflow_sub-result
overflow_sub-result g c =
    let p = c.requires.decided in
    let e = taken_count p.0 c.args.places.now c.gather-after.new.places c.gather-after.result c.requires.ordered.0 (c.gather-after.ensures.front p.0 p.1) c.gather-after.ensures.within in
    omega (arith, c.count-before.ensures, counted c.args.places.now)

pub returns : goal.returns
returns g c =
    let ps = c.args.places.now in
    let qs = c.gather-after.new.places in
    let k = c.gather-after.result in
    let o = c.requires.ordered.0 in
    let f = c.gather-after.ensures.front in
    let h = c.gather-after.ensures.within in
    let q = c.clear.ensures.stays.0 in
    let n = c.clear.ensures.none in
    let p = c.requires.decided in
    record {
      removed = λ test d. left_records test ps qs k o (f test d) h c.clear.new.places q n;
      count = λ test d. omega (arith, c.count-before.ensures, counted ps, taken_count test ps qs k o (f test d) h);
      stays = left_ordered p.0 ps qs k o (f p.0 p.1) h c.clear.new.places q n g.T.Ranked.precedes c.requires.ordered.1;
    }
