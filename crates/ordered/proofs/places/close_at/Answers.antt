use Rattle.std.proofs.Common.{◌-◌, ◌++◌, length, take, drop, set, None, ap, ◌∙◌, arith}
use Rattle.std.proofs.lemmas.List.{places}
use Rattle.std.proofs.lemmas.Option.{slice_get-get_or}
use Rattle.ordered.proofs.Steps.{closed, closed_is}
use Rattle.ordered.proofs.places.close_at.Goals as goal

pub returns : goal.returns
returns g c =
    let ps = c.args.places.now in
    let at = c.args.at in
    let v = c.take-taken.ensures in
    closed g.T.Ranked.precedes ps c.requires.ordered at c.take-taken.result _ c.requires.within
    (closed_is ps c.rotate_left.new.self at None c.requires.within
    (c.rotate_left.ensures.after ∙ ap (λ a. drop 1 (set (take (length ps - at) (drop at ps)) 0 a) ++ take 1 (set (take (length ps - at) (drop at ps)) 0 a)) v.after))
    (let h = v.value in let i = c.index-rest-0.is in let q = c.requires.within in grind (arith, slice_get-get_or, places))
