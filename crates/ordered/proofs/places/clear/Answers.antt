use Rattle.std.proofs.Common.{◌≡◌, true, None, [], ◌∷◌, ◌++◌, refl, ap, ◌∙◌, rules}
use Rattle.std.proofs.lemmas.Fn.{chained_keeps}
use Rattle.ordered.specs.Places.{vacant, ascending}
use Rattle.ordered.proofs.Moves.{vacant_append}
use Rattle.ordered.proofs.Standing.{vacant_records, vacant_packed}
use Rattle.ordered.proofs.places.clear.Goals as goal

pub returns : goal.returns
returns g c =
    let ps = c.fill_with.new.self in
    let v : vacant ps ≡ true =
    chained_keeps _ (λ xs _. vacant xs ≡ true) (λ xs q x v e s. let n : x ≡ None = search rules in ap (λ p. vacant (xs ++ p ∷ [])) n ∙ vacant_append xs (None ∷ []) e refl) ps _ _ refl c.fill_with.ensures.ran.1 in
    let e = vacant_records ps v in
    record { none = e; stays = (vacant_packed ps v, ap (ascending g.T.Ranked.precedes) e) }
