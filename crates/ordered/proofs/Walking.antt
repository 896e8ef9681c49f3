-- The turns of a loop over places, up to the first empty one.
use Rattle.std.proofs.Common.{◌≡◌, ℕ, ◌+◌, ◌<◌, ◌≤◌, List, [], ◌∷◌, length, get_or, drop, Some, None, Option, ap, ◌∙◌}
use Rattle.std.proofs.lemmas.List.{drop_all, drop_more}
use Rattle.ordered.specs.Places.{records}

module _ {X : Type 0} (ps : List (Option X)) (i : ℕ) where
  -- the turn at the place i
  module _ (d : Option X) (l : i < length ps) where
    front : (o : Option X) → get_or ps i d ≡ o → records (drop i ps) ≡ records (o ∷ drop (i + 1) ps)
    front o e = ap records (drop_more ps i d l) ∙ ap (λ (p : Option X). records (p ∷ drop (i + 1) ps)) e

    pub records_more : (x : X) → get_or ps i d ≡ Some x → records (drop i ps) ≡ x ∷ records (drop (i + 1) ps)
    records_more x e = front (Some x) e

    pub records_end : get_or ps i d ≡ None → records (drop i ps) ≡ []
    records_end e = front None e

  pub records_all : length ps ≤ i → records (drop i ps) ≡ []
  records_all l = ap records (drop_all i ps l)
