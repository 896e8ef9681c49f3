-- What is left of a text after a part of it and one byte more.
use Rattle.std.proofs.Common.{◌≡◌, ℕ, List, [], length, drop, Some, None, Option, Bor, sym, ◌∙◌, ap, ⊎_elim, arith}
use Rattle.std.specs.Option.{UnwrapsOrElse}
use Rattle.std.specs.Slice.{IsGetRangeResult}
use Rattle.std.proofs.lemmas.List.{take_rest, drop_all}

pub rest_after : (text : List ℕ) (i : ℕ) (o : Option (Bor (List ℕ))) (r : Bor (List ℕ)) → IsGetRangeResult text i (length text) o → UnwrapsOrElse o (λ x. x.now ≡ []) r → r.now ≡ drop i text
rest_after text i None r got unwrapped =
    unwrapped ∙ sym (drop_all i text (⊎_elim (λ h. omega arith) (λ h. omega arith) got.0))
rest_after text i (Some x) r got unwrapped = ap (λ (y : Bor (List ℕ)). y.now) unwrapped ∙ got.0.2 ∙ take_rest text i
