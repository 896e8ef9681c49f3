-- The orders of the two kinds of record, and what a step on a list does.
use Rattle.std.specs.Prelude.{ℕ, Bool, true, false, cond, ◌&&◌, ◌||◌, List, [], ◌∷◌, ◌++◌, codes, decimal, Option, ◌==◌, nat_lt}
use Rattle.ordered.specs.Answers.{Put as PutIn, Taken, Replaced}
use Rattle.ranking.specs.declared.codes.Code.{Code}
use Rattle.ranking.specs.declared.offers.Offer.{Offer}
use Rattle.ranking.specs.declared.steps.Answer.{Answer}
use Rattle.ranking.specs.declared.steps.Answer.TheVariants.{Put as Answered, Out}
use Rattle.ranking.specs.declared.steps.Step.{Step}
use Rattle.ranking.specs.declared.steps.Step.TheVariants.{Put, Take, Replace}

-- The lowest rate comes first, and at one rate the lowest number.
abbrev pub offer_before : Offer → Offer → Bool
offer_before a b = nat_lt a.rate b.rate || (a.rate == b.rate && nat_lt a.number b.number)

-- An offer as text: the offer number 7 of 100 shares at the rate 300 is "rate 300 number 7 shares 100".
abbrev pub offer_text : Offer → List ℕ
offer_text x = codes "rate " ++ (decimal x.rate ++ (codes " number " ++ (decimal x.number ++ (codes " shares " ++ decimal x.shares))))

-- At the first place where the two differ, the first has the lower value, or has ended.
abbrev pub lower : List ℕ → List ℕ → Bool
lower [] [] = false
lower [] (y ∷ ys) = true
lower (x ∷ xs) [] = false
lower (x ∷ xs) (y ∷ ys) = cond (x == y) (lower xs ys) (nat_lt x y)

-- Codes stand in the order of their characters' values, from the left.
abbrev pub code_before : Code → Code → Bool
code_before a b = lower a.letters b.letters

-- What a step makes of the places ps: its answer, and the places qs.
abbrev pub Done : {X : Type 0} → (X → X → Bool) → Step X → List (Option X) → Answer X → List (Option X) → Type 0
Done lt (Put x) ps (Answered r) qs = PutIn lt x ps r qs
Done lt (Put x) ps (Out r) qs = ⊥
Done lt (Take i) ps (Answered r) qs = ⊥
Done lt (Take i) ps (Out r) qs = Taken lt i ps r qs
Done lt (Replace i x) ps (Answered r) qs = ⊥
Done lt (Replace i x) ps (Out r) qs = Replaced lt i x ps r qs
