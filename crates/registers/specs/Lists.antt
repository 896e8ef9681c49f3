-- Lists of changes.
use Rattle.std.specs.Prelude.{◌≡◌, List, [], ◌∷◌}
use Rattle.register.specs.Holdings.{Holdings}
use Rattle.registers.specs.Changes.{Answered}
use Rattle.registers.specs.declared.changes.Answer.{Answer}
use Rattle.registers.specs.declared.changes.Change.{Change}

-- From the holdings h a list of changes, put one after the other, has this list of answers and leads to the holdings k.
unfoldable pub Runs : Holdings → List Change → List Answer → Holdings → Type 0
Runs h [] [] k = k ≡ h
Runs h [] (r ∷ rs) k = ⊥
Runs h (x ∷ xs) [] k = ⊥
Runs h (x ∷ xs) (r ∷ rs) k = (i : Holdings) × Answered h x r i × Runs i xs rs k
