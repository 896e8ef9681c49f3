-- The theorem on the fault of a line.
use Rattle.std.specs.Prelude.{◌≡◌, ℕ, ◌<◌, ◌≤◌, List, length, Ok, Err}
use Rattle.terms.specs.declared.faults.Fault.TheVariants.{TooLong}
use Rattle.words.specs.Parts.{words}
use Rattle.instructions.specs.Formats.{Exact, FirstWrong, format}
use Rattle.instructions.specs.Meaning.{parsed}
use Rattle.instructions.specs.declared.faults.LineFault.{LineFault}
use Rattle.instructions.specs.declared.instruction.Instruction.{Instruction}

-- The leftmost fault wins. A line of more than 120 bytes is at fault as a whole. Of any other the fault stands at the first place
-- that is not as its verb asks, and a line without fault has its verb and just the operands that the verb asks for.
pub record LeftmostFault : Type 0 where
  pub long : (line : List ℕ) → 120 < length line → parsed line ≡ Err (record { fault = TooLong; place = 0 })
  pub fault : (line : List ℕ) (e : LineFault) → length line ≤ 120 → parsed line ≡ Err e → FirstWrong (format (words line)) (words line) e
  pub faultless : (line : List ℕ) (i : Instruction) → parsed line ≡ Ok i → (length line ≤ 120) × Exact (format (words line)) (words line)
