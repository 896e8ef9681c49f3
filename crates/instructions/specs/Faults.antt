-- The faults of words, of lines and of the input, each as a fault of the next, and their numbers.
use Rattle.std.specs.Prelude.{ℕ}
use Rattle.terms.specs.Numbers.{fault_number}
use Rattle.terms.specs.declared.faults.Fault.TheVariants as f
use Rattle.words.specs.declared.faults.WordFault.{WordFault}
use Rattle.words.specs.declared.faults.WordFault.TheVariants.{NotVerb, Missing, Excess, WrongKind}
use Rattle.instructions.specs.declared.faults.LineFault.{LineFault}
use Rattle.instructions.specs.declared.faults.ProgramFault.{ProgramFault}
use Rattle.instructions.specs.declared.faults.ProgramFault.TheVariants.{Line, TooLarge}

-- A fault in a word is the same fault of its line, at the word's place.
abbrev pub of_word : WordFault → LineFault
of_word (NotVerb p) = record { fault = f.NotVerb; place = p }
of_word (Missing p) = record { fault = f.Missing; place = p }
of_word (Excess p) = record { fault = f.Excess; place = p }
of_word (WrongKind p) = record { fault = f.WrongKind; place = p }

-- A fault of a line is a fault of the input.
abbrev pub of_line : LineFault → ProgramFault
of_line e = Line e

-- A line's fault has its own number, and input that is too large has 6.
abbrev pub program_fault_number : ProgramFault → ℕ
program_fault_number (Line e) = fault_number e.fault
program_fault_number TooLarge = 6

-- A line's fault stands at its own place, and input that is too large at none: 0.
abbrev pub program_fault_place : ProgramFault → ℕ
program_fault_place (Line e) = e.place
program_fault_place TooLarge = 0
