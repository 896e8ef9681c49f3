-- What a line asks for, or what is wrong with it.
use Rattle.std.specs.Prelude.{ℕ, zero, suc, cond, List, length, Ok, Err, Result, nat_lt}
use Rattle.terms.specs.declared.calls.Call.{Call}
use Rattle.terms.specs.declared.calls.Call.TheVariants as c
use Rattle.terms.specs.declared.faults.Fault.TheVariants.{TooLong}
use Rattle.words.specs.Kinds.{verb, number, day}
use Rattle.words.specs.Operands.{field, done}
use Rattle.words.specs.Reading.{Left, step, whole}
use Rattle.words.specs.declared.faults.WordFault.{WordFault}
use Rattle.words.specs.declared.verbs.Verb.{Verb}
use Rattle.words.specs.declared.verbs.Verb.TheVariants.{Start, Admit, Stop, Price, Deposit, Withdraw, Trade, Pledge, Unpledge, Suspend, Noon}
use Rattle.instructions.specs.Faults.{of_word}
use Rattle.instructions.specs.declared.faults.LineFault.{LineFault}
use Rattle.instructions.specs.declared.instruction.Instruction.{Instruction}
use Rattle.instructions.specs.declared.instruction.Instruction.TheVariants as i

-- A fault in a word is the line's, and ends the reading.
abbrev pub then : {X Y : Type 0} → Result X WordFault → (X → Result Y LineFault) → Result Y LineFault
then (Ok x) f = f x
then (Err e) f = Err (of_word e)

-- What is left after n words.
abbrev pub after : ℕ → Left → Left
after zero l = l
after (suc n) l = step (after n l)

-- One number and no more.
abbrev pub one_number : Left → Result ℕ LineFault
one_number l =
    then (field number l) (λ x.
    then (done (after 1 l)) (λ _.
    Ok x))

-- Three numbers and no more.
abbrev pub three_numbers : Left → Result (ℕ × ℕ × ℕ) LineFault
three_numbers l =
    then (field number l) (λ x.
    then (field number (after 1 l)) (λ y.
    then (field number (after 2 l)) (λ z.
    then (done (after 3 l)) (λ _.
    Ok (x, y, z)))))

-- The call that operands make, if they are without fault.
abbrev pub calls : {X : Type 0} → (X → Call) → Result X LineFault → Result Instruction LineFault
calls f (Ok x) = Ok (i.Call (f x))
calls f (Err e) = Err e

-- start DATE
abbrev pub starts : Left → Result Instruction LineFault
starts l =
    then (field day l) (λ d.
    then (done (after 1 l)) (λ _.
    Ok (i.Start d)))

-- admit security
abbrev pub admits : Left → Result Instruction LineFault
admits l = calls (λ security. c.Admit security) (one_number l)

-- stop security
abbrev pub stops : Left → Result Instruction LineFault
stops l = calls (λ security. c.Stop security) (one_number l)

-- price security cents
abbrev pub prices : Left → Result Instruction LineFault
prices l =
    then (field number l) (λ security.
    then (field number (after 1 l)) (λ cents.
    then (done (after 2 l)) (λ _.
    Ok (i.Call (c.Price security cents)))))

-- deposit account security quantity
abbrev pub deposits : Left → Result Instruction LineFault
deposits l =
    then (field number l) (λ account.
    then (field number (after 1 l)) (λ security.
    then (field number (after 2 l)) (λ quantity.
    then (done (after 3 l)) (λ _.
    Ok (i.Call (c.Deposit account security quantity))))))

-- withdraw account security quantity
abbrev pub withdraws : Left → Result Instruction LineFault
withdraws l =
    then (field number l) (λ account.
    then (field number (after 1 l)) (λ security.
    then (field number (after 2 l)) (λ quantity.
    then (done (after 3 l)) (λ _.
    Ok (i.Call (c.Withdraw account security quantity))))))

-- trade giver receiver security quantity
abbrev pub trades : Left → Result Instruction LineFault
trades l =
    then (field number l) (λ giver.
    then (field number (after 1 l)) (λ receiver.
    then (field number (after 2 l)) (λ security.
    then (field number (after 3 l)) (λ quantity.
    then (done (after 4 l)) (λ _.
    Ok (i.Call (c.Trade giver receiver security quantity)))))))

-- pledge agent kind cents
abbrev pub pledges : Left → Result Instruction LineFault
pledges l = calls (λ x. c.Pledge x.0 x.1 x.2) (three_numbers l)

-- unpledge agent kind cents
abbrev pub unpledges : Left → Result Instruction LineFault
unpledges l = calls (λ x. c.Unpledge x.0 x.1 x.2) (three_numbers l)

-- suspend agent
abbrev pub suspends : Left → Result Instruction LineFault
suspends l = calls (λ agent. c.Suspend agent) (one_number l)

-- noon
abbrev pub noons : Left → Result Instruction LineFault
noons l = then (done l) (λ _. Ok (i.Call c.Noon))

-- What the words after a verb ask for.
abbrev pub asked : Verb → Left → Result Instruction LineFault
asked Start l = starts l
asked Admit l = admits l
asked Stop l = stops l
asked Price l = prices l
asked Deposit l = deposits l
asked Withdraw l = withdraws l
asked Trade l = trades l
asked Pledge l = pledges l
asked Unpledge l = unpledges l
asked Suspend l = suspends l
asked Noon l = noons l

-- What words ask for, the first of which has to be a verb.
abbrev pub instructs : Left → Result Instruction LineFault
instructs l = then (field verb l) (λ v. asked v (after 1 l))

-- What a line asks for. The length of the line is looked at first, and then word after word from the left.
abbrev pub parsed : List ℕ → Result Instruction LineFault
parsed line = cond (nat_lt 120 (length line)) (Err (record { fault = TooLong; place = 0 })) (instructs (whole line))
