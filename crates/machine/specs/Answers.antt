-- The numbers and values of answers; and what an event decides: number and value, the registers afterwards, and what becomes of
-- the entries.
use Rattle.std.specs.Prelude.{ℕ, Result, Ok, Err}
use Rattle.machine.specs.declared.Registers.{Registers}
use Rattle.machine.specs.declared.Entry.{Entry}
use Rattle.machine.specs.declared.Refusal.{Refusal}
use Rattle.machine.specs.declared.Refusal.TheVariants.{IllegalInstruction, VirtualInstruction, NoSuchRegister, ChangeNotPossible, BadState}
use Rattle.machine.specs.declared.Outcome.{Outcome}
use Rattle.machine.specs.declared.Outcome.TheVariants.{Nothing, Record, Pop, Swap, Freeze}
use Rattle.machine.specs.declared.Effect.TheVariants.{Keep, Put, ClearAll}
use Rattle.machine.specs.declared.Decision.{Decision}

-- the number of a refusal
abbrev pub refusal_number : Refusal → ℕ
refusal_number IllegalInstruction = 1
refusal_number VirtualInstruction = 2
refusal_number NoSuchRegister = 3
refusal_number ChangeNotPossible = 4
refusal_number BadState = 5

-- whether an event is accepted, or why it is refused
abbrev pub Verdict : Type 0
Verdict = Result (Unit {0}) Refusal

-- the number of an answer: 0 where the event is accepted
abbrev pub number_of : Verdict → ℕ
number_of (Ok _) = 0
number_of (Err e) = refusal_number e

-- the value of a retired word's, a trap's or a trap return's answer
abbrev pub value_of : Outcome → ℕ
value_of Nothing = 0
value_of Record = 1
value_of Pop = 2
value_of Swap = 3
value_of Freeze = 4

-- how many numbers and how many values there are
abbrev pub numbers : ℕ
numbers = 6

abbrev pub values : ℕ
values = 5

-- refused: value 0, nothing changed
abbrev pub refused : Registers → Refusal → Decision
refused r e = record { number = number_of (Err e); value = 0; registers = r; effect = Keep }

-- accepted with a value, the entries kept
abbrev pub accepted : Registers → ℕ → Decision
accepted r v = record { number = number_of (Ok tt); value = v; registers = r; effect = Keep }

-- accepted with a value, and the entry in focus put
abbrev pub accepted_put : Registers → ℕ → Entry → Decision
accepted_put r v e = record { number = number_of (Ok tt); value = v; registers = r; effect = Put e }

-- accepted with value 0, and all entries cleared
abbrev pub accepted_clear : Registers → Decision
accepted_clear r = record { number = number_of (Ok tt); value = 0; registers = r; effect = ClearAll }
