-- One step of the recorder: the registers and one entry decide, and the effect goes into the entries.
use Rattle.std.specs.Prelude.{ℕ, Bool}
use Rattle.machine.specs.Regs.{reset_registers}
use Rattle.machine.specs.declared.Registers.{Registers}
use Rattle.machine.specs.declared.Decision.{Decision}
use Rattle.machine.specs.declared.Outcome.{Outcome}
use Rattle.machine.specs.declared.Entry.{Entry}
use Rattle.transfers.specs.Transfers.{outcome_focus, done_of}
use Rattle.recorder.specs.Events.{focus_of}
use Rattle.recorder.specs.Decisions.{decide_with, decide_of}
use Rattle.recorder.specs.Entries.{cleared, entry_at, applied_of, Filled}
use Rattle.machine.specs.declared.Event.{Event}
use Rattle.recorder.specs.declared.Entries.{Entries}
use Rattle.recorder.specs.declared.State.{State}
use Rattle.recorder.specs.declared.Stepped.{Stepped}
use Rattle.recorder.specs.declared.Answered.{Answered}

-- a state of registers and entries, and its entries
abbrev pub state_of : Registers → Entries → State
state_of r w = record { registers = r; entries = w }

abbrev pub entries_in : State → Entries
entries_in s = s.entries

-- what an event decides
unfoldable pub decided_of : State → Event → Decision
decided_of s e = decide_of s.registers (entry_at (entries_in s) (focus_of s.registers e)) e

-- a decision done on entries, its effect on physical entry i: the answer, and every field and entry afterwards
unfoldable pub applied_to : Entries → Decision → ℕ → Stepped
applied_to w d i = record { number = d.number; value = d.value; state = state_of d.registers (applied_of w d.effect i) }

-- an outcome done on the physical entry that it is about, with the record e that it would put, under RASEMU or not
unfoldable pub outcome_to : Entries → Registers → Entry → Bool → Outcome → Stepped
outcome_to w r e rasemu o = let i = outcome_focus r.buffer o in applied_to w (done_of r (entry_at w i) e rasemu o) i

-- one event, where what is found of number 5 is given
unfoldable pub step_with : Bool → State → Event → Stepped
step_with good s e =
    let i = focus_of s.registers e in
    applied_to (entries_in s) (decide_with good s.registers (entry_at (entries_in s) i) e) i

-- one event
unfoldable pub step_of : State → Event → Stepped
step_of s e = applied_to (entries_in s) (decided_of s e) (focus_of s.registers e)

-- what a decision answers
abbrev pub answered_by : Decision → Answered
answered_by d = record { number = d.number; value = d.value; registers = d.registers }

-- an answer with the registers and the entries after it
abbrev pub stepped : Answered → Entries → Stepped
stepped a w = record { number = a.number; value = a.value; state = state_of a.registers w }

-- at reset the mode is M, the switch zc as given, and all else is 0
unfoldable pub reset_state : Bool → State
reset_state zc = state_of (reset_registers zc) cleared

-- a state whose three lists have a word for each entry: so every state of the code, and a step keeps it
abbrev pub Whole : State → Type 0
Whole s = Filled (entries_in s)
