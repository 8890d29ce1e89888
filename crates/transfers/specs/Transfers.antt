-- Retired words, traps and trap returns, from registers free of number 5, given the entry in focus.
use Rattle.std.specs.Prelude.{ℕ, ◌%◌, Bool, false}
use Rattle.std.specs.Prelude.{if◌then◌else◌}
use Rattle.machine.specs.Answers.{value_of, refused, accepted, accepted_put}
use Rattle.machine.specs.Regs.{with_mode, with_frozen, with_cycles}
use Rattle.machine.specs.Depths.{depth_of, physical_of}
use Rattle.machine.specs.declared.Buffer.{Buffer}
use Rattle.machine.specs.declared.Mode.{Mode}
use Rattle.machine.specs.declared.Registers.{Registers}
use Rattle.machine.specs.declared.Entry.{Entry}
use Rattle.machine.specs.declared.Decision.{Decision}
use Rattle.machine.specs.declared.RetiredWord.{RetiredWord}
use Rattle.machine.specs.declared.TrapTo.{TrapTo}
use Rattle.machine.specs.declared.ReturnTo.{ReturnTo}
use Rattle.machine.specs.declared.Refusal.TheVariants.{ChangeNotPossible}
use Rattle.qualifying.specs.Changes.{possible_trap, possible_return}
use Rattle.transfers.specs.Counts.{restarted, tallied, stamped}
use Rattle.transfers.specs.Records.{entry_for, side_pc, popped, advanced, retreated}
use Rattle.qualifying.specs.Outcomes.{rasemu_of, retired_outcome, trap_outcome, trap_type, return_outcome, return_type}
use Rattle.machine.specs.declared.Outcome.{Outcome}
use Rattle.machine.specs.declared.Outcome.TheVariants.{Nothing, Record, Pop, Swap, Freeze}

-- the physical entry that an outcome is about: logical entry 0 for a pop and a swap, else the one at WRPTR
unfoldable pub outcome_focus : Buffer → Outcome → ℕ
outcome_focus b Nothing = b.wrptr % depth_of b.code
outcome_focus b Record = b.wrptr % depth_of b.code
outcome_focus b Pop = physical_of b.code b.wrptr 0
outcome_focus b Swap = physical_of b.code b.wrptr 0
outcome_focus b Freeze = b.wrptr % depth_of b.code

-- an outcome done, from registers in which the event's own cycles have counted, with the record e that it would put; a record codes the
-- counter and starts it again. RASEMU has zeroed the counter, so a record under it codes 0, and of a swap there is nothing to code
unfoldable pub done_of : Registers → Entry → Entry → Bool → Outcome → Decision
done_of r old e rasemu Nothing = accepted r (value_of Nothing)
done_of r old e rasemu Record =
    accepted_put (with_cycles (advanced r) (restarted rasemu)) (value_of Record) (stamped e r.cycles)
done_of r old e rasemu Pop = accepted_put (retreated r) (value_of Pop) (popped old)
done_of r old e rasemu Swap = accepted_put r (value_of Swap) e
done_of r old e rasemu Freeze = accepted (with_frozen r) (value_of Freeze)

-- a retired word of type n
unfoldable pub retired_of : Registers → Entry → ℕ → RetiredWord → Decision
retired_of r old n w =
    let rasemu = rasemu_of r r.mode r.mode in
    done_of (tallied r rasemu w.cycles) old (entry_for w.pc w.target w.mispredicted n) rasemu (retired_outcome r n)

-- a decision with the mode changed: every possible trap or return changes it, recorded or not
abbrev pub in_mode : Decision → Mode → Decision
in_mode d m = record { number = d.number; value = d.value; registers = with_mode d.registers m; effect = d.effect }

-- the record of a trap or return; an address whose side is off is 0, and MISP is 0
unfoldable pub crossing : Registers → Mode → ℕ → ℕ → ℕ → Entry
crossing r target source-pc target-pc n = entry_for (side_pc r r.mode source-pc) (side_pc r target target-pc) false n

-- a possible trap or return to a mode, with its cycles: the outcome done with the record e, and the mode changed
unfoldable pub crossed_of : Registers → Entry → Mode → ℕ → Entry → Outcome → Decision
crossed_of r old target n e o =
    let rasemu = rasemu_of r r.mode target in
    in_mode (done_of (tallied r rasemu n) old e rasemu o) target

-- a possible trap
unfoldable pub taken_trap : Registers → Entry → TrapTo → Decision
taken_trap r old t =
    crossed_of r old t.mode t.cycles (crossing r t.mode t.epc t.handler (trap_type t.interrupt)) (trap_outcome r t)

-- a trap; one that is not possible is refused
unfoldable pub trap_of : Registers → Entry → TrapTo → Decision
trap_of r old t = if possible_trap r.mode t.mode then taken_trap r old t else refused r ChangeNotPossible

-- a possible trap return
unfoldable pub taken_return : Registers → Entry → ReturnTo → Decision
taken_return r old t =
    crossed_of r old t.mode t.cycles (crossing r t.mode t.pc t.target return_type) (return_outcome r t.mode)

-- a trap return; one that is not possible is refused
unfoldable pub return_of : Registers → Entry → ReturnTo → Decision
return_of r old t = if possible_return r.mode t.mode then taken_return r old t else refused r ChangeNotPossible
