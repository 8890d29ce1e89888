-- When a transfer qualifies: what comes of a retired word, a trap and a trap return.
use Rattle.std.specs.Prelude.{ℕ, Bool, not, ◌&&◌, eqb}
use Rattle.std.specs.Prelude.{if◌then◌else◌}
use Rattle.machine.specs.Controls.{is_set}
use Rattle.machine.specs.Modes.{on_of, governing_of}
use Rattle.machine.specs.declared.Mode.{Mode}
use Rattle.machine.specs.declared.ControlBit.TheVariants.{RASEMU}
use Rattle.machine.specs.declared.Registers.{Registers}
use Rattle.machine.specs.declared.TrapTo.{TrapTo}
use Rattle.qualifying.specs.Filters.{freezes_of, external_of, inhibited_of}
use Rattle.machine.specs.declared.Outcome.{Outcome}
use Rattle.machine.specs.declared.Outcome.TheVariants.{Nothing, Record, Pop, Swap, Freeze}

-- under RASEMU types 8 and 9 are recorded, 13 pops, 12 goes in place, and nothing else is recorded
unfoldable pub stack_outcome : ℕ → Outcome
stack_outcome n =
    if eqb n 8 then Record
    else (if eqb n 9 then Record
    else (if eqb n 12 then Swap
    else (if eqb n 13 then Pop
    else Nothing)))

-- whether the register that governs a transition has RASEMU
unfoldable pub rasemu_of : Registers → Mode → Mode → Bool
rasemu_of r source target = is_set r (governing_of source target) RASEMU

-- a type in a mode that is on: what RASEMU makes of it, or recorded unless inhibited
unfoldable pub on_outcome : Bool → Bool → ℕ → Outcome
on_outcome rasemu inhibited n = if rasemu then stack_outcome n else (if inhibited then Nothing else Record)

-- the current mode is on, and nothing is frozen
unfoldable pub live_of : Registers → Bool
live_of r = on_of r r.mode && not r.buffer.frozen

-- a word of type n that is retired there; a word that is no transfer has type 0
unfoldable pub live_outcome : Registers → ℕ → Outcome
live_outcome r n = on_outcome (rasemu_of r r.mode r.mode) (inhibited_of r (governing_of r.mode r.mode) n) n

-- a retired word of type n
unfoldable pub retired_outcome : Registers → ℕ → Outcome
retired_outcome r n = if live_of r then live_outcome r n else Nothing

-- a trap's type: 2 for an interrupt, 1 for an exception
abbrev pub trap_type : Bool → ℕ
trap_type interrupt = if interrupt then 2 else 1

-- a trap, by whether it freezes, FROZEN, RASEMU, whether source and target are on, whether its type is inhibited, and whether
-- it may be recorded as external. Into a mode that is on it is recorded unless inhibited; from on to off if external traps are
-- let through, inhibits not asked; off to off never
unfoldable pub trap_by : Bool → Bool → Bool → Bool → Bool → Bool → Bool → Outcome
trap_by freezes frozen rasemu source target inhibited external =
    if freezes then Freeze
    else (if frozen then Nothing
    else (if rasemu then Nothing
    else (if target
    then (if inhibited then Nothing else Record)
    else (if source && external then Record else Nothing))))

unfoldable pub trap_outcome : Registers → TrapTo → Outcome
trap_outcome r t =
    trap_by (freezes_of r t)
    r.buffer.frozen
    (rasemu_of r r.mode t.mode)
    (on_of r r.mode)
    (on_of r t.mode)
    (inhibited_of r (governing_of r.mode t.mode) (trap_type t.interrupt))
    (external_of r r.mode t.mode)

-- a trap return's type
abbrev pub return_type : ℕ
return_type = 3

-- a return is recorded if its source is on and TRETINH is 0
unfoldable pub return_by : Bool → Bool → Bool → Bool → Outcome
return_by frozen rasemu source inhibited =
    if frozen then Nothing
    else (if rasemu then Nothing
    else (if source then (if inhibited then Nothing else Record) else Nothing))

unfoldable pub return_outcome : Registers → Mode → Outcome
return_outcome r target =
    return_by r.buffer.frozen (rasemu_of r r.mode target) (on_of r r.mode) (inhibited_of r (governing_of r.mode target) return_type)
