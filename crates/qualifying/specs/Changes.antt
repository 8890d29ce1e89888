-- Which mode changes are possible.
use Rattle.std.specs.Prelude.{ℕ, Bool, true, false, not, ltb}
use Rattle.machine.specs.Modes.{is_virtual, is_m}
use Rattle.machine.specs.declared.Mode.{Mode}
use Rattle.machine.specs.declared.Mode.TheVariants.{U, S, M, VU, VS}

-- traps, by the mode that they go to: any mode to M; any but M to S; VU and VS to VS; none to U or VU
abbrev pub possible_trap : Mode → Mode → Bool
possible_trap source M = true
possible_trap source S = not (is_m source)
possible_trap source VS = is_virtual source
possible_trap source U = false
possible_trap source VU = false

-- a return goes the way that a trap could have come
abbrev pub possible_return : Mode → Mode → Bool
possible_return source target = possible_trap target source

-- a trap's cause; those from 64 up are of corrupt traces. No rule asks this yet
abbrev pub possible_cause : ℕ → Bool
possible_cause cause = ltb cause 64
