-- The registers: all state but the entries. Their value at reset, and with one group or field changed.
use Rattle.std.specs.Prelude.{ℕ, Bool, true, false}
use Rattle.machine.specs.declared.Mode.{Mode}
use Rattle.machine.specs.declared.Mode.TheVariants.{M}
use Rattle.machine.specs.declared.ControlWords.{ControlWords}
use Rattle.machine.specs.declared.Buffer.{Buffer}
use Rattle.machine.specs.declared.Selects.{Selects}
use Rattle.machine.specs.declared.Enables.{Enables}
use Rattle.machine.specs.declared.Cycles.{Cycles}
use Rattle.machine.specs.declared.Registers.{Registers}

-- a counter of 0, and CCV 0 for the next record
abbrev pub no_cycles : Cycles
no_cycles = record { counter = 0; ccv = false }

-- at reset the mode is M, the switch zc as given, and all else is 0
abbrev pub reset_registers : Bool → Registers
reset_registers zc =
    record {
      mode = M;
      controls = record { mctrctl = 0; vsctrctl = 0 };
      buffer = record { code = 0; wrptr = 0; frozen = false };
      selects = record { siselect = 0; vsiselect = 0 };
      enables = record { mstateen0 = false; hstateen0 = false };
      cycles = no_cycles;
      constants = record { zc = zc };
    }

-- the registers with another mode, or with another group of registers
abbrev pub with_mode : Registers → Mode → Registers
with_mode r m =
    record { mode = m; controls = r.controls; buffer = r.buffer; selects = r.selects; enables = r.enables; cycles = r.cycles; constants = r.constants }

abbrev pub with_controls : Registers → ControlWords → Registers
with_controls r c =
    record { mode = r.mode; controls = c; buffer = r.buffer; selects = r.selects; enables = r.enables; cycles = r.cycles; constants = r.constants }

abbrev pub with_buffer : Registers → Buffer → Registers
with_buffer r b =
    record { mode = r.mode; controls = r.controls; buffer = b; selects = r.selects; enables = r.enables; cycles = r.cycles; constants = r.constants }

abbrev pub with_selects : Registers → Selects → Registers
with_selects r s =
    record { mode = r.mode; controls = r.controls; buffer = r.buffer; selects = s; enables = r.enables; cycles = r.cycles; constants = r.constants }

abbrev pub with_enables : Registers → Enables → Registers
with_enables r e =
    record { mode = r.mode; controls = r.controls; buffer = r.buffer; selects = r.selects; enables = e; cycles = r.cycles; constants = r.constants }

abbrev pub with_cycles : Registers → Cycles → Registers
with_cycles r c =
    record { mode = r.mode; controls = r.controls; buffer = r.buffer; selects = r.selects; enables = r.enables; cycles = c; constants = r.constants }

-- the registers with another WRPTR, and with FROZEN set
abbrev pub with_wrptr : Registers → ℕ → Registers
with_wrptr r x = with_buffer r (record { code = r.buffer.code; wrptr = x; frozen = r.buffer.frozen })

abbrev pub with_frozen : Registers → Registers
with_frozen r = with_buffer r (record { code = r.buffer.code; wrptr = r.buffer.wrptr; frozen = true })
