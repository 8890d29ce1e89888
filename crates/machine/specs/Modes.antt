-- The privilege modes: which are on for recording, and which control register speaks for a mode or a transition.
use Rattle.std.specs.Prelude.{Bool, true, false}
use Rattle.std.specs.Prelude.{if◌then◌else◌}
use Rattle.machine.specs.Controls.{is_set}
use Rattle.machine.specs.declared.Mode.{Mode}
use Rattle.machine.specs.declared.Mode.TheVariants.{U, S, M, VU, VS}
use Rattle.machine.specs.declared.ControlRegister.{ControlRegister}
use Rattle.machine.specs.declared.ControlRegister.TheVariants.{Mctrctl, Vsctrctl}
use Rattle.machine.specs.declared.ControlBit.{ControlBit}
use Rattle.machine.specs.declared.ControlBit.TheVariants as Bit
use Rattle.machine.specs.declared.Registers.{Registers}

-- V=1: the modes of a guest
abbrev pub is_virtual : Mode → Bool
is_virtual U = false
is_virtual S = false
is_virtual M = false
is_virtual VU = true
is_virtual VS = true

-- a mode told from the others
abbrev pub is_u : Mode → Bool
is_u U = true
is_u S = false
is_u M = false
is_u VU = false
is_u VS = false

abbrev pub is_m : Mode → Bool
is_m U = false
is_m S = false
is_m M = true
is_m VU = false
is_m VS = false

abbrev pub is_vu : Mode → Bool
is_vu U = false
is_vu S = false
is_vu M = false
is_vu VU = true
is_vu VS = false

abbrev pub is_vs : Mode → Bool
is_vs U = false
is_vs S = false
is_vs M = false
is_vs VU = false
is_vs VS = true

-- the control register of a mode: vsctrctl for VS and VU, else mctrctl
unfoldable pub control_of : Mode → ControlRegister
control_of m = if is_virtual m then Vsctrctl else Mctrctl

-- the bit that switches a mode on, in the control register of that mode
abbrev pub switch_of : Mode → ControlBit
switch_of U = Bit.U
switch_of S = Bit.S
switch_of M = Bit.M
switch_of VU = Bit.U
switch_of VS = Bit.S

-- whether a mode is switched on
unfoldable pub on_of : Registers → Mode → Bool
on_of r m = is_set r (control_of m) (switch_of m)

-- the control register whose other fields govern a transition: vsctrctl into a guest, else that of the source mode, so vsctrctl
-- for any transition between V=0 and V=1 (Edges)
unfoldable pub governing_of : Mode → Mode → ControlRegister
governing_of source target = if is_virtual target then Vsctrctl else control_of source
