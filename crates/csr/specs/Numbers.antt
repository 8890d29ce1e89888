-- What a CSR number reaches, and what that register means in a mode.
use Rattle.std.specs.Prelude.{ℕ, ◌-◌, eqb}
use Rattle.std.specs.Prelude.{if◌then◌else◌}
use Rattle.bits.specs.Words.{is_from_to}
use Rattle.machine.specs.Modes.{is_virtual}
use Rattle.machine.specs.declared.Mode.{Mode}
use Rattle.csr.specs.declared.View.{View}
use Rattle.csr.specs.declared.View.TheVariants.{Machine, Supervisor, Guest}
use Rattle.csr.specs.declared.Csr.{Csr}
use Rattle.csr.specs.declared.Csr.TheVariants.{Control, Select, Ireg, Depth, Status, Unlisted}

-- the numbers below 0x200. An ireg has the index of the entry word that it reaches: sireg, sireg2 and sireg3 are 0, 1 and 2, and
-- sireg4 to sireg6 are 3 to 5
unfoldable pub supervisor_register : ℕ → Csr
supervisor_register n =
    if eqb n 0x14E then Control Supervisor
    else (if eqb n 0x14F then Status
    else (if eqb n 0x150 then Select Supervisor
    else (if is_from_to 0x151 0x153 n then Ireg Supervisor (n - 0x151)
    else (if is_from_to 0x155 0x157 n then Ireg Supervisor (n - 0x152)
    else (if eqb n 0x15F then Depth
    else Unlisted)))))

-- the numbers from 0x200 to 0x2FF
unfoldable pub guest_register : ℕ → Csr
guest_register n =
    if eqb n 0x24E then Control Guest
    else (if eqb n 0x250 then Select Guest
    else (if is_from_to 0x251 0x253 n then Ireg Guest (n - 0x251)
    else (if is_from_to 0x255 0x257 n then Ireg Guest (n - 0x252)
    else Unlisted)))

-- the register of a CSR number
unfoldable pub register_of : ℕ → Csr
register_of n =
    if is_from_to 0 0x1FF n then supervisor_register n
    else (if is_from_to 0x200 0x2FF n then guest_register n
    else (if eqb n 0x34E then Control Machine
    else Unlisted))

-- whose register is meant in a mode: with V=1 the supervisor's means the guest's
unfoldable pub view_in : Mode → View → View
view_in m Machine = Machine
view_in m Supervisor = if is_virtual m then Guest else Supervisor
view_in m Guest = Guest

unfoldable pub csr_in : Mode → Csr → Csr
csr_in m (Control v) = Control (view_in m v)
csr_in m (Select v) = Select (view_in m v)
csr_in m (Ireg v k) = Ireg (view_in m v) k
csr_in m Depth = Depth
csr_in m Status = Status
csr_in m Unlisted = Unlisted
