-- What the registers read as.
use Rattle.std.specs.Prelude.{ℕ, ◌+◌, ◌%◌, ◌^◌, Bool, eqb, ltb}
use Rattle.std.specs.Prelude.{if◌then◌else◌}
use Rattle.bits.specs.Words.{keep}
use Rattle.machine.specs.Controls.{sctrctl_mask}
use Rattle.machine.specs.Entries.{defined_of}
use Rattle.machine.specs.Depths.{depth_of}
use Rattle.machine.specs.declared.Buffer.{Buffer}
use Rattle.machine.specs.declared.ControlWords.{ControlWords}
use Rattle.machine.specs.declared.Registers.{Registers}
use Rattle.machine.specs.declared.Entry.{Entry}
use Rattle.csr.specs.Steps.{select_of}
use Rattle.csr.specs.declared.View.{View}
use Rattle.csr.specs.declared.View.TheVariants.{Machine, Supervisor, Guest}
use Rattle.csr.specs.declared.Csr.{Csr}
use Rattle.csr.specs.declared.Csr.TheVariants.{Control, Select, Ireg, Depth, Status, Unlisted}

-- FROZEN at its place in sctrstatus, bit 31
abbrev pub frozen_bit : Bool → ℕ
frozen_bit frozen = if frozen then 2 ^ 31 else 0

-- sctrstatus: WRPTR in bits 7..0 and FROZEN in bit 31
unfoldable pub status_of : Buffer → ℕ
status_of b = b.wrptr % 256 + frozen_bit b.frozen

-- word k of an entry: ctrsource, ctrtarget or ctrdata as it is stored, and as it reads; further words read 0
unfoldable pub stored_of : Entry → ℕ → ℕ
stored_of e k = if eqb k 0 then e.ctrsource else (if eqb k 1 then e.ctrtarget else e.ctrdata)

unfoldable pub word_of : Entry → ℕ → ℕ
word_of e k = defined_of k (stored_of e k)

-- whether a selection of the window is an entry: its low eight bits are below the depth
unfoldable pub is_entry : Buffer → ℕ → Bool
is_entry b selection = ltb (selection % 256) (depth_of b.code)

-- word k of the selected entry, which is in focus; entries from the depth up read 0
unfoldable pub entry_reading : Buffer → ℕ → Entry → ℕ → ℕ
entry_reading b selection old k = if is_entry b selection then word_of old k else 0

-- a control register; sctrctl is a window on mctrctl
unfoldable pub control_reading : ControlWords → View → ℕ
control_reading c Machine = c.mctrctl
control_reading c Supervisor = keep sctrctl_mask c.mctrctl
control_reading c Guest = c.vsctrctl

-- what a register reads as, given the entry in focus
unfoldable pub reading_of : Registers → Entry → Csr → ℕ
reading_of r old (Control v) = control_reading r.controls v
reading_of r old (Select v) = select_of r.selects v
reading_of r old (Ireg v k) = entry_reading r.buffer (select_of r.selects v) old k
reading_of r old Depth = r.buffer.code
reading_of r old Status = status_of r.buffer
reading_of r old Unlisted = 0
