-- Registers (docs/RULES.md, R1 to R16 and R23): what a CSR number reaches, what each register reads as, and the state after a write.
use Rattle.std.specs.Prelude.{ℕ, zero, suc, ◌+◌, ◌-◌, ◌%◌, ◌<◌, min, ◌≡◌, false, eqb, ltb}
use Rattle.std.specs.Prelude.{if◌then◌else◌}
use Rattle.bits.specs.Words.{bit_at, keep, joined, without}
use Rattle.machine.specs.declared.Enables.{Enables}
use Rattle.machine.specs.declared.Entry.{Entry}
use Rattle.machine.specs.declared.Mode.{Mode}
use Rattle.machine.specs.declared.Mode.TheVariants.{U, S, M, VU, VS}
use Rattle.machine.specs.declared.Registers.{Registers}
use Rattle.csr.specs.declared.Csr.{Csr}
use Rattle.csr.specs.declared.Csr.TheVariants.{Control, Select, Ireg, Depth, Status, Unlisted}
use Rattle.csr.specs.declared.View.{View}
use Rattle.csr.specs.declared.View.TheVariants.{Machine, Supervisor, Guest}
use Rattle.machine.specs.declared.Operation.{Operation}
use Rattle.machine.specs.declared.Operation.TheVariants.{Read, Write, Set, Clear}
use Rattle.recorder.specs.Entries.{entry_at, with_entry}
use Rattle.recorder.specs.Steps.{state_of, entries_in}
use Rattle.recorder.specs.declared.State.{State}
use Rattle.demands.specs.States.{depth, zeros, mctrctl_to, vsctrctl_to, code_to, wrptr_to, frozen_to, siselect_to, vsiselect_to, enables_to, cycles_to}

-- what each number reaches; sireg to sireg6 carry 0 to 5, and vsireg to vsireg6 likewise. No other number is listed: there is no
-- select register and no ireg of M's here
pub data Reaches : ℕ → Csr → Type 0 where
  sctrctl : Reaches 0x14E (Control Supervisor)
  sctrstatus : Reaches 0x14F Status
  sctrdepth : Reaches 0x15F Depth
  vsctrctl : Reaches 0x24E (Control Guest)
  mctrctl : Reaches 0x34E (Control Machine)
  siselect : Reaches 0x150 (Select Supervisor)
  sireg : Reaches 0x151 (Ireg Supervisor 0)
  sireg2 : Reaches 0x152 (Ireg Supervisor 1)
  sireg3 : Reaches 0x153 (Ireg Supervisor 2)
  sireg4 : Reaches 0x155 (Ireg Supervisor 3)
  sireg5 : Reaches 0x156 (Ireg Supervisor 4)
  sireg6 : Reaches 0x157 (Ireg Supervisor 5)
  vsiselect : Reaches 0x250 (Select Guest)
  vsireg : Reaches 0x251 (Ireg Guest 0)
  vsireg2 : Reaches 0x252 (Ireg Guest 1)
  vsireg3 : Reaches 0x253 (Ireg Guest 2)
  vsireg4 : Reaches 0x255 (Ireg Guest 3)
  vsireg5 : Reaches 0x256 (Ireg Guest 4)
  vsireg6 : Reaches 0x257 (Ireg Guest 5)

-- sctrctl is a window on mctrctl without M and MTE; in VS it means vsctrctl
abbrev sctrctl_window : Registers → ℕ
sctrctl_window r = keep 0x0000FF3E00001983 r.controls.mctrctl

abbrev pub sctrctl_in : Registers → Mode → ℕ
sctrctl_in r U = sctrctl_window r
sctrctl_in r S = sctrctl_window r
sctrctl_in r M = sctrctl_window r
sctrctl_in r VU = sctrctl_window r
sctrctl_in r VS = r.controls.vsctrctl

-- a write through the window keeps M and MTE
abbrev window_to : ℕ → Registers → Registers
window_to x r = mctrctl_to (joined (keep 0x0000FF3E00001983 x) (keep 0x0000000000000204 r.controls.mctrctl)) r

abbrev pub sctrctl_to : Mode → ℕ → Registers → Registers
sctrctl_to U x r = window_to x r
sctrctl_to S x r = window_to x r
sctrctl_to M x r = window_to x r
sctrctl_to VU x r = window_to x r
sctrctl_to VS x r = vsctrctl_to (keep 0x0000FF3E00001983 x) r

-- a select register, and the selection of an ireg: with V=1 siselect means vsiselect, and sireg* go by it
abbrev pub siselect_in : Registers → Mode → ℕ
siselect_in r U = r.selects.siselect
siselect_in r S = r.selects.siselect
siselect_in r M = r.selects.siselect
siselect_in r VU = r.selects.vsiselect
siselect_in r VS = r.selects.vsiselect

abbrev pub selected : Registers → View → ℕ
selected r Machine = 0
selected r Supervisor = siselect_in r r.mode
selected r Guest = r.selects.vsiselect

abbrev pub siselect_to_in : Mode → ℕ → Registers → Registers
siselect_to_in U x r = siselect_to x r
siselect_to_in S x r = siselect_to x r
siselect_to_in M x r = siselect_to x r
siselect_to_in VU x r = vsiselect_to x r
siselect_to_in VS x r = vsiselect_to x r

abbrev pub selected_to : View → ℕ → Registers → Registers
selected_to Machine x r = r
selected_to Supervisor x r = siselect_to_in r.mode x r
selected_to Guest x r = vsiselect_to x r

-- logical entry i is physical entry (WRPTR - 1 - i) modulo depth, for i below the depth
abbrev pub physical : Registers → ℕ → ℕ
physical r i = (r.buffer.wrptr + depth r.buffer.code - 1 - i) % depth r.buffer.code

-- so it is p below the depth with (p + 1 + i) modulo depth = WRPTR
pub record Logical (r : Registers) (i p : ℕ) : Type 0 where
  pub below : p < depth r.buffer.code
  pub place : (p + 1 + i) % depth r.buffer.code ≡ r.buffer.wrptr

-- sireg reaches ctrsource (V is bit 0), sireg2 ctrtarget (MISP is bit 0), sireg3 ctrdata (CC in bits 31..16, CCV bit 15, TYPE in
-- 3..0, mask 0xFFFF800F); sireg4 to sireg6 read 0
abbrev pub word : Entry → ℕ → ℕ
word e zero = e.ctrsource
word e (suc zero) = e.ctrtarget
word e (suc (suc zero)) = keep 0xFFFF800F e.ctrdata
word e (suc (suc (suc k))) = 0

-- word k of the entry that a selection means: 0x200 + i selects logical entry i, and those from the depth up read 0
abbrev pub word_at : State → ℕ → ℕ → ℕ
word_at s selection k =
    let i = selection - 0x200 in
    let r = s.registers in
    if ltb i (depth r.buffer.code) then word (entry_at (entries_in s) (physical r i)) k else 0

-- what a register reads as
abbrev pub reading : State → Csr → ℕ
reading s (Control Machine) = s.registers.controls.mctrctl
reading s (Control Supervisor) = sctrctl_in s.registers s.registers.mode
reading s (Control Guest) = s.registers.controls.vsctrctl
reading s Depth = s.registers.buffer.code
-- WRPTR in bits 7..0, FROZEN bit 31
reading s Status = s.registers.buffer.wrptr + (if s.registers.buffer.frozen then 0x80000000 else 0)
reading s (Select v) = selected s.registers v
reading s (Ireg v k) = word_at s (selected s.registers v) k
reading s Unlisted = 0

-- the state with the selected entry changed; from the depth up nothing changes
abbrev pub changed_at : State → ℕ → (Entry → Entry) → State
changed_at s selection c =
    let i = selection - 0x200 in
    let r = s.registers in
    let p = physical r i in
    if ltb i (depth r.buffer.code) then state_of r (with_entry (entries_in s) p (c (entry_at (entries_in s) p))) else s

-- an entry with one of its words written, of ctrdata with 0 stored in the bits outside its mask
abbrev pub ctrsource_to : ℕ → Entry → Entry
ctrsource_to x e = record { ctrsource = x; ctrtarget = e.ctrtarget; ctrdata = e.ctrdata }

abbrev pub ctrtarget_to : ℕ → Entry → Entry
ctrtarget_to x e = record { ctrsource = e.ctrsource; ctrtarget = x; ctrdata = e.ctrdata }

abbrev pub ctrdata_to : ℕ → Entry → Entry
ctrdata_to x e = record { ctrsource = e.ctrsource; ctrtarget = e.ctrtarget; ctrdata = keep 0xFFFF800F x }

-- the state with word k of the selected entry written; a word that reads 0 takes the write without effect
abbrev pub put_at : State → ℕ → ℕ → ℕ → State
put_at s selection zero x = changed_at s selection (ctrsource_to x)
put_at s selection (suc zero) x = changed_at s selection (ctrtarget_to x)
put_at s selection (suc (suc zero)) x = changed_at s selection (ctrdata_to x)
put_at s selection (suc (suc (suc k))) x = s

-- a state with other registers and the same entries
abbrev pub registers_to : Registers → State → State
registers_to r s = state_of r (entries_in s)

-- the state after a write. A granted write, set or clear of a control register restarts the cycle counter, and the next record has
-- CCV 0
abbrev pub put : State → Csr → ℕ → State
put s (Control Machine) x = registers_to (cycles_to 0 false (mctrctl_to (keep 0x0000FF3E00001B87 x) s.registers)) s
put s (Control Supervisor) x = registers_to (cycles_to 0 false (sctrctl_to s.registers.mode x s.registers)) s
put s (Control Guest) x = registers_to (cycles_to 0 false (vsctrctl_to (keep 0x0000FF3E00001983 x) s.registers)) s
-- the low three bits, 5..7 become 4, and WRPTR becomes WRPTR modulo the new depth
put s Depth x =
    let code = min (x % 8) 4 in
    registers_to (wrptr_to (s.registers.buffer.wrptr % depth code) (code_to code s.registers)) s
-- WRPTR is the low eight bits modulo the depth
put s Status x =
    registers_to (frozen_to (eqb (bit_at x 31) 1) (wrptr_to (x % 256 % depth s.registers.buffer.code) s.registers)) s
put s (Select v) x = registers_to (selected_to v x s.registers) s
put s (Ireg v k) x = put_at s (selected s.registers v) k x
put s Unlisted x = s

-- the state after an access: set and clear compute from the old reading and then act as a write
abbrev pub written : State → Operation → Csr → ℕ → State
written s Read g x = s
written s Write g x = put s g x
written s Set g x = put s g (joined (reading s g) x)
written s Clear g x = put s g (without (reading s g) x)

-- SCTRCLR zeroes all 768 entry words; WRPTR and FROZEN stay. It restarts the cycle counter, and the next record has CCV 0
abbrev pub with_zeros : State → State
with_zeros s = state_of (cycles_to 0 false s.registers) zeros

-- the host sets the two state-enable bits
abbrev pub with_enables : Enables → State → State
with_enables e s = registers_to (enables_to e s.registers) s
