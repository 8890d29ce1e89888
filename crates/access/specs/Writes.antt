-- What a write does to the registers and to the entry in focus.
use Rattle.std.specs.Prelude.{ℕ, ◌%◌, min, eqb, ltb}
use Rattle.std.specs.Prelude.{if◌then◌else◌}
use Rattle.bits.specs.Words.{bit_at, keep, joined}
use Rattle.machine.specs.Controls.{mctrctl_mask, sctrctl_mask, machine_mask}
use Rattle.machine.specs.Entries.{defined_of}
use Rattle.machine.specs.Regs.{with_controls, with_buffer, with_selects, with_cycles, no_cycles}
use Rattle.machine.specs.Depths.{top_code, depth_of}
use Rattle.machine.specs.declared.Buffer.{Buffer}
use Rattle.machine.specs.declared.ControlWords.{ControlWords}
use Rattle.machine.specs.declared.Effect.{Effect}
use Rattle.machine.specs.declared.Effect.TheVariants.{Keep, Put}
use Rattle.machine.specs.declared.Registers.{Registers}
use Rattle.machine.specs.declared.Selects.{Selects}
use Rattle.machine.specs.declared.Entry.{Entry}
use Rattle.csr.specs.Steps.{select_of}
use Rattle.csr.specs.declared.View.{View}
use Rattle.csr.specs.declared.View.TheVariants.{Machine, Supervisor, Guest}
use Rattle.csr.specs.declared.Csr.{Csr}
use Rattle.csr.specs.declared.Csr.TheVariants.{Control, Select, Ireg, Depth, Status, Unlisted}
use Rattle.access.specs.Readings.{is_entry}

abbrev pub with_mctrctl : ControlWords → ℕ → ControlWords
with_mctrctl c x = record { mctrctl = x; vsctrctl = c.vsctrctl }

abbrev pub with_vsctrctl : ControlWords → ℕ → ControlWords
with_vsctrctl c x = record { mctrctl = c.mctrctl; vsctrctl = x }

-- a control register keeps the bits of its mask; through sctrctl, M and MTE of mctrctl stay
unfoldable pub control_written : ControlWords → View → ℕ → ControlWords
control_written c Machine x = with_mctrctl c (keep mctrctl_mask x)
control_written c Supervisor x = with_mctrctl c (joined (keep sctrctl_mask x) (keep machine_mask c.mctrctl))
control_written c Guest x = with_vsctrctl c (keep sctrctl_mask x)

-- a select register holds 64 bits
unfoldable pub select_written : Selects → View → ℕ → Selects
select_written s Machine x = s
select_written s Supervisor x = record { siselect = x; vsiselect = s.vsiselect }
select_written s Guest x = record { siselect = s.siselect; vsiselect = x }

-- sctrdepth: the low three bits, codes above the largest become the largest, and WRPTR is taken modulo the new depth
unfoldable pub depth_written : Buffer → ℕ → Buffer
depth_written b x =
    let code = min (x % 8) top_code in record { code = code; wrptr = b.wrptr % depth_of code; frozen = b.frozen }

-- sctrstatus: WRPTR is the low eight bits modulo the depth, FROZEN bit 31
unfoldable pub status_written : Buffer → ℕ → Buffer
status_written b x = record { code = b.code; wrptr = x % 256 % depth_of b.code; frozen = eqb (bit_at x 31) 1 }

-- the registers after a write. That of a control register, whatever the value, starts the cycle counter again, and the next record
-- has CCV 0
unfoldable pub registers_written : Registers → Csr → ℕ → Registers
registers_written r (Control v) x = with_cycles (with_controls r (control_written r.controls v x)) no_cycles
registers_written r (Select v) x = with_selects r (select_written r.selects v x)
registers_written r (Ireg v k) x = r
registers_written r Depth x = with_buffer r (depth_written r.buffer x)
registers_written r Status x = with_buffer r (status_written r.buffer x)
registers_written r Unlisted x = r

-- an entry with another ctrsource, ctrtarget or ctrdata
abbrev pub with_source : Entry → ℕ → Entry
with_source e x = record { ctrsource = x; ctrtarget = e.ctrtarget; ctrdata = e.ctrdata }

abbrev pub with_target : Entry → ℕ → Entry
with_target e x = record { ctrsource = e.ctrsource; ctrtarget = x; ctrdata = e.ctrdata }

abbrev pub with_data : Entry → ℕ → Entry
with_data e x = record { ctrsource = e.ctrsource; ctrtarget = e.ctrtarget; ctrdata = x }

-- with another word k
unfoldable pub with_stored : Entry → ℕ → ℕ → Entry
with_stored e k x = if eqb k 0 then with_source e x else (if eqb k 1 then with_target e x else with_data e x)

-- word k written: its defined bits, and 0 in the others
unfoldable pub with_word : Entry → ℕ → ℕ → Entry
with_word e k x = with_stored e k (defined_of k x)

-- word k of the selected entry; a place that reads 0 takes the write without effect
unfoldable pub entry_written : Buffer → ℕ → Entry → ℕ → ℕ → Effect
entry_written b selection old k x =
    if is_entry b selection then (if ltb k 3 then Put (with_word old k x) else Keep) else Keep

-- the effect of a write on the entries
unfoldable pub effect_written : Registers → Entry → Csr → ℕ → Effect
effect_written r old (Ireg v k) x = entry_written r.buffer (select_of r.selects v) old k x
effect_written r old (Control v) x = Keep
effect_written r old (Select v) x = Keep
effect_written r old Depth x = Keep
effect_written r old Status x = Keep
effect_written r old Unlisted x = Keep
