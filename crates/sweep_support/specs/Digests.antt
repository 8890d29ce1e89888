-- Digests with answers, registers and entries taken in, field by field in their order.
use Rattle.std.specs.Prelude.{ℕ, zero, suc}
use Rattle.machine.specs.declared.Buffer.{Buffer}
use Rattle.machine.specs.declared.Constants.{Constants}
use Rattle.machine.specs.declared.ControlWords.{ControlWords}
use Rattle.machine.specs.declared.Cycles.{Cycles}
use Rattle.machine.specs.declared.Enables.{Enables}
use Rattle.machine.specs.declared.Entry.{Entry}
use Rattle.machine.specs.declared.Registers.{Registers}
use Rattle.machine.specs.declared.Selects.{Selects}
use Rattle.recorder.specs.Entries.{entries, entry_at}
use Rattle.recorder.specs.declared.Entries.{Entries}
use Rattle.test_support.specs.Words.{digested}
use Rattle.trace.specs.Codes.{flag_of, mode_code}

-- an answer: its number, then its value
unfoldable pub with_answer : ℕ → ℕ → ℕ → ℕ
with_answer h number value = digested (digested h number) value

unfoldable pub with_entry : ℕ → Entry → ℕ
with_entry h e = digested (digested (digested h e.ctrsource) e.ctrtarget) e.ctrdata

-- the groups of registers
unfoldable pub with_controls : ℕ → ControlWords → ℕ
with_controls h c = digested (digested h c.mctrctl) c.vsctrctl

unfoldable pub with_buffer : ℕ → Buffer → ℕ
with_buffer h b = digested (digested (digested h b.code) b.wrptr) (flag_of b.frozen)

unfoldable pub with_selects : ℕ → Selects → ℕ
with_selects h s = digested (digested h s.siselect) s.vsiselect

unfoldable pub with_enables : ℕ → Enables → ℕ
with_enables h e = digested (digested h (flag_of e.mstateen0)) (flag_of e.hstateen0)

unfoldable pub with_cycles : ℕ → Cycles → ℕ
with_cycles h c = digested (digested h c.counter) (flag_of c.ccv)

unfoldable pub with_constants : ℕ → Constants → ℕ
with_constants h c = digested h (flag_of c.zc)

-- the mode, then each group
unfoldable pub with_registers : ℕ → Registers → ℕ
with_registers h r =
    with_constants (with_cycles
    (with_enables (with_selects (with_buffer (with_controls (digested h (mode_code r.mode)) r.controls) r.buffer) r.selects)
    r.enables)
    r.cycles) r.constants

-- the first n entries
unfoldable pub with_entries : ℕ → Entries → ℕ → ℕ
with_entries h w zero = h
with_entries h w (suc n) = with_entry (with_entries h w n) (entry_at w n)

-- a state: the registers, then every entry
unfoldable pub with_state : ℕ → Registers → Entries → ℕ
with_state h r w = with_entries (with_registers h r) w entries
