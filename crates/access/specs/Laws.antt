-- What holds of register accesses. Proved in proofs/.
use Rattle.std.specs.Prelude.{ℕ, ◌+◌, ◌%◌, min, ◌≡◌, true, eqb}
use Rattle.std.specs.Prelude.{if◌then◌else◌}
use Rattle.bits.specs.Words.{bit_at, keep}
use Rattle.machine.specs.Answers.{number_of}
use Rattle.machine.specs.Controls.{mctrctl_mask, sctrctl_mask}
use Rattle.machine.specs.Entries.{defined_of}
use Rattle.machine.specs.Depths.{top_code, depth_of}
use Rattle.machine.specs.Good.{good_of}
use Rattle.machine.specs.Regs.{no_cycles}
use Rattle.machine.specs.declared.CsrAccess.{CsrAccess}
use Rattle.machine.specs.declared.Enables.{Enables}
use Rattle.machine.specs.declared.Registers.{Registers}
use Rattle.machine.specs.declared.Entry.{Entry}
use Rattle.machine.specs.declared.Effect.{Effect}
use Rattle.machine.specs.declared.Effect.TheVariants.{Keep, Put, ClearAll}
use Rattle.machine.specs.declared.Decision.{Decision}
use Rattle.csr.specs.Numbers.{register_of}
use Rattle.csr.specs.Steps.{facts_of, sctrclr_facts, refusal_of}
use Rattle.csr.specs.declared.View.{View}
use Rattle.csr.specs.declared.View.TheVariants.{Machine, Supervisor, Guest}
use Rattle.csr.specs.declared.Csr.{Csr}
use Rattle.csr.specs.declared.Csr.TheVariants.{Control, Select, Ireg, Depth, Status, Unlisted}
use Rattle.access.specs.Readings.{frozen_bit, is_entry, reading_of}
use Rattle.access.specs.Writes.{registers_written, with_word, effect_written}
use Rattle.access.specs.Accesses.{access_of, sctrclr_of, host_of}

-- nothing is changed, and the value is 0
abbrev pub Unchanged : Registers → Decision → Type 0
Unchanged r d = (d.value ≡ 0) × (d.registers ≡ r) × (d.effect ≡ Keep)

-- the entry in focus after an effect
abbrev pub entry_after : Entry → Effect → Entry
entry_after old Keep = old
entry_after old (Put e) = e
entry_after old ClearAll = record { ctrsource = 0; ctrtarget = 0; ctrdata = 0 }

-- the legal value of what is written to a control register, to a select register, to a word of an entry that is selected
abbrev pub legal_control : View → ℕ → ℕ
legal_control Machine x = keep mctrctl_mask x
legal_control Supervisor x = keep sctrctl_mask x
legal_control Guest x = keep sctrctl_mask x

abbrev pub legal_select : View → ℕ → ℕ
legal_select Machine x = 0
legal_select Supervisor x = x
legal_select Guest x = x

abbrev pub legal_entry : Registers → View → ℕ → ℕ → ℕ
legal_entry r Machine k x = if is_entry r.buffer 0 then defined_of k x else 0
legal_entry r Supervisor k x = if is_entry r.buffer r.selects.siselect then defined_of k x else 0
legal_entry r Guest k x = if is_entry r.buffer r.selects.vsiselect then defined_of k x else 0

-- the legal value of what is written to a register
unfoldable pub legal_of : Registers → Csr → ℕ → ℕ
legal_of r (Control v) x = legal_control v x
legal_of r (Select v) x = legal_select v x
legal_of r (Ireg v k) x = legal_entry r v k x
legal_of r Depth x = min (x % 8) top_code
legal_of r Status x = x % 256 % depth_of r.buffer.code + frozen_bit (eqb (bit_at x 31) 1)
legal_of r Unlisted x = 0

pub record Laws : Type 0 where
  -- the number of an answer is that of the first step that applies
  pub access_number : (r : Registers) (old : Entry) (a : CsrAccess)
      → (access_of r old a).number ≡ number_of (refusal_of r (facts_of r (register_of a.number)))
  pub clear_number : (r : Registers) → (sctrclr_of r).number ≡ number_of (refusal_of r sctrclr_facts)
  -- refused means unchanged, with value 0
  pub refused_access : (r : Registers) (old : Entry) (a : CsrAccess)
      → ((access_of r old a).number ≡ 0 → ⊥) → Unchanged r (access_of r old a)
  pub refused_clear : (r : Registers) → ((sctrclr_of r).number ≡ 0 → ⊥) → Unchanged r (sctrclr_of r)
  -- a write and then a read of the same register give the legal value of what was written
  pub write_read : (r : Registers) (old : Entry) (g : Csr) (x : ℕ)
      → reading_of (registers_written r g x) (entry_after old (effect_written r old g x)) g ≡ legal_of r g x
  -- registers free of number 5 stay so
  pub good_access : (r : Registers) (old : Entry) (a : CsrAccess) → good_of r ≡ true → good_of (access_of r old a).registers ≡ true
  pub good_clear : (r : Registers) → good_of r ≡ true → good_of (sctrclr_of r).registers ≡ true
  pub good_host : (r : Registers) (e : Enables) → good_of r ≡ true → good_of (host_of r e).registers ≡ true

-- a write of a control register, whatever the value, starts the cycle counter again with CCV 0 to come; no other write does
pub record Restarts : Type 0 where
  pub control : (r : Registers) (v : View) (x : ℕ) → (registers_written r (Control v) x).cycles ≡ no_cycles
  pub other : (r : Registers) (g : Csr) (x : ℕ) → ((v : View) → g ≡ Control v → ⊥) → (registers_written r g x).cycles ≡ r.cycles

-- what is written to one word of an entry leaves the two others as they were
pub record OtherWords : Type 0 where
  pub source : (e : Entry) (x : ℕ) → ((with_word e 0 x).ctrtarget ≡ e.ctrtarget) × ((with_word e 0 x).ctrdata ≡ e.ctrdata)
  pub target : (e : Entry) (x : ℕ) → ((with_word e 1 x).ctrsource ≡ e.ctrsource) × ((with_word e 1 x).ctrdata ≡ e.ctrdata)
  pub type : (e : Entry) (x : ℕ) → ((with_word e 2 x).ctrsource ≡ e.ctrsource) × ((with_word e 2 x).ctrtarget ≡ e.ctrtarget)
