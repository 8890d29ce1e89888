-- What `Laws` and `OtherWords` state. Assumes nothing.
use mathlib.Core.Path.{◌≡◌, refl}
use mathlib.Core.Bool.{Bool, true, false}
use mathlib.Core.Logic.{◌≢◌, inl, inr}
use Prim.Native.Nat.{ℕ, ◌%◌, ◌≤◌, ◌<◌, min}
use native.Mathlib.Nat.{mod-lt, mod-eq_of_lt}
use native.Mathlib.Omega.{arith}
use lib.Dec.{ltb}
use borrow.Author.Tests.{eq-eqb, lt-ltb, le-ltb, le-leb, eqb-false}
use Rattle.std.specs.Prelude.{Ok, Err}
use Rattle.std.specs.Prelude.{if◌then◌else◌}
use Rattle.bits.specs.Words.{keep}
use Rattle.bits.proofs.Cases.{Known, known}
use Rattle.bits.proofs.Laws.{keep_keep, keep_joined, keep_of_joined}
use Rattle.machine.specs.Answers.{Verdict, number_of, accepted, accepted_clear}
use Rattle.machine.specs.Controls.{mctrctl_mask, sctrctl_mask, machine_mask}
use Rattle.machine.specs.Entries.{defined_of, ctrdata_mask}
use Rattle.machine.specs.Depths.{top_code, depth_of}
use Rattle.machine.specs.Good.{good_of}
use Rattle.machine.proofs.DepthLaws.{depth_pos, wrapped_lt}
use Rattle.machine.proofs.GoodLaws.{Good, parts, whole}
use Rattle.machine.specs.declared.CsrAccess.{CsrAccess}
use Rattle.machine.specs.declared.Enables.{Enables}
use Rattle.machine.specs.declared.Registers.{Registers}
use Rattle.machine.specs.declared.Entry.{Entry}
use Rattle.machine.specs.declared.Effect.TheVariants.{Keep, Put}
use Rattle.machine.specs.declared.Decision.{Decision}
use Rattle.machine.specs.declared.Operation.{Operation}
use Rattle.csr.specs.Numbers.{register_of, csr_in}
use Rattle.csr.specs.Steps.{facts_of, sctrclr_facts, refusal_of}
use Rattle.csr.specs.declared.View.{View}
use Rattle.csr.specs.declared.View.TheVariants.{Machine, Supervisor, Guest}
use Rattle.csr.specs.declared.Csr.{Csr}
use Rattle.csr.specs.declared.Csr.TheVariants.{Control, Select, Ireg, Depth, Status, Unlisted}
use Rattle.access.specs.Readings.{status_of, stored_of, word_of, is_entry, entry_reading, control_reading, reading_of}
use Rattle.access.specs.Writes.{control_written, select_written, depth_written, status_written, registers_written, with_stored, with_word, entry_written, effect_written}
use Rattle.access.specs.Accesses.{is_read, operand_of, write_of, operated_of, granted_of, unless_refused, access_to, access_of, sctrclr_of, host_of}
use Rattle.access.specs.Laws.{Unchanged, entry_after, legal_of, Laws, OtherWords, Restarts}
use Rattle.machine.specs.Regs.{with_cycles, no_cycles}

past : (k : ℕ) → k ≢ 0 → k ≢ 1 → k ≢ 2 → 3 ≤ k
past k a b c = omega arith

-- the window and what is kept have no bit in common
window : keep sctrctl_mask machine_mask ≡ 0
unfolding keep
window = refl

-- both are in mctrctl's mask
shown : keep mctrctl_mask sctrctl_mask ≡ sctrctl_mask
unfolding keep
shown = refl

kept : keep mctrctl_mask machine_mask ≡ machine_mask
unfolding keep
kept = refl

-- a granted access has number 0
granted_number : (r : Registers) (old : Entry) (g : Csr) (o : Operation) (x : ℕ) → (granted_of r old g o x).number ≡ 0
unfolding granted_of operated_of write_of
granted_number r old g o x = go (is_read o)
  where
    go : (b : Bool) → (if b then accepted r (reading_of r old g) else write_of r old g (reading_of r old g) (operand_of o (reading_of r old g) x)).number ≡ 0
    go true = refl
    go false = refl

-- a decision that the steps may refuse
unless : (v : Verdict) (r : Registers) (d : Decision) → d.number ≡ 0 → ((unless_refused v r d).number ≡ 0 → ⊥) → Unchanged r (unless_refused v r d)
unless (Ok _) r d e k = absurd (k e)
unless (Err _) r d e k = (refl, refl, refl)

-- its number
unless_number : (v : Verdict) (r : Registers) (d : Decision) → d.number ≡ 0 → (unless_refused v r d).number ≡ number_of v
unless_number (Ok _) r d e = e
unless_number (Err _) r d e = refl

access_number : (r : Registers) (old : Entry) (a : CsrAccess)
    → (access_of r old a).number ≡ number_of (refusal_of r (facts_of r (register_of a.number)))
unfolding access_of access_to
access_number r old a =
    let g = register_of a.number in
    let m = csr_in r.mode g in
    unless_number (refusal_of r (facts_of r g)) r (granted_of r old m a.operation a.operand) (granted_number r old m a.operation a.operand)

clear_number : (r : Registers) → (sctrclr_of r).number ≡ number_of (refusal_of r sctrclr_facts)
unfolding sctrclr_of
clear_number r = unless_number (refusal_of r sctrclr_facts) r (accepted_clear (with_cycles r no_cycles)) refl

refused_access : (r : Registers) (old : Entry) (a : CsrAccess) → ((access_of r old a).number ≡ 0 → ⊥) → Unchanged r (access_of r old a)
unfolding access_of access_to
refused_access r old a =
    let g = register_of a.number in
    let m = csr_in r.mode g in
    unless (refusal_of r (facts_of r g)) r (granted_of r old m a.operation a.operand) (granted_number r old m a.operation a.operand)

refused_clear : (r : Registers) → ((sctrclr_of r).number ≡ 0 → ⊥) → Unchanged r (sctrclr_of r)
unfolding sctrclr_of
refused_clear r = unless (refusal_of r sctrclr_facts) r (accepted_clear (with_cycles r no_cycles)) refl

-- a word that was just written reads as its defined bits; a place that takes no write reads 0
module _ (old : Entry) (k x : ℕ) where
  stored_word : Known k 0 → Known k 1 → Known k 2
      → word_of (entry_after old (if ltb k 3 then Put (with_word old k x) else Keep)) k ≡ defined_of k x
  unfolding word_of stored_of with_word with_stored defined_of
  stored_word (inl a) b c = simp a
  stored_word (inr a) (inl b) c = simp b (omega arith)
  stored_word (inr a) (inr b) (inl c) = simp c (keep_keep ctrdata_mask x)
  stored_word (inr a) (inr b) (inr c) =
      simp (a, b, c, le-ltb k 3 (past k (eqb-false k 0 a) (eqb-false k 1 b) (eqb-false k 2 c)))

  entry_read : (e : Bool) → (if e then word_of (entry_after old (if e then (if ltb k 3 then Put (with_word old k x) else Keep) else Keep)) k else 0)
      ≡ (if e then defined_of k x else 0)
  entry_read true = stored_word (known k 0) (known k 1) (known k 2)
  entry_read false = refl

-- WRPTR after a write of sctrstatus has eight bits
status_wrptr : (y c : ℕ) → y % depth_of c % 256 ≡ y % depth_of c
status_wrptr y c = let h : y % depth_of c < 256 = omega (arith, wrapped_lt y c) in mod-eq_of_lt h

write_read : (r : Registers) (old : Entry) (g : Csr) (x : ℕ)
    → reading_of (registers_written r g x) (entry_after old (effect_written r old g x)) g ≡ legal_of r g x
unfolding registers_written effect_written reading_of legal_of control_reading control_written select_written depth_written status_written status_of entry_reading entry_written
write_read r old (Control Machine) x = refl
write_read r old (Control Supervisor) x = keep_joined sctrctl_mask machine_mask x r.controls.mctrctl window
write_read r old (Control Guest) x = refl
write_read r old (Select Machine) x = refl
write_read r old (Select Supervisor) x = refl
write_read r old (Select Guest) x = refl
write_read r old (Ireg Machine k) x = entry_read old k x (is_entry r.buffer 0)
write_read r old (Ireg Supervisor k) x = entry_read old k x (is_entry r.buffer r.selects.siselect)
write_read r old (Ireg Guest k) x = entry_read old k x (is_entry r.buffer r.selects.vsiselect)
write_read r old Depth x = refl
write_read r old Status x = rw (status_wrptr (x % 256) r.buffer.code)
write_read r old Unlisted x = refl

-- what starts the cycle counter again
pub restarts : Restarts
unfolding registers_written
restarts = record { control = (λ r v x. refl); other = other }
  where
    other : (r : Registers) (g : Csr) (x : ℕ) → ((v : View) → g ≡ Control v → ⊥) → (registers_written r g x).cycles ≡ r.cycles
    other r (Control v) x h = absurd (h v refl)
    other r (Select v) x h = refl
    other r (Ireg v k) x h = refl
    other r Depth x h = refl
    other r Status x h = refl
    other r Unlisted x h = refl

-- number 5 after a write, by the parts of a state free of it
good_write : (r : Registers) (g : Csr) (x : ℕ) → Good r → Good (registers_written r g x)
unfolding registers_written control_written depth_written status_written
good_write r (Control Machine) x q =
    record { code = q.code; pointer = q.pointer; control = eq-eqb _ _ (keep_keep mctrctl_mask x); guest = q.guest; counter = refl }
good_write r (Control Supervisor) x q =
    record {
      code = q.code;
      pointer = q.pointer;
      control = eq-eqb _ _ (keep_of_joined mctrctl_mask sctrctl_mask machine_mask x r.controls.mctrctl shown kept);
      guest = q.guest;
      counter = refl;
    }
good_write r (Control Guest) x q =
    record { code = q.code; pointer = q.pointer; control = q.control; guest = eq-eqb _ _ (keep_keep sctrctl_mask x); counter = refl }
good_write r (Select v) x q = record { code = q.code; pointer = q.pointer; control = q.control; guest = q.guest; counter = q.counter }
good_write r (Ireg v k) x q = q
good_write r Depth x q =
    record {
      code = le-leb (min (x % 8) top_code) top_code (omega arith);
      pointer = lt-ltb _ _ (mod-lt r.buffer.wrptr (depth_pos (min (x % 8) top_code)));
      control = q.control;
      guest = q.guest;
      counter = q.counter;
    }
good_write r Status x q =
    record {
      code = q.code;
      pointer = lt-ltb _ _ (mod-lt (x % 256) (depth_pos r.buffer.code));
      control = q.control;
      guest = q.guest;
      counter = q.counter;
    }
good_write r Unlisted x q = q

good_granted : (r : Registers) (old : Entry) (g : Csr) (o : Operation) (x : ℕ) → Good r → Good (granted_of r old g o x).registers
unfolding granted_of operated_of write_of
good_granted r old g o x q = go (is_read o)
  where
    go : (b : Bool) → Good (if b then accepted r (reading_of r old g) else write_of r old g (reading_of r old g) (operand_of o (reading_of r old g) x)).registers
    go true = q
    go false = good_write r g _ q

good_unless : (v : Verdict) (r : Registers) (d : Decision) → Good r → Good d.registers → Good (unless_refused v r d).registers
good_unless (Ok _) r d q p = p
good_unless (Err _) r d q p = q

good_access : (r : Registers) (old : Entry) (a : CsrAccess) → good_of r ≡ true → good_of (access_of r old a).registers ≡ true
unfolding access_of access_to
good_access r old a h =
    let q = parts r h in
    let g = register_of a.number in
    let m = csr_in r.mode g in
    whole _
    (good_unless (refusal_of r (facts_of r g)) r (granted_of r old m a.operation a.operand) q (good_granted r old m a.operation a.operand q))

good_clear : (r : Registers) → good_of r ≡ true → good_of (sctrclr_of r).registers ≡ true
unfolding sctrclr_of
good_clear r h =
    let q = parts r h in
    let p : Good (with_cycles r no_cycles) = record { code = q.code; pointer = q.pointer; control = q.control; guest = q.guest; counter = refl } in
    whole _ (good_unless (refusal_of r sctrclr_facts) r (accepted_clear (with_cycles r no_cycles)) q p)

good_host : (r : Registers) (e : Enables) → good_of r ≡ true → good_of (host_of r e).registers ≡ true
unfolding host_of good_of
good_host r e h = h

pub laws : Laws
laws =
    record {
      access_number = access_number;
      clear_number = clear_number;
      refused_access = refused_access;
      refused_clear = refused_clear;
      write_read = write_read;
      good_access = good_access;
      good_clear = good_clear;
      good_host = good_host;
    }

pub other_words : OtherWords
unfolding with_word with_stored
other_words =
    record { source = (λ e x. (refl, refl)); target = (λ e x. (refl, refl)); type = (λ e x. (refl, refl)) }
