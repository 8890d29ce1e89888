-- Readings and writes of specs/Registers.antt are the definitions'; so `step_of` meets demand 2 at accesses, SCTRCLR and the host's
-- event. Assumes nothing.
use Prim.Native.Nat.{ℕ, zero, suc, ◌-◌, ◌%◌, ◌<◌, min}
use mathlib.Core.Path.{◌≡◌, refl, sym, ap, ◌∙◌}
use mathlib.Core.Bool.{Bool, true, false, false≢true}
use native.Mathlib.Nat.{mod-eq_of_lt}
use native.Mathlib.Omega.{arith}
use lib.Dec.{ltb}
use borrow.Author.Tests.{ne_eqb, ltb-true, le-ltb}
use Rattle.std.specs.Prelude.{if◌then◌else◌}
use Rattle.bits.specs.Words.{joined, without}
use Rattle.std.specs.Prelude.{Ok, Err}
use Rattle.machine.specs.Answers.{Verdict, number_of, refusal_number, refused, accepted, accepted_clear}
use Rattle.machine.specs.Entries.{defined_of}
use Rattle.machine.specs.Modes.{is_virtual}
use Rattle.machine.specs.Regs as Regs
use Rattle.machine.specs.Depths.{physical_of}
use Rattle.machine.specs.Good.{good_of}
use Rattle.machine.specs.declared.CsrAccess.{CsrAccess}
use Rattle.machine.specs.declared.Decision.{Decision}
use Rattle.machine.specs.declared.Effect.{Effect}
use Rattle.machine.specs.declared.Effect.TheVariants.{Keep, Put}
use Rattle.machine.specs.declared.Enables.{Enables}
use Rattle.machine.specs.declared.Entry.{Entry}
use Rattle.machine.specs.declared.Event.TheVariants.{Access, Sctrclr, Host}
use Rattle.machine.specs.declared.Mode.{Mode}
use Rattle.machine.specs.declared.Mode.TheVariants.{U, S, M, VU, VS}
use Rattle.machine.specs.declared.Operation.{Operation}
use Rattle.machine.specs.declared.Operation.TheVariants.{Read, Write, Set, Clear}
use Rattle.machine.specs.declared.Registers.{Registers}
use Rattle.machine.specs.declared.Refusal.{Refusal}
use Rattle.machine.specs.declared.Refusal.TheVariants.{IllegalInstruction, VirtualInstruction, NoSuchRegister, ChangeNotPossible, BadState}
use Rattle.machine.proofs.DepthLaws.{depth_le}
use Rattle.csr.specs.Numbers.{register_of, view_in, csr_in}
use Rattle.csr.specs.Steps.{select_of, selection_of, facts_of, sctrclr_facts, refusal_of}
use Rattle.csr.specs.declared.Csr.{Csr}
use Rattle.csr.specs.declared.Csr.TheVariants.{Control, Select, Ireg, Depth, Status, Unlisted}
use Rattle.csr.specs.declared.View.{View}
use Rattle.csr.specs.declared.View.TheVariants.{Machine, Supervisor, Guest}
use Rattle.access.specs.Accesses as Accesses
use Rattle.access.specs.Accesses.{is_read, operand_of, write_of, operated_of, granted_of, unless_refused, access_to, access_of, sctrclr_of, host_of}
use Rattle.access.specs.Readings.{status_of, stored_of, word_of, is_entry, entry_reading, control_reading, reading_of}
use Rattle.access.specs.Writes.{control_written, select_written, depth_written, status_written, registers_written, with_stored, with_word, entry_written, effect_written}
use Rattle.recorder.specs.Decisions.{event_of, decide_of}
use Rattle.recorder.specs.Entries.{entry_at, with_entry, applied_of}
use Rattle.recorder.specs.Events.{focus_of}
use Rattle.recorder.specs.Steps.{state_of, entries_in, applied_to, decided_of, step_of}
use Rattle.recorder.specs.declared.State.{State}
use Rattle.demands.specs.States.{depth, Free, cycles_to}
use Rattle.demands.specs.Registers.{physical, selected, word, word_at, changed_at, put_at, sctrctl_in, sctrctl_to, siselect_to_in, reading, put, written, with_zeros, with_enables}
use Rattle.demands.specs.Steps.{Window, Outside}
use Rattle.demands.specs.Demands.{GrantedAt}
use Rattle.demands.proofs.Decides.{holds}
use Rattle.demands.proofs.Free.{free}
use Rattle.demands.proofs.Steps.{window, selected_is, granted_reach}
use Rattle.demands.proofs.Tests.{depth_is, physical_is}

-- a refusal has another number than 0
refuses : (e : Refusal) → refusal_number e ≡ 0 → ⊥
refuses IllegalInstruction z = omega (arith, z)
refuses VirtualInstruction z = omega (arith, z)
refuses NoSuchRegister z = omega (arith, z)
refuses ChangeNotPossible z = omega (arith, z)
refuses BadState z = omega (arith, z)

-- a granted access is what the definition grants
module _ (s : State) (a : CsrAccess) where
  abbrev r : Registers
  r = s.registers

  abbrev at : ℕ
  at = Accesses.access_focus r a.number

  abbrev g : Csr
  g = csr_in r.mode (register_of a.number)

  abbrev granted : Decision
  granted = granted_of r (entry_at (entries_in s) at) g a.operation a.operand

  access_granted : (step_of s (Access a)).number ≡ 0
      → (good_of r ≡ true) × (number_of (refusal_of r (facts_of r (register_of a.number))) ≡ 0)
      × ((step_of s (Access a)).value ≡ granted.value)
      × ((step_of s (Access a)).state ≡ state_of granted.registers (applied_of (entries_in s) granted.effect at))
  unfolding step_of applied_to decided_of decide_of event_of focus_of access_of access_to
  access_granted = go (good_of r) refl (refusal_of r (facts_of r (register_of a.number)))
    where
      d : Bool → Verdict → Decision
      d b k = if b then unless_refused k r granted else refused r BadState

      go : (b : Bool) → good_of r ≡ b → (k : Verdict) → (d b k).number ≡ 0
          → (good_of r ≡ true) × (number_of k ≡ 0) × ((d b k).value ≡ granted.value)
          × (state_of (d b k).registers (applied_of (entries_in s) (d b k).effect at)
          ≡ state_of granted.registers (applied_of (entries_in s) granted.effect at))
      go true f (Ok _) h = (f, refl, refl, refl)
      go true f (Err e) h = absurd (refuses e h)
      go false f k h = absurd (omega (arith, h))

-- whatever is written, the answer is the old reading
granted_value : (r : Registers) (old : Entry) (g : Csr) (o : Operation) (x : ℕ) → (granted_of r old g o x).value ≡ reading_of r old g
unfolding granted_of operated_of write_of
granted_value r old g Read x = refl
granted_value r old g Write x = refl
granted_value r old g Set x = refl
granted_value r old g Clear x = refl

-- words of an entry
word_is : (e : Entry) (k : ℕ) → word_of e k ≡ word e k
unfolding word_of stored_of defined_of
word_is e zero = refl
word_is e (suc zero) = refl
word_is e (suc (suc zero)) = refl
word_is e (suc (suc (suc k))) =
    let n = suc (suc (suc k)) in
    simp (ne_eqb n 0 (λ h. omega (arith, h)), ne_eqb n 1 (λ h. omega (arith, h)), ne_eqb n 2 (λ h. omega (arith, h)))

-- the entry that a selection of the window means
module _ (s : State) (i : ℕ) (w : Window i) where
  abbrev q : Registers
  q = s.registers

  low : i % 256 ≡ i - 0x200
  low = omega (arith, w.from, w.to)

  abbrev place : ℕ
  place = physical_of q.buffer.code q.buffer.wrptr (i % 256)

  is_entry_lem : is_entry q.buffer i ≡ ltb (i - 0x200) (depth q.buffer.code)
  unfolding is_entry
  is_entry_lem = rw (low, depth_is q.buffer.code)

  place_is : ltb (i - 0x200) (depth q.buffer.code) ≡ true → place ≡ physical q (i - 0x200)
  place_is h = rw low (physical_is q (i - 0x200) (ltb-true _ _ h))

  entry_reading_lem : (k : ℕ) → entry_reading q.buffer i (entry_at (entries_in s) place) k ≡ word_at s i k
  unfolding entry_reading
  entry_reading_lem k = rw is_entry_lem (go (ltb (i - 0x200) (depth q.buffer.code)) refl)
    where
      go : (b : Bool) → ltb (i - 0x200) (depth q.buffer.code) ≡ b
          → (if b then word_of (entry_at (entries_in s) place) k else 0) ≡ (if b then word (entry_at (entries_in s) (physical q (i - 0x200))) k else 0)
      go true h = rw (place_is h) (word_is _ k)
      go false h = refl

  -- the state after an effect
  abbrev after : Effect → State
  after f = state_of q (applied_of (entries_in s) f place)

  entry_put : (k x : ℕ) (c : Entry → Entry) → ltb k 3 ≡ true → ((e : Entry) → with_word e k x ≡ c e)
      → after (entry_written q.buffer i (entry_at (entries_in s) place) k x) ≡ changed_at s i c
  unfolding entry_written applied_of
  entry_put k x c l e = rw (is_entry_lem, l) (go (ltb (i - 0x200) (depth q.buffer.code)) refl)
    where
      f : Bool → Effect
      f b = if b then Put (with_word (entry_at (entries_in s) place) k x) else Keep

      go : (b : Bool) → ltb (i - 0x200) (depth q.buffer.code) ≡ b
          → after (f b)
          ≡ (let p = physical q (i - 0x200) in if b then state_of q (with_entry (entries_in s) p (c (entry_at (entries_in s) p))) else s)
      go true h = rw (place_is h, e (entry_at (entries_in s) (physical q (i - 0x200))))
      go false h = refl

  entry_kept : (k x : ℕ) → ltb k 3 ≡ false → after (entry_written q.buffer i (entry_at (entries_in s) place) k x) ≡ s
  unfolding entry_written applied_of
  entry_kept k x l = rw l (go (is_entry q.buffer i))
    where
      go : (b : Bool) → after (if b then Keep else Keep) ≡ s
      go true = refl
      go false = refl

  entry_written_lem : (k x : ℕ) → after (entry_written q.buffer i (entry_at (entries_in s) place) k x) ≡ put_at s i k x
  unfolding with_word with_stored defined_of
  entry_written_lem zero x = entry_put 0 x _ refl (λ e. refl)
  entry_written_lem (suc zero) x = entry_put 1 x _ refl (λ e. refl)
  entry_written_lem (suc (suc zero)) x = entry_put 2 x _ refl (λ e. refl)
  entry_written_lem (suc (suc (suc k))) x = entry_kept (suc (suc (suc k))) x (le-ltb (suc (suc (suc k))) 3 (omega arith))

-- readings and writes, by what a register means in the mode
module _ (s : State) where
  abbrev b : Registers
  b = s.registers

  abbrev old : Csr → Entry
  old g = entry_at (entries_in s) (physical_of b.buffer.code b.buffer.wrptr (selection_of b.selects g % 256))

  sctrctl_reading : (m : Mode) → (m ≡ VU → ⊥) → control_reading b.controls (if is_virtual m then Guest else Supervisor) ≡ sctrctl_in b m
  unfolding control_reading
  sctrctl_reading U n = refl
  sctrctl_reading S n = refl
  sctrctl_reading M n = refl
  sctrctl_reading VU n = absurd (n refl)
  sctrctl_reading VS n = refl

  -- an ireg of a view
  ireg_reading : (v : View) (k : ℕ) → Window (selected b v)
      → (let w = view_in b.mode v in entry_reading b.buffer (select_of b.selects w) (old (Ireg w k)) k) ≡ word_at s (selected b v) k
  ireg_reading v k w = rw (selected_is b v) (entry_reading_lem s (selected b v) w k)

  reading_is : (g : Csr) → b.buffer.wrptr < 256 → (b.mode ≡ VU → ⊥) → (Outside b g → ⊥)
      → reading_of b (old (csr_in b.mode g)) (csr_in b.mode g) ≡ reading s g
  unfolding csr_in view_in reading_of control_reading status_of
  reading_is (Control Machine) l n o = refl
  reading_is (Control Supervisor) l n o = sctrctl_reading b.mode n
  reading_is (Control Guest) l n o = refl
  reading_is (Select v) l n o = selected_is b v
  reading_is (Ireg v k) l n o = ireg_reading v k (holds (window (selected b v)) (λ m. o (Outside.ireg m)))
  reading_is Depth l n o = refl
  reading_is Status l n o = rw (mod-eq_of_lt l)
  reading_is Unlisted l n o = refl

  -- the state after a write of a register, as it means in the mode
  abbrev ends : Csr → ℕ → State
  ends g x =
      state_of (registers_written b g x)
      (applied_of (entries_in s) (effect_written b (old g) g x) (physical_of b.buffer.code b.buffer.wrptr (selection_of b.selects g % 256)))

  sctrctl_written : (m : Mode) (x : ℕ) → (m ≡ VU → ⊥)
      → Regs.with_cycles (Regs.with_controls b (control_written b.controls (if is_virtual m then Guest else Supervisor) x)) Regs.no_cycles
      ≡ cycles_to 0 false (sctrctl_to m x b)
  unfolding control_written
  sctrctl_written U x n = refl
  sctrctl_written S x n = refl
  sctrctl_written M x n = refl
  sctrctl_written VU x n = absurd (n refl)
  sctrctl_written VS x n = refl

  siselect_written : (m : Mode) (x : ℕ)
      → Regs.with_selects b (select_written b.selects (if is_virtual m then Guest else Supervisor) x) ≡ siselect_to_in m x b
  unfolding select_written
  siselect_written U x = refl
  siselect_written S x = refl
  siselect_written M x = refl
  siselect_written VU x = refl
  siselect_written VS x = refl

  ireg_written : (v : View) (k x : ℕ) → Window (selected b v)
      → (let w = view_in b.mode v in
      let p = physical_of b.buffer.code b.buffer.wrptr (select_of b.selects w % 256) in
      state_of b (applied_of (entries_in s) (entry_written b.buffer (select_of b.selects w) (old (Ireg w k)) k x) p)) ≡ put_at s (selected b v) k x
  ireg_written v k x w = rw (selected_is b v) (entry_written_lem s (selected b v) w k x)

  put_is : (g : Csr) (x : ℕ) → (b.mode ≡ VU → ⊥) → (Outside b g → ⊥) → ends (csr_in b.mode g) x ≡ put s g x
  unfolding csr_in view_in registers_written effect_written control_written select_written depth_written status_written applied_of
  put_is (Control Machine) x n o = refl
  put_is (Control Supervisor) x n o = ap (λ (r : Registers). state_of r (entries_in s)) (sctrctl_written b.mode x n)
  put_is (Control Guest) x n o = refl
  put_is (Select Machine) x n o = refl
  put_is (Select Supervisor) x n o = ap (λ (r : Registers). state_of r (entries_in s)) (siselect_written b.mode x)
  put_is (Select Guest) x n o = refl
  put_is (Ireg v k) x n o = ireg_written v k x (holds (window (selected b v)) (λ m. o (Outside.ireg m)))
  put_is Depth x n o = rw (depth_is (min (x % 8) 4))
  put_is Status x n o = rw (depth_is b.buffer.code)
  put_is Unlisted x n o = refl

  written_is : (g : Csr) (o : Operation) (x : ℕ) → b.buffer.wrptr < 256 → (b.mode ≡ VU → ⊥) → (Outside b g → ⊥)
      → (let m = csr_in b.mode g in
      let d = granted_of b (old m) m o x in
      state_of d.registers
      (applied_of (entries_in s) d.effect (physical_of b.buffer.code b.buffer.wrptr (selection_of b.selects m % 256))))
      ≡ written s o g x
  unfolding granted_of operated_of operand_of write_of applied_of
  written_is g Read x l n o = refl
  written_is g Write x l n o = put_is g x n o
  written_is g Set x l n o = put_is g _ n o ∙ ap (λ (v : ℕ). put s g (joined v x)) (reading_is g l n o)
  written_is g Clear x l n o = put_is g _ n o ∙ ap (λ (v : ℕ). put s g (without v x)) (reading_is g l n o)

pub pointer_lt : (r : Registers) → Free r → r.buffer.wrptr < 256
pointer_lt r f = omega (arith, f.pointer, depth_is r.buffer.code, depth_le r.buffer.code)

-- a granted access reaches the register of its number, answers its reading and leaves it written
pub access_done : (s : State) (a : CsrAccess) → (step_of s (Access a)).number ≡ 0 → GrantedAt s a (step_of s (Access a))
unfolding Accesses.access_focus
access_done s a h =
    let p = access_granted s a h in
    let r = s.registers in
    let g = register_of a.number in
    let q = granted_reach r a.number p.1 in
    let l : r.buffer.wrptr < 256 = pointer_lt r ((free r).from p.0) in
    record {
      register = g;
      reaches = q.0;
      value = p.2 ∙ granted_value r _ _ a.operation a.operand ∙ reading_is s g l q.2 q.1;
      state = p.3 ∙ written_is s g a.operation a.operand l q.2 q.1;
    }

-- SCTRCLR and the host
pub clear_done : (s : State) → (step_of s Sctrclr).number ≡ 0 → ((step_of s Sctrclr).value ≡ 0) × ((step_of s Sctrclr).state ≡ with_zeros s)
unfolding step_of applied_to decided_of decide_of event_of focus_of sctrclr_of applied_of
clear_done s = go (good_of s.registers) (refusal_of s.registers sctrclr_facts)
  where
    d : Bool → Verdict → Decision
    d b v =
        if b then unless_refused v s.registers (accepted_clear (Regs.with_cycles s.registers Regs.no_cycles)) else refused s.registers BadState

    go : (b : Bool) (v : Verdict) → (d b v).number ≡ 0
        → ((d b v).value ≡ 0) × (state_of (d b v).registers (applied_of (entries_in s) (d b v).effect (focus_of s.registers Sctrclr)) ≡ with_zeros s)
    go true (Ok _) h = (refl, refl)
    go true (Err e) h = absurd (refuses e h)
    go false v h = absurd (omega (arith, h))

pub host_done : (s : State) (h : Enables) → (step_of s (Host h)).number ≡ 0
    → ((step_of s (Host h)).value ≡ 0) × ((step_of s (Host h)).state ≡ with_enables h s)
unfolding step_of applied_to decided_of decide_of event_of focus_of host_of applied_of
host_done s h = go (good_of s.registers)
  where
    d : Bool → Decision
    d b = if b then accepted (Regs.with_enables s.registers h) 0 else refused s.registers BadState

    go : (b : Bool) → (d b).number ≡ 0
        → ((d b).value ≡ 0) × (state_of (d b).registers (applied_of (entries_in s) (d b).effect (focus_of s.registers (Host h))) ≡ with_enables h s)
    go true z = (refl, refl)
    go false z = absurd (omega (arith, z))
