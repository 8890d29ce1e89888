-- A stored entry changes as `Accounted` says. From demands 1 and 2 alone. Assumes nothing.
use Prim.Native.Nat.{ℕ, zero, suc, ◌-◌, ◌<◌}
use mathlib.Core.Path.{◌≡◌, refl, sym, ap, subst, ◌∙◌}
use mathlib.Core.Bool.{Bool, true, false}
use mathlib.Core.Logic.{◌⊎◌, inl, inr, ⊎_elim}
use native.Mathlib.Omega.{arith}
use lib.Dec.{eqb, ltb}
use lib.Seq.{get_or-set_other}
use borrow.Author.Tests.{eqb-false, ltb-true}
use Rattle.std.specs.Prelude.{if◌then◌else◌}
use Rattle.bits.proofs.Cases.{known}
use Rattle.machine.specs.declared.Entry.{Entry}
use Rattle.machine.specs.declared.Registers.{Registers}
use Rattle.csr.specs.declared.Csr.{Csr}
use Rattle.csr.specs.declared.Csr.TheVariants.{Control, Select, Ireg, Depth, Status, Unlisted}
use Rattle.csr.specs.declared.View.{View}
use Rattle.csr.specs.declared.View.TheVariants.{Machine, Supervisor, Guest}
use Rattle.machine.specs.declared.CsrAccess.{CsrAccess}
use Rattle.machine.specs.declared.Operation.{Operation}
use Rattle.machine.specs.declared.Operation.TheVariants.{Read, Write, Set, Clear}
use Rattle.recorder.specs.Entries.{entry_at, with_entry}
use Rattle.recorder.specs.declared.Entries.{Entries}
use Rattle.recorder.specs.Steps.{state_of, entries_in}
use Rattle.machine.specs.declared.Event.{Event}
use Rattle.machine.specs.declared.Event.TheVariants.{Retired, Trap, TrapReturn, Access, Sctrclr, Host}
use Rattle.recorder.specs.declared.State.{State}
use Rattle.recorder.specs.declared.Stepped.{Stepped}
use Rattle.demands.specs.States.{depth}
use Rattle.demands.specs.Registers as Registers
use Rattle.demands.specs.Registers.{Reaches, selected, physical, changed_at, ctrsource_to, ctrtarget_to, ctrdata_to, put_at, put}
use Rattle.demands.specs.Steps.{Asked, Window, Outside, Step1, Step2, Step3, Step4, Step5, Step6}
use Rattle.demands.specs.Transfers.{with_record, with_pop, with_swap, with_freeze, with_move}
use Rattle.demands.specs.Demands.{NotRefused, TransferAt, GrantedAt, Demand2At}
use Rattle.demands.specs.Changes.{Writes, SelectsEntry, Cause, Accounted}
use Rattle.demands.proofs.Decides.{holds}
use Rattle.demands.proofs.Determined.{Upto4, upto4}
use Rattle.demands.proofs.Determined.Upto4.{is_0, is_1, is_2, is_3, is_4}
use Rattle.demands.proofs.Steps.{window}

-- an entry of a state as it was in another
abbrev Same : State → State → ℕ → Type 0
Same s t i = entry_at (entries_in t) i ≡ entry_at (entries_in s) i

-- a state with other entries: one entry put, and the others as they were
put_or_same : (w : Entries) (at i : ℕ) (e : Entry) → (i ≡ at) ⊎ (entry_at (with_entry w at e) i ≡ entry_at w i)
put_or_same w at i e = ⊎_elim (λ h. inl h) (λ n. inr (other (eqb-false _ _ n))) (known i at)
  where
    other : (i ≡ at → ⊥) → entry_at (with_entry w at e) i ≡ entry_at w i
    other h =
        rw (
          get_or-set_other w.ctrsource at i e.ctrsource 0 h,
          get_or-set_other w.ctrtarget at i e.ctrtarget 0 h,
          get_or-set_other w.ctrdata at i e.ctrdata 0 h,
        )

-- what a state that ended so has, whatever ended there has
ended : {A : Type 0} (s t u : State) (i : ℕ) → t ≡ u → Same s u i ⊎ A → Same s t i ⊎ A
ended s t u i h p = ⊎_elim (λ q. inl (ap (λ (x : State). entry_at (entries_in x) i) h ∙ q)) (λ a. inr a) p

-- an entry put at a place, whatever it is, for a cause of that place
put_at_lem : {A : Type 0} (s : State) (r : Registers) (at i : ℕ) (e : Entry) → (i ≡ at → A)
    → Same s (state_of r (with_entry (entries_in s) at e)) i ⊎ A
put_at_lem s r at i e c = ⊎_elim (λ h. inr (c h)) (λ q. inl q) (put_or_same (entries_in s) at i e)

transfer_changes : (s : State) (e : Event) (t : Stepped) (i : ℕ) → TransferAt s e t → t.number ≡ 0
    → Same s t.state i ⊎ Cause s.registers i e
transfer_changes s e t i a n = go (upto4 t.value a.no_other)
  where
    r : Registers
    r = s.registers

    go : Upto4 t.value → Same s t.state i ⊎ Cause s.registers i e
    go (is_0 v) = ended s t.state (with_move s e) i (a.nothing n v) (inl refl)
    go (is_1 v) =
        let q = a.qualifies.0 v in
        ended s t.state (with_record s e) i (a.recorded.0 v)
        (put_at_lem s (with_record s e).registers r.buffer.wrptr i _ (λ h. Cause.recorded q.0 q.1 h))
    go (is_2 v) =
        let q = a.pops.0 v in
        ended s t.state (with_pop s e) i (a.popped.0 v)
        (put_at_lem s (with_pop s e).registers (physical r 0) i _ (λ h. Cause.popped q.0 q.1 h))
    go (is_3 v) =
        let q = a.swaps.0 v in
        ended s t.state (with_swap s e) i (a.swapped v)
        (put_at_lem s (with_swap s e).registers (physical r 0) i _ (λ h. Cause.swapped q.0 q.1 h))
    go (is_4 v) = ended s t.state (with_freeze s e) i (a.frozen v) (inl refl)

-- an access that is answered has its selection in the window
in_window : (r : Registers) (c : CsrAccess) {g : Csr} → NotRefused r (Access c) → Reaches c.number g → Outside r g → ⊥
in_window r c a p q = a.found (inr (not_2, not_3, not_4, not_5, Step6.outside p q))
  where
    n : ℕ
    n = c.number

    not_1 : Step1 r (Asked.number n) → ⊥
    not_1 (Step1.unlisted h) = h _ p

    not_2 : Step2 r (Asked.number n) → ⊥
    not_2 k = a.legal (not_1, inl k)

    not_3 : Step3 r (Asked.number n) → ⊥
    not_3 k = a.legal (not_1, inr k)

    not_4 : Step4 r (Asked.number n) → ⊥
    not_4 k = a.not_virtual (not_1, not_2, not_3, inl k)

    not_5 : Step5 r (Asked.number n) → ⊥
    not_5 k = a.not_virtual (not_1, not_2, not_3, inr k)

-- a write to a word of the selected entry
module _ (s : State) (v : View) (i : ℕ) (w : Window (selected s.registers v)) where
  abbrev selection : ℕ
  selection = selected s.registers v

  changed : (k : ℕ) → k < 3 → (f : Entry → Entry) → Same s (changed_at s selection f) i ⊎ SelectsEntry s.registers (Ireg v k) i
  changed k l f = go (ltb j d) refl
    where
      j : ℕ
      j = selection - 0x200

      d : ℕ
      d = depth s.registers.buffer.code

      chosen : ltb j d ≡ true → i ≡ physical s.registers j → SelectsEntry s.registers (Ireg v k) i
      chosen h e = subst (SelectsEntry s.registers (Ireg v k)) (sym e) (SelectsEntry.ireg l (omega (arith, w.from)) (ltb-true j d h))

      go : (b : Bool) → ltb j d ≡ b
          → (let p = physical s.registers j in
          Same s (if b then state_of s.registers (with_entry (entries_in s) p (f (entry_at (entries_in s) p))) else s) i)
          ⊎ SelectsEntry s.registers (Ireg v k) i
      go true h = put_at_lem s s.registers (physical s.registers j) i _ (chosen h)
      go false h = inl refl

  word_changes : (k x : ℕ) → Same s (put_at s selection k x) i ⊎ SelectsEntry s.registers (Ireg v k) i
  word_changes zero x = changed 0 (omega arith) (ctrsource_to x)
  word_changes (suc zero) x = changed 1 (omega arith) (ctrtarget_to x)
  word_changes (suc (suc zero)) x = changed 2 (omega arith) (ctrdata_to x)
  word_changes (suc (suc (suc k))) x = inl refl

put_changes : (s : State) (g : Csr) (x i : ℕ) → (Outside s.registers g → ⊥) → Same s (put s g x) i ⊎ SelectsEntry s.registers g i
put_changes s (Control Machine) x i o = inl refl
put_changes s (Control Supervisor) x i o = inl refl
put_changes s (Control Guest) x i o = inl refl
put_changes s (Select v) x i o = inl refl
put_changes s (Ireg v k) x i o = word_changes s v i (holds (window (selected s.registers v)) (λ n. o (Outside.ireg n))) k x
put_changes s Depth x i o = inl refl
put_changes s Status x i o = inl refl
put_changes s Unlisted x i o = inl refl

written : (s : State) (c : CsrAccess) (t : Stepped) (i : ℕ) → NotRefused s.registers (Access c)
    → (p : GrantedAt s c t) → Writes c.operation → (y : ℕ) → t.state ≡ put s p.register y
    → Same s t.state i ⊎ Cause s.registers i (Access c)
written s c t i a p w y h =
    ended s t.state (put s p.register y) i h
    (⊎_elim (λ q. inl q) (λ q. inr (Cause.written a w p.reaches q))
    (put_changes s p.register y i (in_window s.registers c a p.reaches)))

access_changes : (s : State) (c : CsrAccess) (t : Stepped) (i : ℕ) → NotRefused s.registers (Access c)
    → GrantedAt s c t → Same s t.state i ⊎ Cause s.registers i (Access c)
access_changes s c t i a p = go c.operation refl
  where
    state : (o : Operation) → c.operation ≡ o → t.state ≡ Registers.written s o p.register c.operand
    state o e = p.state ∙ ap (λ (q : Operation). Registers.written s q p.register c.operand) e

    by : (o : Operation) → c.operation ≡ o → Writes o → Writes c.operation
    by o e w = subst Writes (sym e) w

    go : (o : Operation) → c.operation ≡ o → Same s t.state i ⊎ Cause s.registers i (Access c)
    go Read e = inl (ap (λ (u : State). entry_at (entries_in u) i) (state Read e))
    go Write e = written s c t i a p (by Write e Writes.write) _ (state Write e)
    go Set e = written s c t i a p (by Set e Writes.set_bits) _ (state Set e)
    go Clear e = written s c t i a p (by Clear e Writes.clear_bits) _ (state Clear e)

pub accounted : Accounted
accounted f a b s e i = ⊎_elim (λ z. go e (b.events s e) z ((a s e).zero.0 z)) refused (known (f s e).number 0)
  where
    refused : eqb (f s e).number 0 ≡ false → Same s (f s e).state i ⊎ Cause s.registers i e
    refused z = inl (ap (λ (u : State). entry_at (entries_in u) i) ((a s e).refused (eqb-false _ _ z)).1)

    go : (e : Event) → Demand2At s e (f s e) → (f s e).number ≡ 0 → NotRefused s.registers e
        → Same s (f s e).state i ⊎ Cause s.registers i e
    go (Retired w) d z q = transfer_changes s _ _ i d z
    go (Trap x) d z q = transfer_changes s _ _ i d z
    go (TrapReturn x) d z q = transfer_changes s _ _ i d z
    go (Access c) d z q = access_changes s c _ i q (d z)
    go Sctrclr d z q = inr (Cause.cleared q)
    go (Host h) d z q = ended s _ _ i (d z).1 (inl refl)
