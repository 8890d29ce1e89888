-- What is fixed at reset stays, as `FixedAtReset` says. From demands 1 and 2 alone. Assumes nothing.
use Prim.Native.Nat.{ℕ, zero, suc, ◌-◌}
use mathlib.Core.Path.{◌≡◌, refl, sym, ap, ◌∙◌}
use mathlib.Core.Bool.{Bool, true, false}
use mathlib.Core.List.{List, [], ◌∷◌}
use mathlib.Core.Logic.{⊎_elim}
use lib.Dec.{eqb, ltb}
use borrow.Author.Tests.{eqb-false}
use Rattle.std.specs.Prelude.{if◌then◌else◌}
use Rattle.bits.proofs.Cases.{known}
use Rattle.machine.specs.declared.Constants.{Constants}
use Rattle.machine.specs.declared.Entry.{Entry}
use Rattle.machine.specs.declared.Mode.{Mode}
use Rattle.machine.specs.declared.Mode.TheVariants.{U, S, M, VU, VS}
use Rattle.machine.specs.declared.Registers.{Registers}
use Rattle.machine.specs.declared.Operation.{Operation}
use Rattle.machine.specs.declared.Operation.TheVariants.{Read, Write, Set, Clear}
use Rattle.machine.specs.declared.Event.{Event}
use Rattle.machine.specs.declared.Event.TheVariants.{Retired, Trap, TrapReturn, Access, Sctrclr, Host}
use Rattle.csr.specs.declared.Csr.{Csr}
use Rattle.csr.specs.declared.Csr.TheVariants.{Control, Select, Ireg, Depth, Status, Unlisted}
use Rattle.csr.specs.declared.View.{View}
use Rattle.csr.specs.declared.View.TheVariants.{Machine, Supervisor, Guest}
use Rattle.recorder.specs.Entries.{entry_at, with_entry}
use Rattle.recorder.specs.Steps.{state_of, entries_in}
use Rattle.recorder.specs.Runs.{Recorder, end_of}
use Rattle.recorder.specs.declared.State.{State}
use Rattle.recorder.specs.declared.Stepped.{Stepped}
use Rattle.demands.specs.States.{start, depth}
use Rattle.demands.specs.Registers.{selected, physical, changed_at, ctrsource_to, ctrtarget_to, ctrdata_to, put_at, sctrctl_to, siselect_to_in, selected_to, put, written}
use Rattle.demands.specs.Demands.{TransferAt, Demand1, Demand2, Demand2At}
use Rattle.demands.specs.Constant.{FixedAtReset}
use Rattle.demands.proofs.Determined.{Upto4, upto4}
use Rattle.demands.proofs.Determined.Upto4.{is_0, is_1, is_2, is_3, is_4}

abbrev constants : State → Constants
constants s = s.registers.constants

-- the constants of the state that a result has
at : (t u : State) → t ≡ u → constants t ≡ constants u
at t u h = ap (λ (x : State). constants x) h

transfer_fixed : (s : State) (e : Event) (t : Stepped) → TransferAt s e t → t.number ≡ 0 → constants t.state ≡ constants s
transfer_fixed s e t a n = go (upto4 t.value a.no_other)
  where
    go : Upto4 t.value → constants t.state ≡ constants s
    go (is_0 v) = at _ _ (a.nothing n v)
    go (is_1 v) = at _ _ (a.recorded.0 v)
    go (is_2 v) = at _ _ (a.popped.0 v)
    go (is_3 v) = at _ _ (a.swapped v)
    go (is_4 v) = at _ _ (a.frozen v)

changed_fixed : (s : State) (selection : ℕ) (f : Entry → Entry) → constants (changed_at s selection f) ≡ constants s
changed_fixed s selection f = go (ltb (selection - 0x200) (depth s.registers.buffer.code))
  where
    p : ℕ
    p = physical s.registers (selection - 0x200)

    go : (b : Bool) → constants (if b then state_of s.registers (with_entry (entries_in s) p (f (entry_at (entries_in s) p))) else s) ≡ constants s
    go true = refl
    go false = refl

word_fixed : (s : State) (selection k x : ℕ) → constants (put_at s selection k x) ≡ constants s
word_fixed s selection zero x = changed_fixed s selection (ctrsource_to x)
word_fixed s selection (suc zero) x = changed_fixed s selection (ctrtarget_to x)
word_fixed s selection (suc (suc zero)) x = changed_fixed s selection (ctrdata_to x)
word_fixed s selection (suc (suc (suc k))) x = refl

sctrctl_fixed : (m : Mode) (x : ℕ) (r : Registers) → (sctrctl_to m x r).constants ≡ r.constants
sctrctl_fixed U x r = refl
sctrctl_fixed S x r = refl
sctrctl_fixed M x r = refl
sctrctl_fixed VU x r = refl
sctrctl_fixed VS x r = refl

siselect_fixed : (m : Mode) (x : ℕ) (r : Registers) → (siselect_to_in m x r).constants ≡ r.constants
siselect_fixed U x r = refl
siselect_fixed S x r = refl
siselect_fixed M x r = refl
siselect_fixed VU x r = refl
siselect_fixed VS x r = refl

select_fixed : (v : View) (x : ℕ) (r : Registers) → (selected_to v x r).constants ≡ r.constants
select_fixed Machine x r = refl
select_fixed Supervisor x r = siselect_fixed r.mode x r
select_fixed Guest x r = refl

put_fixed : (s : State) (g : Csr) (x : ℕ) → constants (put s g x) ≡ constants s
put_fixed s (Control Machine) x = refl
put_fixed s (Control Supervisor) x = sctrctl_fixed s.registers.mode x s.registers
put_fixed s (Control Guest) x = refl
put_fixed s (Select v) x = select_fixed v x s.registers
put_fixed s (Ireg v k) x = word_fixed s (selected s.registers v) k x
put_fixed s Depth x = refl
put_fixed s Status x = refl
put_fixed s Unlisted x = refl

written_fixed : (s : State) (o : Operation) (g : Csr) (x : ℕ) → constants (written s o g x) ≡ constants s
written_fixed s Read g x = refl
written_fixed s Write g x = put_fixed s g _
written_fixed s Set g x = put_fixed s g _
written_fixed s Clear g x = put_fixed s g _

module _ (f : Recorder) (a : Demand1 f) (b : Demand2 f) where
  event_fixed : (s : State) (e : Event) → constants (f s e).state ≡ constants s
  event_fixed s e = ⊎_elim (λ z. go e (b.events s e) z) refused (known (f s e).number 0)
    where
      refused : eqb (f s e).number 0 ≡ false → constants (f s e).state ≡ constants s
      refused z = at _ _ ((a s e).refused (eqb-false _ _ z)).1

      go : (e : Event) → Demand2At s e (f s e) → (f s e).number ≡ 0 → constants (f s e).state ≡ constants s
      go (Retired w) d z = transfer_fixed s _ _ d z
      go (Trap x) d z = transfer_fixed s _ _ d z
      go (TrapReturn x) d z = transfer_fixed s _ _ d z
      go (Access c) d z = at _ _ (d z).state ∙ written_fixed s c.operation (d z).register c.operand
      go Sctrclr d z = at _ _ (d z).1
      go (Host h) d z = at _ _ (d z).1

  events_fixed : (s : State) (l : List Event) → constants (end_of f s l) ≡ constants s
  unfolding end_of
  events_fixed s [] = refl
  events_fixed s (e ∷ l) = events_fixed (f s e).state l ∙ event_fixed s e

pub fixed_at_reset : FixedAtReset
fixed_at_reset f a b =
    record {
      reset = (λ zc. refl);
      event = event_fixed f a b;
      events = events_fixed f a b;
      from_reset = (λ zc l. ap (λ (c : Constants). c.zc) (events_fixed f a b (start zc) l));
      both = (λ s l m. events_fixed f a b s l ∙ sym (events_fixed f a b s m));
    }
