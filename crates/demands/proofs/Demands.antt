-- The definition `step_of` meets demands 1 and 2, and nothing else does. Assumes nothing.
use Prim.Native.Nat.{ℕ, ◌+◌, ◌-◌, ◌%◌, ◌≤◌, ◌<◌}
use mathlib.Core.Path.{◌≡◌, refl, sym, ap, ◌∙◌}
use mathlib.Core.Logic.{⊎_elim}
use native.Mathlib.Nat.{mod-lt, mod-eq_of_lt, mod-add-mod, add-mod_right, mod-eq-sub-mod}
use native.Mathlib.Omega.{arith}
use borrow.Author.Tests.{lt-ltb, le-ltb}
use Rattle.classifier.proofs.Promise.{promise}
use Rattle.machine.specs.declared.Registers.{Registers}
use Rattle.csr.specs.declared.Csr.{Csr}
use Rattle.machine.specs.declared.CsrAccess.{CsrAccess}
use Rattle.recorder.specs.Entries.{entry_at}
use Rattle.recorder.specs.Steps.{entries_in, step_of, reset_state}
use Rattle.machine.specs.declared.Event.{Event}
use Rattle.machine.specs.declared.Event.TheVariants.{Retired, Trap, TrapReturn, Access, Sctrclr, Host}
use Rattle.recorder.specs.declared.State.{State}
use Rattle.demands.specs.States.{depth, Free}
use Rattle.demands.specs.Registers.{Reaches, selected, physical, Logical, word, word_at, reading}
use Rattle.demands.specs.Demands.{Demand2At, Demand2, Shows, OnlyRecorder}
use Rattle.demands.proofs.Accesses.{access_done, clear_done, host_done}
use Rattle.demands.proofs.Determined.{determined}
use Rattle.demands.proofs.Numbers.{demand_1}
use Rattle.demands.proofs.Pointer.{below}
use Rattle.demands.proofs.Reaching.{reaches_is}
use Rattle.demands.proofs.Tests.{depth_ge}
use Rattle.demands.proofs.Transfers.{transfers}

pub events : (s : State) (e : Event) → Demand2At s e (step_of s e)
events s (Retired w) = transfers s (Retired w) tt
events s (Trap x) = transfers s (Trap x) tt
events s (TrapReturn x) = transfers s (TrapReturn x) tt
events s (Access a) = access_done s a
events s Sctrclr = clear_done s
events s (Host h) = host_done s h

-- logical entry i is where the formula of specs/Registers.antt says, and nowhere else
module _ (r : Registers) (i : ℕ) where
  abbrev d : ℕ
  d = depth r.buffer.code

  one_place : (p : ℕ) → i < d → Logical r i p → p ≡ physical r i
  one_place p l q = ⊎_elim before around (below (p + 1 + i) d)
    where
      before : p + 1 + i < d → p ≡ physical r i
      before b =
          let e : p + 1 + i ≡ r.buffer.wrptr = sym (mod-eq_of_lt b) ∙ q.place in
          let a : r.buffer.wrptr + d - 1 - i ≡ p + d = omega (arith, e, l) in
          sym (ap (λ (x : ℕ). x % d) a ∙ add-mod_right p d ∙ mod-eq_of_lt q.below)

      around : d ≤ p + 1 + i → p ≡ physical r i
      around b =
          let c : p + 1 + i - d < d = omega (arith, l, q.below) in
          let e : p + 1 + i - d ≡ r.buffer.wrptr = sym (mod-eq-sub-mod b ∙ mod-eq_of_lt c) ∙ q.place in
          let a : r.buffer.wrptr + d - 1 - i ≡ p = omega (arith, e, b, l) in
          sym (ap (λ (x : ℕ). x % d) a ∙ mod-eq_of_lt q.below)

  a_place : Free r → i < d → Logical r i (physical r i)
  a_place f l =
      record {
        below = mod-lt _ (omega (arith, depth_ge r.buffer.code));
        place =
            ap (λ (x : ℕ). x % d) sum ∙ mod-add-mod (r.buffer.wrptr + d - 1 - i) d (1 + i) ∙ ap (λ (x : ℕ). x % d) whole
            ∙ add-mod_right r.buffer.wrptr d ∙ mod-eq_of_lt f.pointer;
      }
    where
      sum : physical r i + 1 + i ≡ (r.buffer.wrptr + d - 1 - i) % d + (1 + i)
      sum = omega arith

      whole : r.buffer.wrptr + d - 1 - i + (1 + i) ≡ r.buffer.wrptr + d
      whole = omega (arith, l)

-- so a reading shows it
shows : (s : State) (selection k : ℕ) → Free s.registers → Shows s selection k (word_at s selection k)
shows s selection k f =
    record {
      entry = (λ i p e l q.
          let j : selection - 0x200 ≡ i = omega (arith, e) in
          rw (j, lt-ltb i (depth r.buffer.code) l) (ap (λ (x : ℕ). word (entry_at (entries_in s) x) k) (sym (one_place r i p l q))));
      there_is = (λ i l. (physical r i, a_place r i f l));
      beyond = (λ i e l m.
          let j : selection - 0x200 ≡ i = omega (arith, e) in
          rw (j, le-ltb i (depth r.buffer.code) l));
    }
  where
    r : Registers
    r = s.registers

-- the value of a granted access is the reading of the register that its number reaches
reads : (s : State) (a : CsrAccess) {g : Csr} → Reaches a.number g → (step_of s (Access a)).number ≡ 0
    → (step_of s (Access a)).value ≡ reading s g
reads s a p h =
    let d = access_done s a h in
    d.value ∙ ap (reading s) (sym (reaches_is d.reaches).0 ∙ (reaches_is p).0)

pub demand_2 : Demand2 step_of
demand_2 =
    record {
      events = events;
      ireg = (λ s a v k p h.
          rw (reads s a p h) (shows s (selected s.registers v) k ((demand_1 s (Access a)).zero.0 h).free));
      types = promise.numbers;
    }

pub only_recorder : OnlyRecorder
unfolding reset_state
only_recorder =
    record {
      reset = (λ zc. refl);
      demand_1 = demand_1;
      demand_2 = demand_2;
      only = (λ f a b s e. determined s e (f s e) (step_of s e) (a s e) (b.events s e) (demand_1 s e) (events s e));
    }
