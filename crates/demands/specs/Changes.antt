-- A stored entry changes in no other way than by a record, a popped return, a swap in place, a granted write or the clear
-- instruction: a corollary of demands 1 and 2, of any recorder. What it holds then is in the end states of demand 2.
use Rattle.std.specs.Prelude.{ℕ, ◌+◌, ◌<◌, ◌≡◌, ◌⊎◌}
use Rattle.machine.specs.declared.Registers.{Registers}
use Rattle.csr.specs.declared.Csr.{Csr}
use Rattle.csr.specs.declared.Csr.TheVariants.{Ireg}
use Rattle.csr.specs.declared.View.{View}
use Rattle.machine.specs.declared.CsrAccess.{CsrAccess}
use Rattle.machine.specs.declared.Operation.{Operation}
use Rattle.machine.specs.declared.Operation.TheVariants.{Write, Set, Clear}
use Rattle.recorder.specs.Entries.{entry_at}
use Rattle.recorder.specs.Steps.{entries_in}
use Rattle.machine.specs.declared.Event.{Event}
use Rattle.machine.specs.declared.Event.TheVariants.{Access, Sctrclr}
use Rattle.recorder.specs.declared.State.{State}
use Rattle.demands.specs.States.{depth, Free}
use Rattle.demands.specs.Registers.{Reaches, selected, physical}
use Rattle.demands.specs.Transfers.{Qualifies, Pops, Swaps}
use Rattle.recorder.specs.Runs.{Recorder}
use Rattle.demands.specs.Demands.{NotRefused, Demand1, Demand2}

-- an operation that writes
pub data Writes : Operation → Type 0 where
  write : Writes Write
  set_bits : Writes Set
  clear_bits : Writes Clear

-- an ireg selects a physical entry: its word is one of the three, and its selection 0x200 + i, i below the depth
pub data SelectsEntry (r : Registers) : Csr → ℕ → Type 0 where
  ireg : {v : View} {k i : ℕ} → k < 3 → selected r v ≡ 0x200 + i → i < depth r.buffer.code → SelectsEntry r (Ireg v k) (physical r i)

-- what may change physical entry i
pub data Cause (r : Registers) (i : ℕ) : Event → Type 0 where
  recorded : {e : Event} → Free r → Qualifies r e → i ≡ r.buffer.wrptr → Cause r i e
  popped : {e : Event} → Free r → Pops r e → i ≡ physical r 0 → Cause r i e
  swapped : {e : Event} → Free r → Swaps r e → i ≡ physical r 0 → Cause r i e
  written : {a : CsrAccess} {g : Csr}
      → NotRefused r (Access a) → Writes a.operation → Reaches a.number g → SelectsEntry r g i → Cause r i (Access a)
  cleared : NotRefused r Sctrclr → Cause r i Sctrclr

abbrev pub Accounted : Type 0
Accounted =
    (f : Recorder) → Demand1 f → Demand2 f → (s : State) (e : Event) (i : ℕ)
    → (entry_at (entries_in (f s e).state) i ≡ entry_at (entries_in s) i) ⊎ Cause s.registers i e
