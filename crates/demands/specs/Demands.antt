-- Demands 1 and 2 of any recorder at all, by the rules of States, Registers, Steps and Transfers alone; and that they leave no choice.
use Rattle.std.specs.Prelude.{ℕ, ◌+◌, ◌≤◌, ◌<◌, ◌≡◌, Bool, ◌↔◌}
use Rattle.classifier.specs.Promise.{HasType, word_type}
use Rattle.machine.specs.declared.Registers.{Registers}
use Rattle.csr.specs.declared.Csr.{Csr}
use Rattle.csr.specs.declared.Csr.TheVariants.{Ireg}
use Rattle.csr.specs.declared.View.{View}
use Rattle.machine.specs.declared.CsrAccess.{CsrAccess}
use Rattle.recorder.specs.Entries.{entry_at}
use Rattle.recorder.specs.Steps.{entries_in, step_of, reset_state}
use Rattle.machine.specs.declared.Event.{Event}
use Rattle.machine.specs.declared.Event.TheVariants.{Retired, Trap, TrapReturn, Access, Sctrclr, Host}
use Rattle.recorder.specs.declared.State.{State}
use Rattle.recorder.specs.declared.Stepped.{Stepped}
use Rattle.demands.specs.States.{depth, Free, Impossible, start}
use Rattle.demands.specs.Registers.{Reaches, selected, Logical, word, reading, written, with_zeros, with_enables}
use Rattle.demands.specs.Steps.{Illegal, Virtual, Missing}
use Rattle.demands.specs.Transfers.{Freezes, Qualifies, Pops, Swaps, with_record, with_pop, with_swap, with_freeze, with_move}
use Rattle.recorder.specs.Runs.{Recorder}

-- none of the lines of the table of numbers but the first applies
pub record NotRefused (r : Registers) (e : Event) : Type 0 where
  pub free : Free r
  pub legal : Illegal r e → ⊥
  pub not_virtual : Virtual r e → ⊥
  pub found : Missing r e → ⊥
  pub possible : Impossible r e → ⊥

-- demand 1 of the result t at a state and an event
pub record Demand1At (s : State) (e : Event) (t : Stepped) : Type 0 where
  -- each number exactly when its line says, 5 before all others, and no number but these
  pub zero : t.number ≡ 0 ↔ NotRefused s.registers e
  pub one : t.number ≡ 1 ↔ (Free s.registers × Illegal s.registers e)
  pub two : t.number ≡ 2 ↔ (Free s.registers × Virtual s.registers e)
  pub three : t.number ≡ 3 ↔ (Free s.registers × Missing s.registers e)
  pub four : t.number ≡ 4 ↔ (Free s.registers × Impossible s.registers e)
  pub five : t.number ≡ 5 ↔ (Free s.registers → ⊥)
  pub no_other : t.number ≤ 5
  -- refused means value 0 and the state unchanged
  pub refused : (t.number ≡ 0 → ⊥) → (t.value ≡ 0) × (t.state ≡ s)
  -- every answered event from a state free of 5 ends in one
  pub stays_free : Free s.registers → Free t.state.registers

-- of retired words, traps and trap returns
pub record TransferAt (s : State) (e : Event) (t : Stepped) : Type 0 where
  -- each value exactly when its rule says, and no value but these
  pub qualifies : t.value ≡ 1 ↔ (Free s.registers × Qualifies s.registers e)
  pub pops : t.value ≡ 2 ↔ (Free s.registers × Pops s.registers e)
  pub swaps : t.value ≡ 3 ↔ (Free s.registers × Swaps s.registers e)
  pub freezes : t.value ≡ 4 ↔ (Free s.registers × Freezes s.registers e)
  pub no_other : t.value ≤ 4
  -- value 1 exactly if an entry and WRPTR changed as described, and 2 likewise
  pub recorded : t.value ≡ 1 ↔ (t.state ≡ with_record s e)
  pub popped : t.value ≡ 2 ↔ (t.state ≡ with_pop s e)
  -- of 3 and 4 the state alone can't tell: the words, or FROZEN, may have been there already
  pub swapped : t.value ≡ 3 → t.state ≡ with_swap s e
  pub frozen : t.value ≡ 4 → t.state ≡ with_freeze s e
  -- nothing: the mode changes, and what counts, alone
  pub nothing : t.number ≡ 0 → t.value ≡ 0 → t.state ≡ with_move s e

-- of an access that is granted: it reaches a register by its number, the value is the old reading, and the state is the one written
pub record GrantedAt (s : State) (a : CsrAccess) (t : Stepped) : Type 0 where
  pub register : Csr
  pub reaches : Reaches a.number register
  pub value : t.value ≡ reading s register
  pub state : t.state ≡ written s a.operation register a.operand

-- demand 2 of the result t. SCTRCLR zeroes all entry words, and the host sets the two bits
abbrev pub Demand2At : State → Event → Stepped → Type 0
Demand2At s (Retired w) t = TransferAt s (Retired w) t
Demand2At s (Trap x) t = TransferAt s (Trap x) t
Demand2At s (TrapReturn x) t = TransferAt s (TrapReturn x) t
Demand2At s (Access a) t = t.number ≡ 0 → GrantedAt s a t
Demand2At s Sctrclr t = t.number ≡ 0 → (t.value ≡ 0) × (t.state ≡ with_zeros s)
Demand2At s (Host h) t = t.number ≡ 0 → (t.value ≡ 0) × (t.state ≡ with_enables h s)

-- what an ireg shows as word k under a selection: at 0x200 + i, for i below the depth, logical entry i, and there is one; from the
-- depth to 255 it reads 0
pub record Shows (s : State) (selection k value : ℕ) : Type 0 where
  pub entry : (i p : ℕ) → selection ≡ 0x200 + i → i < depth s.registers.buffer.code → Logical s.registers i p
      → value ≡ word (entry_at (entries_in s) p) k
  pub there_is : (i : ℕ) → i < depth s.registers.buffer.code → (p : ℕ) × Logical s.registers i p
  pub beyond : (i : ℕ) → selection ≡ 0x200 + i → depth s.registers.buffer.code ≤ i → i ≤ 255 → value ≡ 0

abbrev pub Demand1 : Recorder → Type 0
Demand1 f = (s : State) (e : Event) → Demand1At s e (f s e)

pub record Demand2 (f : Recorder) : Type 0 where
  pub events : (s : State) (e : Event) → Demand2At s e (f s e)
  pub ireg : (s : State) (a : CsrAccess) (v : View) (k : ℕ) → Reaches a.number (Ireg v k) → (f s (Access a)).number ≡ 0
      → Shows s (selected s.registers v) k (f s (Access a)).value
  -- the type of a retired word is the number of its row in the table of words, by the classifier's promise, with the switch of Zcmp
  -- and Zcmt on or off
  pub types : (zc : Bool) (w : ℕ) (taken : Bool) (n : ℕ) → word_type zc w taken ≡ n ↔ HasType zc w taken n

-- the rules leave no choice: at every state, whole or not, and every event, two results that meet both demands are equal
abbrev pub Determined : Type 0
Determined =
    (s : State) (e : Event) (t u : Stepped) → Demand1At s e t → Demand2At s e t → Demand1At s e u → Demand2At s e u → t ≡ u

-- so there is one recorder that meets both, and it is `step_of`; it starts where the rules say
pub record OnlyRecorder : Type 0 where
  pub reset : (zc : Bool) → reset_state zc ≡ start zc
  pub demand_1 : Demand1 step_of
  pub demand_2 : Demand2 step_of
  pub only : (f : Recorder) → Demand1 f → Demand2 f → (s : State) (e : Event) → f s e ≡ step_of s e
