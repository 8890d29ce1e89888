-- What a step does with a retired word, a trap or a trap return that is answered: the value and the state of its outcome. Assumes nothing.
use Prim.Native.Nat.{ℕ, ◌%◌, ◌+◌, ◌<◌}
use mathlib.Core.Path.{◌≡◌, refl, ap, ◌∙◌}
use mathlib.Core.Bool.{Bool, true, false}
use native.Mathlib.Nat.{mod-eq_of_lt}
use native.Mathlib.Omega.{arith}
use Rattle.std.specs.Prelude.{if◌then◌else◌}
use Rattle.machine.specs.Answers.{value_of}
use Rattle.machine.specs.Depths.{depth_of, physical_of}
use Rattle.machine.specs.declared.Decision.{Decision}
use Rattle.machine.specs.declared.Entry.{Entry}
use Rattle.machine.specs.declared.Registers.{Registers}
use Rattle.machine.specs.declared.RetiredWord.{RetiredWord}
use Rattle.machine.specs.declared.TrapTo.{TrapTo}
use Rattle.machine.specs.declared.ReturnTo.{ReturnTo}
use Rattle.qualifying.specs.Outcomes.{retired_outcome, trap_outcome, return_outcome, rasemu_of}
use Rattle.transfers.specs.Records as Records
use Rattle.transfers.specs.Records.{entry_for, advanced, retreated}
use Rattle.transfers.specs.Transfers as Done
use Rattle.transfers.specs.Transfers.{done_of, retired_of, in_mode, crossing, taken_trap, trap_of, taken_return, return_of, crossed_of}
use Rattle.machine.specs.declared.Outcome.{Outcome}
use Rattle.machine.specs.declared.Outcome.TheVariants.{Nothing, Record, Pop, Swap, Freeze}
use Rattle.recorder.specs.Decisions.{event_of, decide_of}
use Rattle.recorder.specs.Entries.{entry_at, with_entry, applied_of}
use Rattle.recorder.specs.declared.Entries.{Entries}
use Rattle.recorder.specs.Events.{type_in, at_wrptr, focus_of}
use Rattle.recorder.specs.Steps.{state_of, entries_in, decided_of, applied_to, step_of}
use Rattle.machine.specs.declared.Event.{Event}
use Rattle.machine.specs.declared.Event.TheVariants.{Retired, Trap, TrapReturn, Access, Sctrclr, Host}
use Rattle.recorder.specs.declared.State.{State}
use Rattle.demands.specs.States.{depth, Free, Traps, Returns, Impossible, wrptr_to, mode_to, frozen_to}
use Rattle.demands.specs.Registers.{physical}
use Rattle.demands.specs.Transfers.{record_of, mode_after, without_v, with_record, with_pop, with_swap, with_freeze, with_move, one_up, one_down, Qualifies, Pops, Swaps, trap_type, cycles_of, MISP, entry_of, counted}
use Rattle.demands.proofs.Decides.{holds}
use Rattle.demands.proofs.Free.{free}
use Rattle.demands.proofs.Outcomes.{outcome_in, Says, says}
use Rattle.demands.proofs.Tests.{traps, returns, depth_is, depth_ge, physical_is, side_is}
use Rattle.transfers.specs.Counts.{tallied}
use Rattle.demands.specs.Transfers.Pops.{type_13}
use Rattle.demands.specs.Transfers.Swaps.{type_12}
use Rattle.demands.proofs.Counts.{tally_is, restart_is, record_is, swap_is}
use Rattle.classifier.specs.Transfers.{transfer_of, type_of}
use Rattle.classifier.specs.declared.Transfer.{Transfer}
use Rattle.classifier.specs.declared.Transfer.TheVariants.{None, Branch, IndirectCall, DirectCall, IndirectJump, DirectJump, CoroutineSwap, FunctionReturn, OtherIndirectJump, OtherDirectJump}
use Rattle.machine.specs.declared.Mode.{Mode}

-- retired words, traps and trap returns
abbrev pub IsTransfer : Event → Type 0
IsTransfer (Retired w) = Unit {0}
IsTransfer (Trap t) = Unit {0}
IsTransfer (TrapReturn t) = Unit {0}
IsTransfer (Access a) = ⊥
IsTransfer Sctrclr = ⊥
IsTransfer (Host h) = ⊥

-- the state after an outcome
abbrev pub state_for : State → Event → Outcome → State
state_for s e Nothing = with_move s e
state_for s e Record = with_record s e
state_for s e Pop = with_pop s e
state_for s e Swap = with_swap s e
state_for s e Freeze = with_freeze s e

-- a decision on the entry at an index has an outcome's value and state
abbrev Does : State → Event → Decision → ℕ → Outcome → Type 0
Does s e d at o =
    (d.value ≡ value_of o) × (state_of d.registers (applied_of (entries_in s) d.effect at) ≡ state_for s e o)

-- WRPTR is below the depth
at_pointer : (r : Registers) → Free r → r.buffer.wrptr % depth_of r.buffer.code ≡ r.buffer.wrptr
at_pointer r f = rw (depth_is r.buffer.code) (mod-eq_of_lt f.pointer)

at_newest : (r : Registers) → physical_of r.buffer.code r.buffer.wrptr 0 ≡ physical r 0
at_newest r = physical_is r 0 (omega (arith, depth_ge r.buffer.code))

-- WRPTR goes down to where logical entry 0 is
down_is : (r : Registers) → physical r 0 ≡ one_down r
down_is r = ap (λ (x : ℕ). x % depth r.buffer.code) (omega arith)

up_is : (r : Registers) → Free r → (r.buffer.wrptr % depth_of r.buffer.code + 1) % depth_of r.buffer.code ≡ one_up r
up_is r f = rw (at_pointer r f, depth_is r.buffer.code)

-- only retired words pop and swap, and they stay in their mode
abbrev IsWord : Event → Type 0
IsWord (Retired w) = Unit {0}
IsWord (Trap t) = ⊥
IsWord (TrapReturn t) = ⊥
IsWord (Access a) = ⊥
IsWord Sctrclr = ⊥
IsWord (Host h) = ⊥

pops : {r : Registers} {e : Event} → Pops r e → IsWord e × (mode_after r e ≡ r.mode)
pops (type_13 z x o t) = (tt, refl)

swaps : {r : Registers} {e : Event} → Swaps r e → IsWord e × (mode_after r e ≡ r.mode)
swaps (type_12 z x o t) = (tt, refl)

-- an outcome done where the rules say so, with the record that has the type t, these addresses and the flag m
module _ (s : State) (e : Event) (f : Free s.registers) (a b : ℕ) (m : Bool) (flagged : (if m then 1 else 0) ≡ MISP e) (t : ℕ) (small : t < 16)
    (same : entry_of s.registers e a b t ≡ record_of s.registers e) where
  abbrev r : Registers
  r = s.registers

  abbrev decision : Entry → Outcome → Decision
  decision old o =
      let ra = rasemu_of r r.mode (mode_after r e) in
      in_mode (done_of (tallied r ra (cycles_of e)) old (entry_for a b m t) ra o) (mode_after r e)

  -- the registers, by the counter that the event finds or leaves
  moved : (g : Registers → Registers) {x y : Registers} → x ≡ y → (w : Entries) → state_of (g x) w ≡ state_of (g y) w
  moved g h w = ap (λ (x : Registers). state_of (g x) w) h

  -- where the mode stays
  stayed : (g : Registers → Registers) → mode_after r e ≡ r.mode → (w : Entries)
      → state_of (mode_to (mode_after r e) (g (tallied r (rasemu_of r r.mode (mode_after r e)) (cycles_of e)))) w
      ≡ state_of (mode_to r.mode (g (counted r e))) w
  stayed g h w =
      moved (λ (x : Registers). mode_to (mode_after r e) (g x)) (tally_is r e f) w
      ∙ ap (λ (m : Mode). state_of (mode_to m (g (counted r e))) w) h

  nothing : (old : Entry) (at : ℕ) → Does s e (decision old Nothing) at Nothing
  unfolding done_of applied_of
  nothing old at = (refl, moved (mode_to (mode_after r e)) (tally_is r e f) (entries_in s))

  freeze : (old : Entry) (at : ℕ) → Does s e (decision old Freeze) at Freeze
  unfolding done_of applied_of
  freeze old at = (refl, moved (λ (x : Registers). mode_to (mode_after r e) (frozen_to true x)) (tally_is r e f) (entries_in s))

  recorded : Qualifies r e → (old : Entry) → Does s e (decision old Record) (at_wrptr r.buffer) Record
  unfolding done_of applied_of advanced
  recorded q old = (
    refl,
    rw (up_is r f, at_pointer r f, record_is r e f t small a b m flagged q, ← same)
        (moved (λ (x : Registers). mode_to (mode_after r e) (wrptr_to (one_up r) x)) (restart_is r e f) (with_entry (entries_in s) r.buffer.wrptr (entry_of r e a b t))),
  )

  popped : Pops r e → (let p = physical_of r.buffer.code r.buffer.wrptr 0 in Does s e (decision (entry_at (entries_in s) p) Pop) p Pop)
  unfolding done_of applied_of retreated Records.popped
  popped q = (
    refl,
    rw (at_newest r, down_is r)
        (stayed (wrptr_to (one_down r)) (pops q).1 (with_entry (entries_in s) (one_down r) (without_v (entry_at (entries_in s) (one_down r))))),
  )

  swapped : Swaps r e → (old : Entry) → Does s e (decision old Swap) (physical_of r.buffer.code r.buffer.wrptr 0) Swap
  unfolding done_of applied_of
  swapped q old = (
    refl,
    rw (at_newest r, swap_is r e f t small a b m flagged q, ← same)
        (stayed (λ (x : Registers). x) (swaps q).1 (with_entry (entries_in s) (physical r 0) (entry_of r e a b t))),
  )

  -- on the entry that the outcome is about
  does : (o : Outcome) → Says r e o
      → (let at = Done.outcome_focus r.buffer o in Does s e (decision (entry_at (entries_in s) at) o) at o)
  unfolding Done.outcome_focus
  does Nothing h = nothing _ _
  does Record h = recorded h _
  does Pop h = popped h
  does Swap h = swapped h _
  does Freeze h = freeze _ _

  -- of a trap or return it is the one at WRPTR
  crosses : (IsWord e → ⊥) → (o : Outcome) → Says r e o
      → (let at = at_wrptr r.buffer in Does s e (decision (entry_at (entries_in s) at) o) at o)
  crosses n Nothing h = nothing _ _
  crosses n Record h = recorded h _
  crosses n Pop h = absurd (n (pops h).0)
  crosses n Swap h = absurd (n (swaps h).0)
  crosses n Freeze h = freeze _ _

-- a retired word's mode stays
stays : (r : Registers) (old e : Entry) (ra : Bool) (n : ℕ) (o : Outcome)
    → in_mode (done_of (tallied r ra n) old e ra o) r.mode ≡ done_of (tallied r ra n) old e ra o
unfolding done_of advanced retreated
stays r old e ra n Nothing = refl
stays r old e ra n Record = refl
stays r old e ra n Pop = refl
stays r old e ra n Swap = refl
stays r old e ra n Freeze = refl

-- a type has four bits
pub word_small : (t : Transfer) (taken : Bool) → type_of t taken < 16
word_small None taken = omega arith
word_small Branch true = omega arith
word_small Branch false = omega arith
word_small IndirectCall taken = omega arith
word_small DirectCall taken = omega arith
word_small IndirectJump taken = omega arith
word_small DirectJump taken = omega arith
word_small CoroutineSwap taken = omega arith
word_small FunctionReturn taken = omega arith
word_small OtherIndirectJump taken = omega arith
word_small OtherDirectJump taken = omega arith

pub trap_small : (interrupt : Bool) → trap_type interrupt < 16
trap_small true = omega arith
trap_small false = omega arith

-- what a step does with an event that is answered
abbrev pub Steps : State → Event → Type 0
Steps s e =
    ((step_of s e).value ≡ value_of (outcome_in s.registers e)) × ((step_of s e).state ≡ state_for s e (outcome_in s.registers e))

retired_steps : (s : State) (w : RetiredWord) → Free s.registers → Steps s (Retired w)
unfolding step_of applied_to decided_of decide_of event_of focus_of retired_of outcome_in type_in
retired_steps s w f =
    let r = s.registers in
    let o = retired_outcome r (type_in r w) in
    rw ((free r).to f, ← stays r (entry_at (entries_in s) (Done.outcome_focus r.buffer o)) (entry_for w.pc w.target w.mispredicted (type_in r w)) (rasemu_of r r.mode r.mode) w.cycles o)
    (does s (Retired w) f w.pc w.target w.mispredicted refl (type_in r w) (word_small (transfer_of r.constants.zc w.word) w.taken) refl o (says r (Retired w)))

trap_steps : (s : State) (t : TrapTo) → Free s.registers → Traps s.registers.mode t.mode → Steps s (Trap t)
unfolding step_of applied_to decided_of decide_of event_of focus_of trap_of taken_trap crossed_of crossing outcome_in
trap_steps s t f p =
    let r = s.registers in
    let g = (traps r.mode t.mode).to p in
    rw ((free r).to f, g, side_is r r.mode t.epc, side_is r t.mode t.handler)
    (crosses s (Trap t) f _ _ false refl (trap_type t.interrupt) (trap_small t.interrupt) refl (λ x. x) (trap_outcome r t) (rw g at (says r (Trap t))))

return_steps : (s : State) (t : ReturnTo) → Free s.registers → Returns s.registers.mode t.mode → Steps s (TrapReturn t)
unfolding step_of applied_to decided_of decide_of event_of focus_of return_of taken_return crossed_of crossing outcome_in
return_steps s t f p =
    let r = s.registers in
    let g = (returns r.mode t.mode).to p in
    rw ((free r).to f, g, side_is r r.mode t.pc, side_is r t.mode t.target)
    (crosses s (TrapReturn t) f _ _ false refl 3 (omega arith) refl (λ x. x) (return_outcome r t.mode) (rw g at (says r (TrapReturn t))))

-- what is done with an event that is not refused
pub steps : (s : State) (e : Event) → IsTransfer e → Free s.registers → (Impossible s.registers e → ⊥) → Steps s e
steps s (Retired w) k f i = retired_steps s w f
steps s (Trap t) k f i = trap_steps s t f (holds (traps s.registers.mode t.mode) i)
steps s (TrapReturn t) k f i = return_steps s t f (holds (returns s.registers.mode t.mode) i)
steps s (Access a) k f i = absurd k
steps s Sctrclr k f i = absurd k
steps s (Host h) k f i = absurd k
