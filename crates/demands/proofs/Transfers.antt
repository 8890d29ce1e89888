-- The definition `step_of` meets demand 2 at retired words, traps and trap returns. Assumes nothing.
use Prim.Native.Nat.{ℕ, zero, suc, ◌≤◌}
use mathlib.Core.Path.{◌≡◌, refl, sym, ap, subst, ◌∙◌}
use mathlib.Core.Logic.{◌⊎◌, inl, inr, ⊎_elim, ◌↔◌}
use native.Mathlib.Omega.{arith}
use Rattle.machine.specs.Answers.{value_of}
use Rattle.machine.specs.declared.Registers.{Registers}
use Rattle.machine.specs.declared.Outcome.{Outcome}
use Rattle.machine.specs.declared.Outcome.TheVariants.{Nothing, Record, Pop, Swap, Freeze}
use Rattle.recorder.specs.Steps.{step_of}
use Rattle.machine.specs.declared.Event.{Event}
use Rattle.machine.specs.declared.Event.TheVariants.{Retired, Trap, TrapReturn, Access, Sctrclr, Host}
use Rattle.recorder.specs.declared.State.{State}
use Rattle.demands.specs.States.{depth, Free, Impossible}
use Rattle.demands.specs.Transfers.{one_up, one_down, with_record, with_pop}
use Rattle.demands.specs.Demands.{Demand1At, TransferAt}
use Rattle.demands.proofs.Decides.{fails, or_not}
use Rattle.demands.proofs.Free.{free}
use Rattle.demands.proofs.Numbers.{demand_1}
use Rattle.demands.proofs.Outcomes.{outcome_in, Says, says, qualifies_outcome, pops_outcome, swaps_outcome, freezes_outcome}
use Rattle.demands.proofs.Pointer.{up_moves, down_moves, up_is_not_down}
use Rattle.demands.proofs.Tests.{traps, returns, depth_ge}
use Rattle.demands.proofs.Does.{IsTransfer, state_for, Steps, steps}

-- the outcome of a value
abbrev with_value : ℕ → Outcome
with_value zero = Nothing
with_value (suc zero) = Record
with_value (suc (suc zero)) = Pop
with_value (suc (suc (suc zero))) = Swap
with_value (suc (suc (suc (suc n)))) = Freeze

value_back : (o : Outcome) → with_value (value_of o) ≡ o
value_back Nothing = refl
value_back Record = refl
value_back Pop = refl
value_back Swap = refl
value_back Freeze = refl

same_outcome : (o p : Outcome) → value_of o ≡ value_of p → o ≡ p
same_outcome o p h = sym (value_back o) ∙ ap with_value h ∙ value_back p

value_le : (o : Outcome) → value_of o ≤ 4
value_le Nothing = omega arith
value_le Record = omega arith
value_le Pop = omega arith
value_le Swap = omega arith
value_le Freeze = omega arith

-- nothing comes of an impossible change of mode
impossible_nothing : (r : Registers) (e : Event) → Impossible r e → outcome_in r e ≡ Nothing
unfolding outcome_in
impossible_nothing r (Retired w) i = absurd i
impossible_nothing r (Trap t) i = rw (fails (traps r.mode t.mode) i)
impossible_nothing r (TrapReturn t) i = rw (fails (returns r.mode t.mode) i)
impossible_nothing r (Access a) i = absurd i
impossible_nothing r Sctrclr i = absurd i
impossible_nothing r (Host h) i = absurd i

-- whether a change of mode is impossible, by whether it is possible
impossible_or : {A : Type 0} → A ⊎ (A → ⊥) → (A → ⊥) ⊎ ((A → ⊥) → ⊥)
impossible_or p = ⊎_elim (λ a. inr (λ i. i a)) (λ n. inl n) p

impossible_or_not : (r : Registers) (e : Event) → Impossible r e ⊎ (Impossible r e → ⊥)
impossible_or_not r (Retired w) = inr (λ i. i)
impossible_or_not r (Trap t) = impossible_or (or_not (traps r.mode t.mode))
impossible_or_not r (TrapReturn t) = impossible_or (or_not (returns r.mode t.mode))
impossible_or_not r (Access a) = inr (λ i. i)
impossible_or_not r Sctrclr = inr (λ i. i)
impossible_or_not r (Host h) = inr (λ i. i)

-- the state after tells a record and a pop from all else, by WRPTR
module _ (s : State) (e : Event) where
  abbrev r : Registers
  r = s.registers

  abbrev pointer : State → ℕ
  pointer t = t.registers.buffer.wrptr

  stands_up : {A : Type 0} → r.buffer.wrptr ≡ one_up r → A
  stands_up h = absurd (up_moves r.buffer.wrptr (depth r.buffer.code) (omega (arith, depth_ge r.buffer.code)) h)

  stands_down : {A : Type 0} → r.buffer.wrptr ≡ one_down r → A
  stands_down h = absurd (down_moves r.buffer.wrptr (depth r.buffer.code) (omega (arith, depth_ge r.buffer.code)) h)

  up_down : {A : Type 0} → Free r → one_up r ≡ one_down r → A
  up_down f h = absurd (up_is_not_down r.buffer.wrptr (depth r.buffer.code) (omega (arith, depth_ge r.buffer.code)) f.pointer h)

  is_record : Free r → (o : Outcome) → state_for s e o ≡ with_record s e → o ≡ Record
  is_record f Nothing h = stands_up (ap pointer h)
  is_record f Record h = refl
  is_record f Pop h = up_down f (sym (ap pointer h))
  is_record f Swap h = stands_up (ap pointer h)
  is_record f Freeze h = stands_up (ap pointer h)

  is_pop : Free r → (o : Outcome) → state_for s e o ≡ with_pop s e → o ≡ Pop
  is_pop f Nothing h = stands_down (ap pointer h)
  is_pop f Record h = up_down f (ap pointer h)
  is_pop f Pop h = refl
  is_pop f Swap h = stands_down (ap pointer h)
  is_pop f Freeze h = stands_down (ap pointer h)

-- an event that is refused: nothing comes of it
refused_transfers : (s : State) (e : Event) → (Free s.registers → outcome_in s.registers e ≡ Nothing)
    → (step_of s e).value ≡ 0 → (step_of s e).state ≡ s → ((step_of s e).number ≡ 0 → ⊥) → TransferAt s e (step_of s e)
refused_transfers s e z v t n =
    record {
      qualifies = never Record qualifies_outcome (omega arith);
      pops = never Pop pops_outcome (omega arith);
      swaps = never Swap swaps_outcome (omega arith);
      freezes = never Freeze freezes_outcome (omega arith);
      no_other = omega (arith, v);
      recorded = ((λ h. absurd (omega (arith, v, h))), (λ h. stands_up s e (ap (λ (x : State). x.registers.buffer.wrptr) (sym t ∙ h))));
      popped = ((λ h. absurd (omega (arith, v, h))), (λ h. stands_down s e (ap (λ (x : State). x.registers.buffer.wrptr) (sym t ∙ h))));
      swapped = (λ h. absurd (omega (arith, v, h)));
      frozen = (λ h. absurd (omega (arith, v, h)));
      nothing = (λ h k. absurd (n h));
    }
  where
    never : (o : Outcome) {A : Type 0} → (A → outcome_in s.registers e ≡ o) → 1 ≤ value_of o
        → (step_of s e).value ≡ value_of o ↔ (Free s.registers × A)
    never o q l = (
      (λ h. absurd (omega (arith, v, h, l))),
      (λ a. absurd (omega (arith, l, ap value_of (sym (z a.0) ∙ q a.1)))),
    )

-- an event that is answered: each value by its outcome
answered_transfers : (s : State) (e : Event) → Free s.registers → Steps s e → TransferAt s e (step_of s e)
answered_transfers s e f p =
    record {
      qualifies = line Record qualifies_outcome;
      pops = line Pop pops_outcome;
      swaps = line Swap swaps_outcome;
      freezes = line Freeze freezes_outcome;
      no_other = rw v (value_le o);
      recorded = (ended Record, (λ h. v ∙ ap value_of (is_record s e f o (sym t ∙ h))));
      popped = (ended Pop, (λ h. v ∙ ap value_of (is_pop s e f o (sym t ∙ h))));
      swapped = ended Swap;
      frozen = ended Freeze;
      nothing = (λ n h. ended Nothing h);
    }
  where
    o : Outcome
    o = outcome_in s.registers e

    v : (step_of s e).value ≡ value_of o
    v = p.0

    t : (step_of s e).state ≡ state_for s e o
    t = p.1

    is : (q : Outcome) → (step_of s e).value ≡ value_of q → o ≡ q
    is q h = same_outcome o q (sym v ∙ h)

    line : (q : Outcome) → (Says s.registers e q → o ≡ q) → (step_of s e).value ≡ value_of q ↔ (Free s.registers × Says s.registers e q)
    line q back = ((λ h. (f, subst (Says s.registers e) (is q h) (says s.registers e))), (λ a. v ∙ ap value_of (back a.1)))

    ended : (q : Outcome) → (step_of s e).value ≡ value_of q → (step_of s e).state ≡ state_for s e q
    ended q h = t ∙ ap (state_for s e) (is q h)

pub transfers : (s : State) (e : Event) → IsTransfer e → TransferAt s e (step_of s e)
transfers s e k = ⊎_elim good bad (or_not (free s.registers))
  where
    d : Demand1At s e (step_of s e)
    d = demand_1 s e

    refused : (n : ℕ) → 1 ≤ n → (step_of s e).number ≡ n → (Free s.registers → outcome_in s.registers e ≡ Nothing)
        → TransferAt s e (step_of s e)
    refused n l h q =
        let p : (step_of s e).number ≡ 0 → ⊥ = λ a. omega (arith, l, h, a) in
        refused_transfers s e q (d.refused p).0 (d.refused p).1 p

    good : Free s.registers → TransferAt s e (step_of s e)
    good f =
        ⊎_elim
        (λ i. refused 4 (omega arith) (d.four.1 (f, i)) (λ q. impossible_nothing s.registers e i))
        (λ i. answered_transfers s e f (steps s e k f i))
        (impossible_or_not s.registers e)

    bad : (Free s.registers → ⊥) → TransferAt s e (step_of s e)
    bad n = refused 5 (omega arith) (d.five.1 n) (λ f. absurd (n f))
