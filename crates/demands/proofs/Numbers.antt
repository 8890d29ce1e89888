-- The definition `step_of` meets demand 1. Assumes nothing.
use Prim.Native.Nat.{ℕ, zero, suc, ◌≤◌}
use mathlib.Core.Path.{◌≡◌, refl, sym, ap, ◌∙◌}
use mathlib.Core.Bool.{Bool, true, false}
use mathlib.Core.Logic.{⊎_elim, ◌↔◌}
use native.Mathlib.Omega.{arith}
use borrow.Author.Tests.{eqb-false}
use Rattle.std.specs.Prelude.{if◌then◌else◌}
use Rattle.bits.proofs.Cases.{known}
use Rattle.machine.specs.Answers.{number_of, refusal_number, refused}
use Rattle.machine.specs.Good.{good_of}
use Rattle.machine.specs.declared.Registers.{Registers}
use Rattle.machine.specs.declared.Entry.{Entry}
use Rattle.machine.specs.declared.Decision.{Decision}
use Rattle.machine.specs.declared.Refusal.{Refusal}
use Rattle.machine.specs.declared.Refusal.TheVariants.{ChangeNotPossible, BadState}
use Rattle.csr.specs.Numbers.{register_of}
use Rattle.csr.specs.Steps.{facts_of, sctrclr_facts}
use Rattle.csr.proofs.Refusals.{refusals}
use Rattle.access.specs.Accesses.{access_of, sctrclr_of, host_of}
use Rattle.access.specs.Laws.{Unchanged}
use Rattle.access.proofs.Laws.{laws}
use Rattle.transfers.specs.Transfers.{done_of, retired_of, taken_trap, trap_of, taken_return, return_of, crossed_of}
use Rattle.machine.specs.declared.Outcome.{Outcome}
use Rattle.machine.specs.declared.Outcome.TheVariants.{Nothing, Record, Pop, Swap, Freeze}
use Rattle.transfers.proofs.Laws.{stays_good}
use Rattle.recorder.specs.Decisions.{event_of, decide_of}
use Rattle.recorder.specs.Entries.{applied_of}
use Rattle.recorder.specs.Events.{type_in}
use Rattle.recorder.specs.Steps.{decided_of, applied_to, step_of}
use Rattle.machine.specs.declared.Event.{Event}
use Rattle.machine.specs.declared.Event.TheVariants.{Retired, Trap, TrapReturn, Access, Sctrclr, Host}
use Rattle.recorder.specs.declared.State.{State}
use Rattle.demands.specs.States.{Free, Impossible}
use Rattle.demands.specs.Demands.{NotRefused, Demand1}
use Rattle.demands.proofs.Decides.{Decides, no}
use Rattle.demands.proofs.Free.{free}
use Rattle.demands.proofs.Steps.{step_number, step_numbers}
use Rattle.demands.proofs.Tests.{traps, returns}

-- which line of the table a decision is on
data Line (r : Registers) (e : Event) (d : Decision) : Type 0 where
  bad : (Free r → ⊥) → d ≡ refused r BadState → Line r e d
  impossible : Free r → Impossible r e → step_number r e ≡ 0 → d ≡ refused r ChangeNotPossible → Line r e d
  step : Free r → (Impossible r e → ⊥) → (step_number r e ≡ 0 → ⊥) → step_number r e ≤ 3
      → d.number ≡ step_number r e → Unchanged r d → Line r e d
  answered : Free r → (Impossible r e → ⊥) → step_number r e ≡ 0 → d.number ≡ 0 → Line r e d

-- an outcome done is answered
done_number : (r : Registers) (old x : Entry) (ra : Bool) (o : Outcome) → (done_of r old x ra o).number ≡ 0
unfolding done_of
done_number r old x ra Nothing = refl
done_number r old x ra Record = refl
done_number r old x ra Pop = refl
done_number r old x ra Swap = refl
done_number r old x ra Freeze = refl

-- a change of mode, by whether it is possible
changed : (r : Registers) (e : Event) (d : Decision) (possible : Bool) {A : Type 0} → Free r → d.number ≡ 0
    → (Impossible r e → A → ⊥) → ((A → ⊥) → Impossible r e) → Decides A possible → step_number r e ≡ 0
    → Line r e (if possible then d else refused r ChangeNotPossible)
changed r e d true f n p q t z = answered f (λ i. p i (t.from refl)) z n
changed r e d false f n p q t z = impossible f (q (no t refl)) z refl

-- an access or SCTRCLR
stepped : (r : Registers) (e : Event) (d : Decision) → Free r → (Impossible r e → ⊥) → step_number r e ≤ 3
    → d.number ≡ step_number r e → ((d.number ≡ 0 → ⊥) → Unchanged r d) → Line r e d
stepped r e d f i l n u =
    ⊎_elim (λ z. answered f i z (n ∙ z))
    (λ z. step f i (eqb-false _ _ z) l n (u (λ h. eqb-false _ _ z (sym n ∙ h))))
    (known (step_number r e) 0)

event_line : (r : Registers) (old : Entry) (e : Event) → Free r → Line r e (event_of r old e)
unfolding event_of retired_of crossed_of trap_of taken_trap return_of taken_return host_of
event_line r old (Retired w) f = answered f (λ i. i) refl (done_number _ old _ _ _)
event_line r old (Trap x) f =
    changed r (Trap x) (taken_trap r old x) _ f (done_number _ old _ _ _) (λ i p. i p) (λ i. i) (traps r.mode x.mode) refl
event_line r old (TrapReturn x) f =
    changed r (TrapReturn x) (taken_return r old x) _ f (done_number _ old _ _ _) (λ i p. i p) (λ i. i) (returns r.mode x.mode) refl
event_line r old (Access a) f =
    stepped r (Access a) (access_of r old a) f (λ i. i) (refusals r (facts_of r (register_of a.number))).no_other
    (laws.access_number r old a) (laws.refused_access r old a)
event_line r old Sctrclr f =
    stepped r Sctrclr (sctrclr_of r) f (λ i. i) (refusals r sctrclr_facts).no_other (laws.clear_number r) (laws.refused_clear r)
event_line r old (Host h) f = answered f (λ i. i) refl refl

line : (r : Registers) (old : Entry) (e : Event) → Line r e (decide_of r old e)
unfolding decide_of
line r old e = go (good_of r) (free r)
  where
    go : (b : Bool) → Decides (Free r) b → Line r e (if b then event_of r old e else refused r BadState)
    go true d = event_line r old e (d.from refl)
    go false d = bad (no d refl) refl

-- a refusal's number, and that nothing else changes
number_is : (r : Registers) (d : Decision) (v : Refusal) → d ≡ refused r v → d.number ≡ refusal_number v
number_is r d v p = ap (λ (x : Decision). x.number) p

unchanged : (r : Registers) (d : Decision) (v : Refusal) → d ≡ refused r v → Unchanged r d
unchanged r d v p = rw p (refl, refl, refl)

-- the lines read off, each both ways
module _ (r : Registers) (e : Event) (d : Decision) where
  zero_to : Line r e d → d.number ≡ 0 → NotRefused r e
  zero_to (bad g p) h = absurd (omega (arith, number_is r d BadState p, h))
  zero_to (impossible g i z p) h = absurd (omega (arith, number_is r d ChangeNotPossible p, h))
  zero_to (step g i z l n u) h = absurd (z (sym n ∙ h))
  zero_to (answered g i z n) h =
      let k = step_numbers r e in
      record {
        free = g;
        legal = (λ a. omega (arith, z, k.is_1.1 a));
        not_virtual = (λ a. omega (arith, z, k.is_2.1 a));
        found = (λ a. omega (arith, z, k.is_3.1 a));
        possible = i;
      }

  zero_from : Line r e d → NotRefused r e → d.number ≡ 0
  zero_from (bad g p) a = absurd (g a.free)
  zero_from (impossible g i z p) a = absurd (a.possible i)
  zero_from (step g i z l n u) a = absurd (one_of (step_number r e) refl l)
    where
      one_of : (k : ℕ) → step_number r e ≡ k → k ≤ 3 → ⊥
      one_of zero h m = z h
      one_of (suc zero) h m = a.legal ((step_numbers r e).is_1.0 h)
      one_of (suc (suc zero)) h m = a.not_virtual ((step_numbers r e).is_2.0 h)
      one_of (suc (suc (suc zero))) h m = a.found ((step_numbers r e).is_3.0 h)
      one_of (suc (suc (suc (suc k)))) h m = omega arith
  zero_from (answered g i z n) a = n

  steps_to : Line r e d → (n : ℕ) → 1 ≤ n → n ≤ 3 → d.number ≡ n → Free r × (step_number r e ≡ n)
  steps_to (bad g p) n k l h = absurd (omega (arith, number_is r d BadState p, h, l))
  steps_to (impossible g i z p) n k l h = absurd (omega (arith, number_is r d ChangeNotPossible p, h, l))
  steps_to (step g i z m q u) n k l h = (g, sym q ∙ h)
  steps_to (answered g i z q) n k l h = absurd (omega (arith, q, h, k))

  steps_from : Line r e d → (n : ℕ) → 1 ≤ n → n ≤ 3 → Free r × (step_number r e ≡ n) → d.number ≡ n
  steps_from (bad g p) n k l h = absurd (g h.0)
  steps_from (impossible g i z p) n k l h = absurd (omega (arith, z, h.1, k))
  steps_from (step g i z m q u) n k l h = q ∙ h.1
  steps_from (answered g i z q) n k l h = absurd (omega (arith, z, h.1, k))

  -- 1, 2 and 3 alike: the sentence that gives the number of a step
  step_line : Line r e d → (n : ℕ) → 1 ≤ n → n ≤ 3 → {A : Type 0} → step_number r e ≡ n ↔ A → d.number ≡ n ↔ (Free r × A)
  step_line t n k l p = (
    (λ h. let a = steps_to t n k l h in (a.0, p.0 a.1)),
    (λ a. steps_from t n k l (a.0, p.1 a.1)),
  )

  four : Line r e d → d.number ≡ 4 ↔ (Free r × Impossible r e)
  four (bad g p) = ((λ h. absurd (omega (arith, number_is r d BadState p, h))), (λ a. absurd (g a.0)))
  four (impossible g i z p) = ((λ h. (g, i)), (λ a. number_is r d ChangeNotPossible p))
  four (step g i z l n u) = ((λ h. absurd (omega (arith, n, l, h))), (λ a. absurd (i a.1)))
  four (answered g i z n) = ((λ h. absurd (omega (arith, n, h))), (λ a. absurd (i a.1)))

  five : Line r e d → d.number ≡ 5 ↔ (Free r → ⊥)
  five (bad g p) = ((λ h f. g f), (λ a. number_is r d BadState p))
  five (impossible g i z p) = ((λ h f. omega (arith, number_is r d ChangeNotPossible p, h)), (λ a. absurd (a g)))
  five (step g i z l n u) = ((λ h f. omega (arith, n, l, h)), (λ a. absurd (a g)))
  five (answered g i z n) = ((λ h f. omega (arith, n, h)), (λ a. absurd (a g)))

  at_most : Line r e d → d.number ≤ 5
  at_most (bad g p) = omega (arith, number_is r d BadState p)
  at_most (impossible g i z p) = omega (arith, number_is r d ChangeNotPossible p)
  at_most (step g i z l n u) = omega (arith, n, l)
  at_most (answered g i z n) = omega (arith, n)

  refusal : Line r e d → (d.number ≡ 0 → ⊥) → Unchanged r d
  refusal (bad g p) h = unchanged r d BadState p
  refusal (impossible g i z p) h = unchanged r d ChangeNotPossible p
  refusal (step g i z l n u) h = u
  refusal (answered g i z n) h = absurd (h n)

-- registers free of number 5 stay so
good_event : (r : Registers) (old : Entry) (e : Event) → good_of r ≡ true → good_of (event_of r old e).registers ≡ true
unfolding event_of
good_event r old (Retired w) g = (stays_good r old).retired (type_in r w) w g
good_event r old (Trap x) g = (stays_good r old).trap x g
good_event r old (TrapReturn x) g = (stays_good r old).trap_return x g
good_event r old (Access a) g = laws.good_access r old a g
good_event r old Sctrclr g = laws.good_clear r g
good_event r old (Host h) g = laws.good_host r h g

good_decided : (r : Registers) (old : Entry) (e : Event) → good_of r ≡ true → good_of (decide_of r old e).registers ≡ true
unfolding decide_of
good_decided r old e g = rw g (good_event r old e g)

unchanged_state : (s : State) (e : Event) → Unchanged s.registers (decided_of s e) → ((step_of s e).value ≡ 0) × ((step_of s e).state ≡ s)
unfolding step_of applied_to applied_of
unchanged_state s e u = (u.0, rw (u.1, u.2))

pub demand_1 : Demand1 step_of
unfolding step_of applied_to decided_of
demand_1 s e =
    let r = s.registers in
    let d = decided_of s e in
    let l : Line r e d = line r _ e in
    let k = step_numbers r e in
    record {
      zero = (zero_to r e d l, zero_from r e d l);
      one = step_line r e d l 1 (omega arith) (omega arith) k.is_1;
      two = step_line r e d l 2 (omega arith) (omega arith) k.is_2;
      three = step_line r e d l 3 (omega arith) (omega arith) k.is_3;
      four = four r e d l;
      five = five r e d l;
      no_other = at_most r e d l;
      refused = (λ h. unchanged_state s e (refusal r e d l h));
      stays_free = (λ f. (free _).from (good_decided r _ e ((free r).to f)));
    }
