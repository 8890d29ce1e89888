-- What `Counted` states. From demands 1 and 2 alone, and the law of the coding. Assumes nothing.
use Prim.Native.Nat.{ℕ, zero, suc, ◌+◌, ◌-◌, ◌*◌, ◌^◌, ◌<◌}
use mathlib.Core.Path.{◌≡◌, refl, sym, ap, subst, ◌∙◌}
use mathlib.Core.Bool.{Bool, true, false}
use native.Mathlib.Omega.{arith}
use borrow.Author.Tests.{ne_eqb}
use Rattle.std.specs.Prelude.{if◌then◌else◌}
use Rattle.bits.specs.Words.{bit_at, field_at}
use Rattle.classifier.specs.Transfers.{transfer_of}
use Rattle.machine.specs.declared.Entry.{Entry}
use Rattle.machine.specs.declared.Registers.{Registers}
use Rattle.machine.specs.declared.Event.{Event}
use Rattle.transfers.specs.Counts.{exponent_of, mantissa_of, decoded_of}
use Rattle.transfers.specs.Laws.{Coding}
use Rattle.transfers.proofs.CountLaws.{coding}
use Rattle.recorder.specs.Entries.{entry_at}
use Rattle.recorder.specs.Steps.{entries_in}
use Rattle.recorder.specs.declared.State.{State}
use Rattle.recorder.specs.declared.Stepped.{Stepped}
use Rattle.demands.specs.Counts.{CCE, CCM, decoded}
use Rattle.demands.specs.Transfers.{RASEMU, counter, ctrdata_of, record_of, with_record, Qualifies}
use Rattle.demands.specs.Transfers.Qualifies.{retired, on_to_on, off_to_on, on_to_off, return, call}
use Rattle.demands.specs.Demands.{Demand2At, TransferAt}
use Rattle.demands.specs.Counted.{count_in, Count, RecordCount, Counted}
use Rattle.demands.proofs.Accesses.{pointer_lt}
use Rattle.demands.proofs.Counts.{cce_is, ccm_is, counter_lt}
use Rattle.demands.proofs.Does.{word_small, trap_small}
use Rattle.demands.proofs.Parts.{parts}

-- ctrdata taken apart
module _ (t ccm cce : ℕ) (type_lt : t < 16) (ccm-lt : ccm < 0x1000) (cce-lt : cce < 16) where
  abbrev joined : Bool → ℕ
  joined v = t + (if v then 0x8000 else 0) + 0x10000 * ccm + 0x10000000 * cce

  cce_in : (v : Bool) → field_at (joined v) 28 4 ≡ cce
  cce_in true = omega (arith, type_lt, ccm-lt, cce-lt)
  cce_in false = omega (arith, type_lt, ccm-lt, cce-lt)

  ccm_in : (v : Bool) → field_at (joined v) 16 12 ≡ ccm
  ccm_in true = omega (arith, type_lt, ccm-lt)
  ccm_in false = omega (arith, type_lt, ccm-lt)

  ccv_in : (v : Bool) → bit_at (joined v) 15 ≡ (if v then 1 else 0)
  ccv_in true = omega (arith, type_lt)
  ccv_in false = omega (arith, type_lt)

decoded_is : (cce ccm : ℕ) → decoded_of cce ccm ≡ decoded cce ccm
unfolding decoded_of
decoded_is zero ccm = refl
decoded_is (suc k) ccm = rw (ne_eqb (suc k) 0 (λ h. omega (arith, h))) (ap (λ (x : ℕ). (0x1000 + ccm) * 2 ^ x) (omega arith))

-- the count of ctrdata with the code of a counter
counted_in : (n x : ℕ) → n < 2 ^ 27 → field_at x 28 4 ≡ CCE n → field_at x 16 12 ≡ CCM n → Count n x
counted_in n x l p q =
    record {
      not_above = rw same law.not_above;
      exact = (λ z. same ∙ law.exact (e ∙ z));
      short_by = (λ k z. rw (same, ← shorter k z) (law.short_by (omega (arith, e, z))));
    }
  where
    law : Coding n
    law = coding n l

    e : exponent_of n ≡ field_at x 28 4
    e = cce_is n l ∙ sym p

    same : count_in x ≡ decoded_of (exponent_of n) (mantissa_of n)
    same = rw (e, ccm_is n l, ← q) (sym (decoded_is (field_at x 28 4) (field_at x 16 12)))

    shorter : (k : ℕ) → field_at x 28 4 ≡ suc k → exponent_of n - 1 ≡ k
    shorter k z = omega (arith, e, z)

-- what is recorded has a type of four bits
typed : {r : Registers} {e : Event} → Qualifies r e → (t : ℕ) × (t < 16) × ((record_of r e).ctrdata ≡ ctrdata_of r e t)
typed (retired {w = w} z x o a) = (_, word_small (transfer_of _ w.word) w.taken, refl)
typed (on_to_on {t = t} p x o m a) = (_, trap_small t.interrupt, refl)
typed (off_to_on {t = t} p x o m a) = (_, trap_small t.interrupt, refl)
typed (on_to_off {t = t} p x o m a) = (_, trap_small t.interrupt, refl)
typed (return p z x o a) = (3, omega arith, refl)
typed (call {w = w} z x o t) = (_, word_small (transfer_of _ w.word) w.taken, refl)

recorded : {r : Registers} {s : State} {e : Event} {t : Stepped} → Qualifies r e → Demand2At s e t → TransferAt s e t
recorded (retired z x o a) d = d
recorded (on_to_on p x o m a) d = d
recorded (off_to_on p x o m a) d = d
recorded (on_to_off p x o m a) d = d
recorded (return p z x o a) d = d
recorded (call z x o t) d = d

plain : (r : Registers) (e : Event) (t : ℕ) → RASEMU r e ≡ 0
    → ctrdata_of r e t ≡ t + (if r.cycles.ccv then 0x8000 else 0) + 0x10000 * CCM (counter r e) + 0x10000000 * CCE (counter r e)
plain r e t x = rw x

pub counted : Counted
counted f a b s e w fr q x =
    let r = s.registers in
    let n = counter r e in
    let l = counter_lt r e in
    let t = typed q in
    let d = recorded q (b.events s e) in
    let state : (f s e).state ≡ with_record s e = d.recorded.0 (d.qualifies.1 (fr, q)) in
    let there : entry_at (entries_in (f s e).state) r.buffer.wrptr ≡ record_of r e =
    ap (λ (u : State). entry_at (entries_in u) r.buffer.wrptr) state ∙ parts.put s r.buffer.wrptr (record_of r e) w (pointer_lt r fr) in
    let c = coding n l in
    let k : CCE n < 16 = subst (λ (y : ℕ). y < 16) (cce_is n l) c.exponent in
    let m : CCM n < 0x1000 = omega arith in
    subst (RecordCount s e)
    (sym (ap (λ (y : Entry). y.ctrdata) there ∙ t.2 ∙ plain r e t.0 x))
    (record {
      count = counted_in n _ l (cce_in t.0 (CCM n) (CCE n) t.1 m k r.cycles.ccv) (ccm_in t.0 (CCM n) (CCE n) t.1 m k r.cycles.ccv);
      valid = ccv_in t.0 (CCM n) (CCE n) t.1 m k r.cycles.ccv;
    })
