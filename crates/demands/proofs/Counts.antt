-- The cycle counter and the count of a record, by the definitions and by the rules of specs/. Assumes nothing.
use Prim.Native.Nat.{ℕ, zero, suc, ◌+◌, ◌-◌, ◌*◌, ◌/◌, ◌%◌, ◌^◌, ◌≤◌, ◌<◌, min}
use mathlib.Core.Path.{◌≡◌, refl, ap, subst, ◌∙◌}
use mathlib.Core.Bool.{Bool, true, false, not, ◌&&◌}
use mathlib.Core.Logic.{◌⊎◌, inl, inr, ⊎_elim}
use native.Mathlib.Nat.{div-eq_of_lt}
use native.Mathlib.Omega.{arith}
use lib.Dec.{eqb, ltb}
use lib.Pow.{shr_lt, shr_mono, shl-shr}
use borrow.Author.Tests.{eqb-true, eqb-false, ltb-false}
use Rattle.std.specs.Prelude.{if◌then◌else◌}
use Rattle.bits.specs.Words.{bit_at, field_at}
use Rattle.machine.specs.Modes.{on_of}
use Rattle.machine.specs.Regs.{with_cycles}
use Rattle.machine.specs.declared.Cycles.{Cycles}
use Rattle.machine.specs.declared.Entry.{Entry}
use Rattle.machine.specs.declared.Mode.{Mode}
use Rattle.machine.specs.declared.Registers.{Registers}
use Rattle.machine.specs.declared.Event.{Event}
use Rattle.qualifying.specs.Outcomes.{rasemu_of, live_of}
use Rattle.transfers.specs.Counts as Counts
use Rattle.transfers.specs.Counts.{exponent_of, mantissa_of, cc_of, tallied, stamped}
use Rattle.transfers.specs.Records.{entry_for}
use Rattle.transfers.proofs.CountLaws.{top, powers_lt}
use Rattle.demands.specs.States.{Free}
use Rattle.demands.specs.Counts.{top_bit, CCE, CCM}
use Rattle.demands.specs.Transfers.{switch, mode_after, RASEMU, Qualifies, Swaps, cycles_of, counts, counter, counted, restarted, ctrdata_of, MISP, entry_of}
use Rattle.demands.specs.Transfers.Qualifies.{retired, on_to_on, off_to_on, on_to_off, return, call}
use Rattle.demands.specs.Transfers.Swaps.{type_12}
use Rattle.demands.specs.Rows.{flag}
use Rattle.demands.proofs.Pointer.{below}
use Rattle.demands.proofs.Tests.{mode, rasemu}

-- 1. The coding. The bit that is looked for is the top one: the number reaches its power of two, and not the next.
module _ (n k : ℕ) where
  bit_set : bit_at n k ≡ 1 → 2 ^ k ≤ n
  bit_set h = ⊎_elim (λ l. absurd (omega (arith, h, div-eq_of_lt l))) (λ l. l) (below n (2 ^ k))

  bit_reached : 2 ^ k ≤ n → n < 2 ^ suc k → bit_at n k ≡ 1
  bit_reached l h =
      let a : n / 2 ^ k < 2 = shr_lt 1 k (subst (λ (x : ℕ). n < 2 ^ x) (omega arith) h) in
      let b : 1 * 2 ^ k / 2 ^ k ≤ n / 2 ^ k = shr_mono k (omega (arith, l)) in
      omega (arith, a, b, shl-shr 1 k)

  bit_clear : n < 2 ^ suc k → (bit_at n k ≡ 1 → ⊥) → n < 2 ^ k
  bit_clear l h = ⊎_elim (λ q. q) (λ q. absurd (h (bit_reached q l))) (below n (2 ^ k))

abbrev IsTop : ℕ → ℕ → Type 0
IsTop n j = (2 ^ j ≤ n) × (n < 2 ^ suc j)

top_found : (k n : ℕ) → 0 < n → n < 2 ^ suc k → IsTop n (top_bit k n)
unfolding top_bit
top_found zero n p h = (omega (arith, p), h)
top_found (suc k) n p h = go (top_found k n p) (eqb (bit_at n (suc k)) 1) refl
  where
    go : (n < 2 ^ suc k → IsTop n (top_bit k n)) → (b : Bool) → eqb (bit_at n (suc k)) 1 ≡ b → IsTop n (if b then suc k else top_bit k n)
    go rest true e = (bit_set n (suc k) (eqb-true _ _ e), h)
    go rest false e = rest (bit_clear n (suc k) h (eqb-false _ _ e))

one_top : (n i j : ℕ) → IsTop n i → IsTop n j → i ≡ j
one_top n i j p q =
    omega (arith, powers_lt i (suc j) p.0 q.1, powers_lt j (suc i) q.0 p.1)

top_is : (n : ℕ) → 0 < n → n < 2 ^ 27 → Counts.top_bit n ≡ top_bit 26 n
top_is n p h =
    let t = top n p (omega (arith, h)) in
    let c : n < 2 ^ suc (Counts.top_bit n) = subst (λ (x : ℕ). n < 2 ^ x) (omega arith) t.passes in
    one_top n (Counts.top_bit n) (top_bit 26 n) (t.reaches, c) (top_found 26 n p h)

pub cce_is : (n : ℕ) → n < 2 ^ 27 → exponent_of n ≡ CCE n
unfolding exponent_of
cce_is n h = go (ltb n 0x1000) refl
  where
    go : (b : Bool) → ltb n 0x1000 ≡ b → (if b then 0 else Counts.top_bit n - 11) ≡ (if b then 0 else top_bit 26 n - 11)
    go true e = refl
    go false e = ap (λ (x : ℕ). x - 11) (top_is n (omega (arith, ltb-false n 0x1000 e)) h)

pub ccm_is : (n : ℕ) → n < 2 ^ 27 → mantissa_of n ≡ CCM n
unfolding mantissa_of
ccm_is n h = ap (λ (x : ℕ). field_at n (x - 1) 12) (cce_is n h)

-- 2. The counter. Where it counts, recording is live; and where RASEMU governs.
counts_is : (r : Registers) → counts r ≡ flag (live_of r)
unfolding live_of
counts_is r = go (on_of r m) refl r.buffer.frozen
  where
    m : Mode
    m = r.mode

    go : (on : Bool) → on_of r m ≡ on → (fr : Bool) → (if fr then 0 else switch r m) ≡ flag (on && not fr)
    go true o true = refl
    go true o false = (mode r m).is_on o
    go false o true = refl
    go false o false = (mode r m).is_off o

abbrev emulates : Registers → Event → Bool
emulates r e = rasemu_of r r.mode (mode_after r e)

rasemu_is : (r : Registers) (e : Event) → RASEMU r e ≡ flag (emulates r e)
rasemu_is r e = go (emulates r e) refl
  where
    go : (b : Bool) → emulates r e ≡ b → RASEMU r e ≡ flag b
    go true h = (rasemu r e).is_on h
    go false h = (rasemu r e).is_off h

-- as an event finds it
module _ (r : Registers) (e : Event) (f : Free r) where
  abbrev after : ℕ → ℕ → Cycles
  after k x =
      record {
        counter = (if eqb (k * x) 1 then 0 else min (r.cycles.counter + k * cycles_of e) 0x7FFFFFF);
        ccv = (if eqb (k * x) 1 then false else r.cycles.ccv);
      }

  found : (live ra : Bool) → (if live then Counts.live_cycles r.cycles ra (cycles_of e) else r.cycles) ≡ after (flag live) (flag ra)
  unfolding Counts.live_cycles
  found true true = refl
  found true false = ap (λ (y : ℕ). record { counter = y; ccv = r.cycles.ccv }) (omega arith)
  found false true = ap (λ (y : ℕ). record { counter = y; ccv = r.cycles.ccv }) (omega (arith, f.counter))
  found false false = ap (λ (y : ℕ). record { counter = y; ccv = r.cycles.ccv }) (omega (arith, f.counter))

  pub tally_is : tallied r (emulates r e) (cycles_of e) ≡ counted r e
  unfolding Counts.cycles_of
  tally_is = rw (counts_is r, rasemu_is r e) (ap (with_cycles r) (found (live_of r) (emulates r e)))

  -- and as a record leaves it
  pub restart_is : with_cycles r (Counts.restarted (emulates r e)) ≡ restarted r e
  restart_is = rw (rasemu_is r e) (go (emulates r e))
    where
      go : (ra : Bool) → with_cycles r (Counts.restarted ra) ≡ with_cycles r (record { counter = 0; ccv = eqb (flag ra) 0 })
      go true = refl
      go false = refl

-- 3. What a record holds. Where RASEMU governs, recording is live, and a swap is under RASEMU.
ordinary : {r : Registers} {e : Event} → Qualifies r e → (RASEMU r e ≡ 0) ⊎ ((RASEMU r e ≡ 1) × (counts r ≡ 1))
ordinary (retired z x o a) = inl x
ordinary (on_to_on p x o t a) = inl x
ordinary (off_to_on p x o t a) = inl x
ordinary (on_to_off p x o t a) = inl x
ordinary (return p z x o a) = inl x
ordinary {r = r} (call z x o t) = inr (x, ap (λ (b : Bool). if b then 0 else switch r r.mode) z ∙ o)

pub swap_emulates : {r : Registers} {e : Event} → Swaps r e → RASEMU r e ≡ 1
swap_emulates (type_12 z x o t) = x

pub counter_lt : (r : Registers) (e : Event) → counter r e < 2 ^ 27
counter_lt r e = omega arith

module _ (r : Registers) (e : Event) (f : Free r) (t : ℕ) (small : t < 16) where
  -- the type, CCV and CC of a counter
  abbrev data_of : Cycles → ℕ
  data_of c = t % 2 ^ 4 + (if c.ccv then 2 ^ 15 else 0) + cc_of c.counter * 2 ^ 16

  plain : RASEMU r e ≡ 0 → data_of (counted r e).cycles ≡ ctrdata_of r e t
  plain x =
      let z : counts r * RASEMU r e ≡ 0 = rw x (omega arith) in
      rw (z, x) (omega (arith, small, cce_is (counter r e) (counter_lt r e), ccm_is (counter r e) (counter_lt r e)))

  emulated : RASEMU r e ≡ 1 → counts r ≡ 1 → data_of (counted r e).cycles ≡ ctrdata_of r e t
  unfolding exponent_of mantissa_of
  emulated x o = rw (x, o) (omega (arith, small))

  data_is : Qualifies r e → data_of (counted r e).cycles ≡ ctrdata_of r e t
  data_is q = ⊎_elim plain (λ p. emulated p.0 p.1) (ordinary q)

  -- an entry with these addresses and the event's MISP
  abbrev holding : ℕ → ℕ → ℕ → Entry
  holding a b x = record { ctrsource = a / 2 * 2 + 1; ctrtarget = b / 2 * 2 + MISP e; ctrdata = x }

  pub record_is : (a b : ℕ) (m : Bool) → (if m then 1 else 0) ≡ MISP e → Qualifies r e
      → stamped (entry_for a b m t) (tallied r (emulates r e) (cycles_of e)).cycles ≡ entry_of r e a b t
  unfolding stamped entry_for
  record_is a b m g q =
      rw g
      (ap (λ (c : Cycles). holding a b (data_of c)) (ap (λ (x : Registers). x.cycles) (tally_is r e f)) ∙ ap (holding a b) (data_is q))

  pub swap_is : (a b : ℕ) (m : Bool) → (if m then 1 else 0) ≡ MISP e → Swaps r e → entry_for a b m t ≡ entry_of r e a b t
  unfolding entry_for
  swap_is a b m g w = rw (swap_emulates w, g)
