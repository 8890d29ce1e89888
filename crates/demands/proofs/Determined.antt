-- Demands 1 and 2 leave no choice. From the demands alone: no rule of the code is opened. Assumes nothing.
use Prim.Native.Nat.{ℕ, zero, suc, ◌≤◌}
use mathlib.Core.Path.{◌≡◌, refl, sym, ap, ◌∙◌}
use mathlib.Core.Logic.{⊎_elim}
use native.Mathlib.Omega.{arith}
use borrow.Author.Tests.{eqb-false}
use Rattle.bits.proofs.Cases.{known}
use Rattle.csr.specs.declared.Csr.{Csr}
use Rattle.machine.specs.declared.Event.{Event}
use Rattle.machine.specs.declared.Event.TheVariants.{Retired, Trap, TrapReturn, Access, Sctrclr, Host}
use Rattle.recorder.specs.declared.State.{State}
use Rattle.recorder.specs.declared.Stepped.{Stepped}
use Rattle.demands.specs.Registers.{reading, written}
use Rattle.demands.specs.Demands.{Demand1At, TransferAt, Demand2At, Determined}
use Rattle.demands.proofs.Reaching.{reaches_is}

-- a number up to a bound, by its cases
pub data Upto4 (n : ℕ) : Type 0 where
  is_0 : n ≡ 0 → Upto4 n
  is_1 : n ≡ 1 → Upto4 n
  is_2 : n ≡ 2 → Upto4 n
  is_3 : n ≡ 3 → Upto4 n
  is_4 : n ≡ 4 → Upto4 n

pub upto4 : (n : ℕ) → n ≤ 4 → Upto4 n
upto4 zero h = is_0 refl
upto4 (suc zero) h = is_1 refl
upto4 (suc (suc zero)) h = is_2 refl
upto4 (suc (suc (suc zero))) h = is_3 refl
upto4 (suc (suc (suc (suc zero)))) h = is_4 refl
upto4 (suc (suc (suc (suc (suc n))))) h = absurd (omega arith)

same_stepped : (a b : Stepped) → a.number ≡ b.number → a.value ≡ b.value → a.state ≡ b.state → a ≡ b
same_stepped a b p q t = λ i. record { number = p i; value = q i; state = t i }

module _ (s : State) (e : Event) (t u : Stepped) (t1 : Demand1At s e t) (u1 : Demand1At s e u) where
  same_number : t.number ≡ u.number
  same_number = ⊎_elim five (λ h. below (upto4 u.number (omega (arith, u1.no_other, eqb-false u.number 5 h)))) (known u.number 5)
    where
      five : u.number ≡ 5 → t.number ≡ u.number
      five h = t1.five.1 (u1.five.0 h) ∙ sym h

      below : Upto4 u.number → t.number ≡ u.number
      below (is_0 h) = t1.zero.1 (u1.zero.0 h) ∙ sym h
      below (is_1 h) = t1.one.1 (u1.one.0 h) ∙ sym h
      below (is_2 h) = t1.two.1 (u1.two.0 h) ∙ sym h
      below (is_3 h) = t1.three.1 (u1.three.0 h) ∙ sym h
      below (is_4 h) = t1.four.1 (u1.four.0 h) ∙ sym h

-- what is left of an answer, its number known
abbrev Rest : Stepped → Stepped → Type 0
Rest t u = (t.value ≡ u.value) × (t.state ≡ u.state)

transfer : (s : State) (e : Event) (t u : Stepped) → TransferAt s e t → TransferAt s e u → t.number ≡ 0 → u.number ≡ 0 → Rest t u
transfer s e t u a b m n = go (upto4 t.value a.no_other) (upto4 u.value b.no_other)
  where
    go : Upto4 t.value → Upto4 u.value → Rest t u
    go x (is_1 h) = let v = a.qualifies.1 (b.qualifies.0 h) in (v ∙ sym h, a.recorded.0 v ∙ sym (b.recorded.0 h))
    go x (is_2 h) = let v = a.pops.1 (b.pops.0 h) in (v ∙ sym h, a.popped.0 v ∙ sym (b.popped.0 h))
    go x (is_3 h) = let v = a.swaps.1 (b.swaps.0 h) in (v ∙ sym h, a.swapped v ∙ sym (b.swapped h))
    go x (is_4 h) = let v = a.freezes.1 (b.freezes.0 h) in (v ∙ sym h, a.frozen v ∙ sym (b.frozen h))
    go (is_0 v) (is_0 h) = (v ∙ sym h, a.nothing m v ∙ sym (b.nothing n h))
    go (is_1 v) (is_0 h) = absurd (omega (arith, h, b.qualifies.1 (a.qualifies.0 v)))
    go (is_2 v) (is_0 h) = absurd (omega (arith, h, b.pops.1 (a.pops.0 v)))
    go (is_3 v) (is_0 h) = absurd (omega (arith, h, b.swaps.1 (a.swaps.0 v)))
    go (is_4 v) (is_0 h) = absurd (omega (arith, h, b.freezes.1 (a.freezes.0 v)))

both : (t u : Stepped) (v : ℕ) (x : State) → (t.value ≡ v) × (t.state ≡ x) → (u.value ≡ v) × (u.state ≡ x) → Rest t u
both t u v x p q = (p.0 ∙ sym q.0, p.1 ∙ sym q.1)

answered : (s : State) (e : Event) (t u : Stepped) → Demand2At s e t → Demand2At s e u → t.number ≡ 0 → u.number ≡ 0 → Rest t u
answered s (Retired w) t u a b m n = transfer s _ t u a b m n
answered s (Trap x) t u a b m n = transfer s _ t u a b m n
answered s (TrapReturn x) t u a b m n = transfer s _ t u a b m n
answered s (Access c) t u a b m n =
    let p = a m in
    let q = b n in
    let e = sym (reaches_is p.reaches).0 ∙ (reaches_is q.reaches).0 in (
      p.value ∙ ap (reading s) e ∙ sym q.value,
      p.state ∙ ap (λ (g : Csr). written s c.operation g c.operand) e ∙ sym q.state,
    )
answered s Sctrclr t u a b m n = both t u _ _ (a m) (b n)
answered s (Host h) t u a b m n = both t u _ _ (a m) (b n)

pub determined : Determined
determined s e t u t1 t2 u1 u2 =
    let n = same_number s e t u t1 u1 in
    let p = ⊎_elim
    (λ z. answered s e t u t2 u2 (n ∙ z) z)
    (λ z. both t u 0 s (t1.refused (λ h. eqb-false u.number 0 z (sym n ∙ h))) (u1.refused (eqb-false u.number 0 z)))
    (known u.number 0) in
    same_stepped t u n p.0 p.1
