-- The first of six steps that applies, by their tests. Assumes nothing.
use Prim.Native.Nat.{ℕ}
use mathlib.Core.Path.{◌≡◌, refl}
use mathlib.Core.Bool.{Bool, true, false}
use mathlib.Core.Logic.{◌⊎◌, inl, inr, ⊎_elim, ◌↔◌}
use native.Mathlib.Omega.{arith}
use Rattle.machine.specs.Answers.{number_of}
use Rattle.csr.specs.Steps.{first_step}
use Rattle.demands.proofs.Decides.{Decides, no}

-- the first of six steps that applies
module _ (A B C D E F : Type 0) where
  abbrev One : Type 0
  One = (A → ⊥) × (B ⊎ C)

  abbrev Two : Type 0
  Two = (A → ⊥) × (B → ⊥) × (C → ⊥) × (D ⊎ E)

  abbrev Three : Type 0
  Three = A ⊎ ((B → ⊥) × (C → ⊥) × (D → ⊥) × (E → ⊥) × F)

  -- which it is
  pub data First (n : ℕ) : Type 0 where
    none : n ≡ 0 → (A → ⊥) → (B → ⊥) → (C → ⊥) → (D → ⊥) → (E → ⊥) → (F → ⊥) → First n
    one : n ≡ 1 → One → First n
    two : n ≡ 2 → Two → First n
    three : n ≡ 3 → Three → First n

  pub first : (a b c d e f : Bool) → Decides A a → Decides B b → Decides C c → Decides D d → Decides E e → Decides F f
      → First (number_of (first_step a b c d e f))
  unfolding first_step
  first true b c d e f p q r s t u = three refl (inl (p.from refl))
  first false true c d e f p q r s t u = one refl (no p refl, inl (q.from refl))
  first false false true d e f p q r s t u = one refl (no p refl, inr (r.from refl))
  first false false false true e f p q r s t u = two refl (no p refl, no q refl, no r refl, inl (s.from refl))
  first false false false false true f p q r s t u = two refl (no p refl, no q refl, no r refl, inr (t.from refl))
  first false false false false false true p q r s t u = three refl (inr (no q refl, no r refl, no s refl, no t refl, u.from refl))
  first false false false false false false p q r s t u = none refl (no p refl) (no q refl) (no r refl) (no s refl) (no t refl) (no u refl)

  -- and that no two are
  module _ (n : ℕ) where
    one_to : First n → n ≡ 1 → One
    one_to (none z a b c d e f) h = absurd (omega (arith, z, h))
    one_to (one z p) h = p
    one_to (two z p) h = absurd (omega (arith, z, h))
    one_to (three z p) h = absurd (omega (arith, z, h))

    two_to : First n → n ≡ 2 → Two
    two_to (none z a b c d e f) h = absurd (omega (arith, z, h))
    two_to (one z p) h = absurd (omega (arith, z, h))
    two_to (two z p) h = p
    two_to (three z p) h = absurd (omega (arith, z, h))

    three_to : First n → n ≡ 3 → Three
    three_to (none z a b c d e f) h = absurd (omega (arith, z, h))
    three_to (one z p) h = absurd (omega (arith, z, h))
    three_to (two z p) h = absurd (omega (arith, z, h))
    three_to (three z p) h = p

    one_from : First n → One → n ≡ 1
    one_from (none z a b c d e f) p = absurd (⊎_elim b c p.1)
    one_from (one z q) p = z
    one_from (two z q) p = absurd (⊎_elim q.1 q.2 p.1)
    one_from (three z q) p = absurd (⊎_elim p.0 (λ k. ⊎_elim k.0 k.1 p.1) q)

    two_from : First n → Two → n ≡ 2
    two_from (none z a b c d e f) p = absurd (⊎_elim d e p.3)
    two_from (one z q) p = absurd (⊎_elim p.1 p.2 q.1)
    two_from (two z q) p = z
    two_from (three z q) p = absurd (⊎_elim p.0 (λ k. ⊎_elim k.2 k.3 p.3) q)

    three_from : First n → Three → n ≡ 3
    three_from (none z a b c d e f) p = absurd (⊎_elim a (λ k. f k.4) p)
    three_from (one z q) p = absurd (⊎_elim q.0 (λ k. ⊎_elim k.0 k.1 q.1) p)
    three_from (two z q) p = absurd (⊎_elim q.0 (λ k. ⊎_elim k.2 k.3 q.3) p)
    three_from (three z q) p = z

  -- when each number is given
  pub record Numbers (n : ℕ) : Type 0 where
    pub is_1 : n ≡ 1 ↔ One
    pub is_2 : n ≡ 2 ↔ Two
    pub is_3 : n ≡ 3 ↔ Three

  pub numbers : (n : ℕ) → First n → Numbers n
  numbers n k =
      record { is_1 = (one_to n k, one_from n k); is_2 = (two_to n k, two_from n k); is_3 = (three_to n k, three_from n k) }
