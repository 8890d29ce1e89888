-- WRPTR one up or one down, modulo the depth, is neither where it was nor the other; once over the depth. Assumes nothing.
use Prim.Native.Nat.{ℕ, zero, suc, ◌+◌, ◌-◌, ◌%◌, ◌≤◌, ◌<◌}
use mathlib.Core.Path.{◌≡◌, refl, ap, ◌∙◌}
use mathlib.Core.Logic.{◌⊎◌, inl, inr, ⊎_elim}
use native.Mathlib.Nat.{mod-lt, mod_self, mod-eq_of_lt, add-mod_right, eq-or-lt_of_le}
use native.Mathlib.Omega.{arith}
use mathlib.Core.Bool.{Bool, true, false}
use lib.Dec.{ltb}
use borrow.Author.Tests.{ltb-true, ltb-false}

-- a number is below another or not
pub below : (n m : ℕ) → (n < m) ⊎ (m ≤ n)
below n m = go (ltb n m) refl
  where
    go : (t : Bool) → ltb n m ≡ t → (n < m) ⊎ (m ≤ n)
    go true h = inl (ltb-true n m h)
    go false h = inr (ltb-false n m h)

-- one up of a place below d is the next, or 0 at the end
up : (w d : ℕ) → w < d → ((w + 1) % d ≡ w + 1) ⊎ (((w + 1) % d ≡ 0) × (w + 1 ≡ d))
up w d h = ⊎_elim (λ e. inr (rw e (mod_self d), e)) (λ k. inl (mod-eq_of_lt k)) (eq-or-lt_of_le (omega arith))

-- one down is the one before, or the last at 0
down : (w d : ℕ) → 1 ≤ d → w < d → ((w + d - 1) % d + 1 ≡ w) ⊎ (((w + d - 1) % d ≡ d - 1) × (w ≡ 0))
down zero d k h = let l : 0 + d - 1 < d = omega arith in inr (mod-eq_of_lt l ∙ omega arith, omega arith)
down (suc w) d k h =
    let a : (w + d) % d ≡ w = add-mod_right w d ∙ mod-eq_of_lt (omega arith) in
    let b : (suc w + d - 1) % d ≡ (w + d) % d = ap (λ (n : ℕ). n % d) (omega arith) in
    inl (omega (arith, a, b))

pub up_moves : (w d : ℕ) → 3 ≤ d → w ≡ (w + 1) % d → ⊥
up_moves w d k h =
    let l : (w + 1) % d < d = mod-lt (w + 1) (omega arith) in
    ⊎_elim (λ a. omega (arith, a, h)) (λ a. omega (arith, a.0, a.1, h)) (up w d (omega (arith, l, h)))

pub down_moves : (w d : ℕ) → 3 ≤ d → w ≡ (w + d - 1) % d → ⊥
down_moves w d k h =
    let l : (w + d - 1) % d < d = mod-lt (w + d - 1) (omega arith) in
    ⊎_elim (λ a. omega (arith, a, h)) (λ a. omega (arith, a.0, a.1, h)) (down w d (omega arith) (omega (arith, l, h)))

pub up_is_not_down : (w d : ℕ) → 3 ≤ d → w < d → (w + 1) % d ≡ (w + d - 1) % d → ⊥
up_is_not_down w d k h e =
    ⊎_elim
    (λ a. ⊎_elim (λ b. omega (arith, a, b, e)) (λ b. omega (arith, a, b.0, b.1, e)) (down w d (omega arith) h))
    (λ a. ⊎_elim (λ b. omega (arith, a.0, a.1, b, e)) (λ b. omega (arith, a.0, a.1, b.0, b.1, e)) (down w d (omega arith) h))
    (up w d h)
