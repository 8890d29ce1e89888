-- A number against a key: a proof by cases of what a conditional tests. Assumes nothing.
use mathlib.Core.Path.{◌≡◌, refl}
use mathlib.Core.Bool.{Bool, true, false, false≢true, ◌&&◌}
use mathlib.Core.Logic.{◌⊎◌, inl, inr, ⊎_elim}
use Prim.Native.Nat.{ℕ, zero, suc, ◌<◌}
use native.Mathlib.Omega.{arith}
use lib.Dec.{eqb}
use borrow.Author.Tests.{eqb-true, eqb-false}

-- a number is k, or the test for k fails
abbrev pub Known : ℕ → ℕ → Type 0
Known n k = (n ≡ k) ⊎ (eqb n k ≡ false)

pub known : (n k : ℕ) → Known n k
known n k = go (eqb n k) refl
  where
    go : (b : Bool) → eqb n k ≡ b → Known n k
    go true h = inl (eqb-true n k h)
    go false h = inr h

-- a test that all numbers below n pass, by computing it for each
abbrev pub all_below : (ℕ → Bool) → ℕ → Bool
all_below p zero = true
all_below p (suc n) = p n && all_below p n

pub both : (a b : Bool) → (a && b) ≡ true → (a ≡ true) × (b ≡ true)
both true true h = (refl, refl)
both true false h = absurd (false≢true h)
both false b h = absurd (false≢true h)

pub passed : (p : ℕ → Bool) (n k : ℕ) → all_below p n ≡ true → k < n → p k ≡ true
passed p zero k h l = absurd (omega arith)
passed p (suc n) k h l =
    let b = both (p n) (all_below p n) h in
    ⊎_elim (λ e. rw e b.0) (λ e. passed p n k b.1 (omega (arith, eqb-false k n e))) (known k n)
