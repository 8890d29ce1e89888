-- A sentence and the test that decides it. Assumes nothing.
use Prim.Native.Nat.{ℕ, ◌<◌}
use mathlib.Core.Path.{◌≡◌, refl, sym, ◌∙◌}
use mathlib.Core.Bool.{Bool, true, false, not, ◌&&◌, ◌||◌, false≢true}
use mathlib.Core.Logic.{◌⊎◌, inl, inr, ⊎_elim}
use native.Mathlib.Omega.{arith}
use lib.Dec.{eqb}
use borrow.Author.Tests.{eqb-true, eqb-false, eq-eqb, ne_eqb}

pub record Decides (A : Type 0) (b : Bool) : Type 0 where
  pub to : A → b ≡ true
  pub from : b ≡ true → A

-- where the test fails the sentence does, and the other way
module _ {A : Type 0} {b : Bool} (d : Decides A b) where
  pub no : b ≡ false → A → ⊥
  no h a = false≢true (sym h ∙ d.to a)

  pub fails : (A → ⊥) → b ≡ false
  fails h = go b refl
    where
      go : (c : Bool) → b ≡ c → c ≡ false
      go true e = absurd (h (d.from e))
      go false e = refl

  pub holds : ((A → ⊥) → ⊥) → A
  holds h = go b refl
    where
      go : (c : Bool) → b ≡ c → A
      go true e = d.from e
      go false e = absurd (h (no e))

  pub or_not : A ⊎ (A → ⊥)
  or_not = go b refl
    where
      go : (c : Bool) → b ≡ c → A ⊎ (A → ⊥)
      go true e = inl (d.from e)
      go false e = inr (no e)

-- tests put together
module _ {A B : Type 0} where
  pub via : {b : Bool} → (A → B) → (B → A) → Decides A b → Decides B b
  via f g d = record { to = (λ y. d.to (g y)); from = (λ h. f (d.from h)) }

  pub either : (a b : Bool) → Decides A a → Decides B b → Decides (A ⊎ B) (a || b)
  either true b p q = record { to = (λ h. refl); from = (λ h. inl (p.from refl)) }
  either false b p q = record { to = (λ h. ⊎_elim (λ x. absurd (no p refl x)) q.to h); from = (λ h. inr (q.from h)) }

  pub pair : (a b : Bool) → Decides A a → Decides B b → Decides (A × B) (a && b)
  pair true b p q = record { to = (λ h. q.to h.1); from = (λ h. (p.from refl, q.from h)) }
  pair false b p q = record { to = (λ h. p.to h.0); from = (λ h. absurd (false≢true h)) }

pub negated : {A : Type 0} (a : Bool) → Decides A a → Decides (A → ⊥) (not a)
negated true p = record { to = (λ h. absurd (h (p.from refl))); from = (λ h. absurd (false≢true h)) }
negated false p = record { to = (λ h. refl); from = (λ h. no p refl) }

pub clear : (b : Bool) → Decides (b ≡ false) (not b)
clear true = record { to = (λ h. sym h); from = (λ h. sym h) }
clear false = record { to = (λ h. refl); from = (λ h. refl) }

pub never : {A : Type 0} → (A → ⊥) → Decides A false
never h = record { to = (λ a. absurd (h a)); from = (λ e. absurd (false≢true e)) }

-- a bit is 1 or 0, and its test says which
pub record Tested (x : ℕ) (b : Bool) : Type 0 where
  pub on : x ≡ 1 → b ≡ true
  pub off : x ≡ 0 → b ≡ false
  pub is_on : b ≡ true → x ≡ 1
  pub is_off : b ≡ false → x ≡ 0

pub tested : (x : ℕ) (b : Bool) → x < 2 → b ≡ eqb x 1 → Tested x b
tested x b l e =
    record {
      on = (λ h. e ∙ eq-eqb x 1 h);
      off = (λ h. e ∙ ne_eqb x 1 (λ k. omega (arith, h, k)));
      is_on = (λ h. eqb-true x 1 (sym e ∙ h));
      is_off = (λ h. omega (arith, l, eqb-false x 1 (sym e ∙ h)));
    }
