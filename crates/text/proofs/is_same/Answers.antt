use Rattle.std.proofs.Common.{◌≡◌, ◌∙◌, sym, ap, ℕ, zero, suc, Bool, true, false, List, [], ◌∷◌, length, ◌&&◌, eqb, get_or}
use mathlib.Core.Path.{refl}
use lib.Pointwise.{pointwise}
use Rattle.std.proofs.Math.Dec.{eqb-suc-suc, eqb-suc-zero, eqb-zero-suc}
use Rattle.text.specs.Words.{same_to, is_same}
use Rattle.text.proofs.is_same.Goals as goal

-- tests put together the other way round
grouped : (a b c : Bool) → ((a && b) && c) ≡ (a && (b && c))
grouped true b c = refl
grouped false b c = refl

exchanged : (a b c : Bool) → (a && (b && c)) ≡ (b && (a && c))
exchanged true true c = refl
exchanged true false c = refl
exchanged false true c = refl
exchanged false false c = refl

alone : (a : Bool) → a ≡ (a && true)
alone true = refl
alone false = refl

-- the first bytes may be compared first
from_front : (x y : ℕ) (s t : List ℕ) (n : ℕ) → same_to (x ∷ s) (y ∷ t) (suc n) ≡ (eqb x y && same_to s t n)
unfolding same_to
from_front x y s t zero = alone (eqb x y)
from_front x y s t (suc n) = ap (λ p. p && eqb (get_or s n 0) (get_or t n 0)) (from_front x y s t n) ∙ grouped (eqb x y) (same_to s t n) (eqb (get_or s n 0) (get_or t n 0))

-- texts that are compared pair by pair are the same: as long, and in each byte
by_pairs : (s t : List ℕ) → pointwise eqb s t ≡ is_same s t
unfolding is_same same_to
by_pairs [] [] = refl
by_pairs [] (y ∷ t) = sym (ap (λ p. p && true) (eqb-zero-suc (length t)))
by_pairs (x ∷ s) [] = sym (ap (λ p. p && same_to (x ∷ s) [] (suc (length s))) (eqb-suc-zero (length s)))
by_pairs (x ∷ s) (y ∷ t) =
    ap (λ p. eqb x y && p) (by_pairs s t)
    ∙ exchanged (eqb x y) (eqb (length s) (length t)) (same_to s t (length s))
    ∙ ap (λ p. eqb (length s) (length t) && p) (sym (from_front x y s t (length s)))
    ∙ ap (λ p. p && same_to (x ∷ s) (y ∷ t) (suc (length s))) (sym (eqb-suc-suc (length s) (length t)))

pub returns : goal.returns
returns c = c.eq.ensures ∙ by_pairs _ _
