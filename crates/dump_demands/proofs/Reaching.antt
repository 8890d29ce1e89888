-- From pc by an offset: sums that wrap, of offsets in 64 bits and of signed ones. Assumes nothing.
use mathlib.Core.Path.{◌≡◌, refl, ap, ◌∙◌}
use mathlib.Core.List.{List, [], ◌∷◌}
use mathlib.Core.Logic.{◌↔◌}
use Prim.Native.Nat.{ℕ, zero, suc, ◌+◌, ◌-◌, ◌*◌, ◌/◌, ◌%◌, ◌^◌, ◌<◌, ◌≤◌}
use native.Mathlib.Nat.{pow-succ', div-div-eq-div-mul, mul_assoc}
use native.Mathlib.Omega.{arith}
use lib.Arith.{mod-mul}
use lib.Pow.{pow_pos}
use Rattle.bits.specs.Words.{bit_at, field_at}
use Rattle.dump.specs.Offsets.{J·offset, B·offset, CJ·offset, CB·offset}
use Rattle.dump.specs.Checks.{moved}
use Rattle.dump_demands.specs.Fits.{gathered, Reaches, J·places, B·places, CJ·places, CB·places}

-- a sign bit b whose copies weigh 2^64 - m, and that weighs m the other way
wraps : (x b m t : ℕ) → b < 2 → m ≤ 2 ^ 64 → ((x + b * (2 ^ 64 - m)) % 2 ^ 64 ≡ t) ↔ ((t < 2 ^ 64) × (x % 2 ^ 64 ≡ (t + m * b) % 2 ^ 64))
wraps x zero m t l h = ((λ e. (omega arith, omega arith)), (λ p. omega (arith, p.0, p.1)))
wraps x (suc zero) m t l h = ((λ e. (omega arith, omega arith)), (λ p. omega (arith, p.0, p.1)))
wraps x (suc (suc b)) m t l h = absurd (omega arith)

-- k places from n up, and those of further pieces
pub record Piece : Type 0 where
  pub n : ℕ
  pub k : ℕ

-- the places of pieces, and their bits as fields
with_up : ℕ → ℕ → List ℕ → List ℕ
with_up n zero ps = ps
with_up n (suc k) ps = n ∷ with_up (suc n) k ps

places : List Piece → List ℕ
places [] = []
places (p ∷ ps) = with_up p.n p.k (places ps)

fields : ℕ → List Piece → ℕ
fields w [] = 0
fields w (p ∷ ps) = field_at w p.n p.k + 2 ^ p.k * fields w ps

-- a field is its lowest bit and the rest
lowest : (x k : ℕ) → x % 2 ^ suc k ≡ x % 2 + 2 * (x / 2 % 2 ^ k)
lowest x k =
    let e : 2 ^ suc k ≡ 2 ^ k * 2 = omega (arith, pow-succ' 2 k) in
    rw e (mod-mul x (pow_pos k) (omega arith) ∙ omega arith)

field_first : (w n k : ℕ) → field_at w n (suc k) ≡ w / 2 ^ n % 2 + 2 * field_at w (suc n) k
field_first w n k =
    let e : w / 2 ^ n / 2 ≡ w / 2 ^ suc n = div-div-eq-div-mul w (2 ^ n) 2 ∙ ap (λ (m : ℕ). w / m) (omega (arith, pow-succ' 2 n)) in
    lowest (w / 2 ^ n) k ∙ ap (λ (m : ℕ). w / 2 ^ n % 2 + 2 * (m % 2 ^ k)) e

up_bits : (w n k : ℕ) (ps : List ℕ) → gathered w (with_up n k ps) ≡ field_at w n k + 2 ^ k * gathered w ps
unfolding with_up
up_bits w n zero ps = omega arith
up_bits w n (suc k) ps =
    let e = up_bits w (suc n) k ps in
    let p : 2 ^ suc k * gathered w ps ≡ 2 * (2 ^ k * gathered w ps) = ap (λ (m : ℕ). m * gathered w ps) (pow-succ' 2 k) ∙ mul_assoc 2 (2 ^ k) (gathered w ps) in
    omega (arith, e, p, field_first w n k)

gathered_fields : (w : ℕ) (ps : List Piece) → gathered w (places ps) ≡ fields w ps
unfolding places fields
gathered_fields w [] = refl
gathered_fields w (p ∷ ps) = up_bits w p.n p.k (places ps) ∙ ap (λ (m : ℕ). field_at w p.n p.k + 2 ^ p.k * m) (gathered_fields w ps)

-- an offset by its sign bit b, which weighs m, and half the rest
reaches : (pc off g b m t : ℕ) → off ≡ b * (2 ^ 64 - m) + 2 * g → b < 2 → m ≤ 2 ^ 64
    → (moved pc off ≡ t) ↔ ((t < 2 ^ 64) × ((pc + 2 * g) % 2 ^ 64 ≡ (t + m * b) % 2 ^ 64))
reaches pc off g b m t e l h =
    let p : pc + off ≡ pc + 2 * g + b * (2 ^ 64 - m) = omega (arith, e) in
    rw p (wraps (pc + 2 * g) b m t l h)

piece : ℕ → ℕ → Piece
piece n k = record { n = n; k = k }

-- the parts of each offset, whatever the bits
J-sum : (s a b c g : ℕ) → g ≡ a + 2 ^ 10 * (b + 2 ^ 1 * (c + 2 ^ 8 * 0)) → s + a * 2 ^ 1 + b * 2 ^ 11 + c * 2 ^ 12 ≡ s + 2 * g
J-sum s a b c g e = omega arith

B-sum : (s a b c g : ℕ) → g ≡ b + 2 ^ 4 * (a + 2 ^ 6 * (c + 2 ^ 1 * 0)) → s + a * 2 ^ 5 + b * 2 ^ 1 + c * 2 ^ 11 ≡ s + 2 * g
B-sum s a b c g e = omega arith

CB-sum : (s a b c d g : ℕ) → g ≡ c + 2 ^ 2 * (a + 2 ^ 2 * (d + 2 ^ 1 * (b + 2 ^ 2 * 0))) → s + a * 2 ^ 3 + b * 2 ^ 6 + c * 2 ^ 1 + d * 2 ^ 5 ≡ s + 2 * g
CB-sum s a b c d g e = omega arith

CJ-sum : (s a b c d e f g h : ℕ) → h ≡ f + 2 ^ 3 * (a + 2 ^ 1 * (g + 2 ^ 1 * (d + 2 ^ 1 * (e + 2 ^ 1 * (b + 2 ^ 2 * (c + 2 ^ 1 * 0))))))
    → s + a * 2 ^ 4 + b * 2 ^ 8 + c * 2 ^ 10 + d * 2 ^ 6 + e * 2 ^ 7 + f * 2 ^ 1 + g * 2 ^ 5 ≡ s + 2 * h
CJ-sum s a b c d e f g h p = omega arith

module _ (pc w t : ℕ) where
  pub J-reaches : (moved pc (J·offset w) ≡ t) ↔ Reaches pc w J·places 31 t
  unfolding J·offset piece places with_up fields
  J-reaches =
      reaches pc _ (gathered w J·places) (bit_at w 31) (2 ^ 20) t
      (J-sum _ _ _ _ _ (gathered_fields w (piece 21 10 ∷ piece 20 1 ∷ piece 12 8 ∷ [])))
      (omega arith) (omega arith)

  pub B-reaches : (moved pc (B·offset w) ≡ t) ↔ Reaches pc w B·places 31 t
  unfolding B·offset piece places with_up fields
  B-reaches =
      reaches pc _ (gathered w B·places) (bit_at w 31) (2 ^ 12) t
      (B-sum _ _ _ _ _ (gathered_fields w (piece 8 4 ∷ piece 25 6 ∷ piece 7 1 ∷ [])))
      (omega arith) (omega arith)

  pub CJ-reaches : (moved pc (CJ·offset w) ≡ t) ↔ Reaches pc w CJ·places 12 t
  unfolding CJ·offset piece places with_up fields
  CJ-reaches =
      reaches pc _ (gathered w CJ·places) (bit_at w 12) (2 ^ 11) t
      (CJ-sum _ _ _ _ _ _ _ _ _
      (gathered_fields w (piece 3 3 ∷ piece 11 1 ∷ piece 2 1 ∷ piece 7 1 ∷ piece 6 1 ∷ piece 9 2 ∷ piece 8 1 ∷ [])))
      (omega arith) (omega arith)

  pub CB-reaches : (moved pc (CB·offset w) ≡ t) ↔ Reaches pc w CB·places 12 t
  unfolding CB·offset piece places with_up fields
  CB-reaches =
      reaches pc _ (gathered w CB·places) (bit_at w 12) (2 ^ 8) t
      (CB-sum _ _ _ _ _ _ (gathered_fields w (piece 3 2 ∷ piece 10 2 ∷ piece 2 1 ∷ piece 5 2 ∷ [])))
      (omega arith) (omega arith)
