-- Fields of a word, and what a mask does to a single bit, once for every mask and position. Assumes nothing.
use mathlib.Core.Path.{◌≡◌, ap}
use Prim.Native.Nat.{ℕ, ◌+◌, ◌-◌, ◌*◌, ◌/◌, ◌%◌, ◌^◌, ◌≤◌, ◌<◌, min, max}
use native.Mathlib.Nat.{mod-eq_of_lt, div-eq_of_lt, div-le_self}
use native.Mathlib.Omega.{arith}
use lib.Bits.{bit_and, bit_or, and_mask, or_step, or_zero_r}
use lib.Pow.{pow_pos, pow_mono, pow-lt}
use Rattle.std.proofs.Math.Nat.{one-mul}
use Rattle.std.proofs.lemmas.Nat.Bits.{bit_at-zero, bit_at_and, bit_at_or, same_from_bits}
use Rattle.bits.specs.Words.{bit_at, field_at, keep, joined}

-- a word has nothing from bit 64 up
pub past : (x n k : ℕ) → x < 2 ^ 64 → 64 ≤ n → field_at x n k ≡ 0
past x n k h l =
    let p : 2 ^ 64 ≤ 2 ^ n = pow_mono l in
    let q : x < 2 ^ n = omega arith in
    rw (div-eq_of_lt q, mod-eq_of_lt (pow_pos k))

pub whole : (x n k : ℕ) → x < 2 ^ 64 → 64 ≤ k → field_at x n k ≡ x / 2 ^ n
whole x n k h l =
    let p : 2 ^ 64 ≤ 2 ^ k = pow_mono l in
    mod-eq_of_lt (omega (arith, div-le_self x (2 ^ n)))

-- a shift down and the mask (1 << k) - 1 are the field
pub field_mask : (x n k : ℕ) → k < 64 → bit_and (x / 2 ^ n) (1 * 2 ^ k % 2 ^ 64 - 1) ≡ field_at x n k
field_mask x n k h =
    let l : 1 * 2 ^ k < 2 ^ 64 = omega (arith, pow-lt h) in
    rw (mod-eq_of_lt l) (rw (one-mul (2 ^ k)) (and_mask (x / 2 ^ n) k))

-- bit n of what a mask keeps
pub bit_keep : (m x n : ℕ) → bit_at (keep m x) n ≡ min (bit_at x n) (bit_at m n)
unfolding keep
bit_keep m x n = bit_at_and x m n

-- bit n of two words joined
pub bit_joined : (x y n : ℕ) → bit_at (joined x y) n ≡ max (bit_at x n) (bit_at y n)
unfolding joined
bit_joined x y n = bit_at_or x y n

-- what is masked already stays
pub keep_keep : (m x : ℕ) → keep m (keep m x) ≡ keep m x
keep_keep m x = same_from_bits _ _ (λ n. omega (arith, bit_keep m (keep m x) n, bit_keep m x n))

-- of two words joined under masks that have no bit in common, each mask keeps its own
pub keep_joined : (a b x y : ℕ) → keep a b ≡ 0 → keep a (joined (keep a x) (keep b y)) ≡ keep a x
keep_joined a b x y e =
    same_from_bits _ _
    (λ n.
    let z : bit_at (keep a b) n ≡ 0 = rw e (bit_at-zero n) in
    omega (arith, z, bit_keep a (joined (keep a x) (keep b y)) n, bit_joined (keep a x) (keep b y) n, bit_keep a x n, bit_keep b y n, bit_keep a b n))

-- two words joined under masks stay under a mask that has both
pub keep_of_joined : (m a b x y : ℕ) → keep m a ≡ a → keep m b ≡ b
    → keep m (joined (keep a x) (keep b y)) ≡ joined (keep a x) (keep b y)
keep_of_joined m a b x y p q =
    same_from_bits _ _
    (λ n.
    let u : bit_at a n ≤ bit_at m n = omega (arith, bit_keep m a n, ap (λ (z : ℕ). bit_at z n) p) in
    let v : bit_at b n ≤ bit_at m n = omega (arith, bit_keep m b n, ap (λ (z : ℕ). bit_at z n) q) in
    omega (arith, u, v, bit_keep m (joined (keep a x) (keep b y)) n, bit_joined (keep a x) (keep b y) n, bit_keep a x n, bit_keep b y n))

-- bit 0 set
pub low_set : (x : ℕ) → bit_or x 1 ≡ x / 2 * 2 + 1
low_set x = omega (arith, or_step x 1, or_zero_r (x / 2))
