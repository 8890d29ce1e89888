-- The top bit of a count, and its coding, once over the exponent. Assumes nothing.
use Prim.Native.Nat.{ℕ, suc, ◌+◌, ◌-◌, ◌*◌, ◌/◌, ◌^◌, ◌≤◌, ◌<◌}
use mathlib.Core.Path.{◌≡◌, refl, subst, ◌∙◌}
use mathlib.Core.Bool.{Bool, true, false}
use native.Mathlib.Nat.{mod-lt, lt_of_not-le}
use native.Mathlib.Omega.{arith}
use lib.Count.{count_leading_zeros, leading_top}
use lib.Dec.{ltb}
use lib.Pow.{pow_pos, pow_mono, pow-add, shr_lt, shr_mono, shl-shr, split}
use borrow.Author.Tests.{lt-ltb, le-ltb, ltb-true, ltb-false, ne_eqb}
use Rattle.std.specs.Prelude.{if◌then◌else◌}
use Rattle.bits.specs.Words.{field_at}
use Rattle.machine.specs.Good.{counter_limit}
use Rattle.transfers.specs.Counts.{top_bit, exponent_of, mantissa_of, cc_of, decoded_of}
use Rattle.transfers.specs.Laws.{Coding}

-- of a number that is not 0, bit `top_bit` is the top one
pub record Top (n : ℕ) : Type 0 where
  pub zeros : count_leading_zeros 64 n ≤ 63
  pub reaches : 2 ^ top_bit n ≤ n
  pub passes : n < 2 ^ (top_bit n + 1)

pub top : (n : ℕ) → 0 < n → n < 2 ^ 64 → Top n
top n p h =
    let t = leading_top 64 n p h in
    let e : t.0 ≡ top_bit n = omega (arith, t.1) in
    let f : suc t.0 ≡ top_bit n + 1 = omega (arith, t.1) in
    record {
      zeros = omega (arith, t.1);
      reaches = subst (λ (x : ℕ). 2 ^ x ≤ n) e t.2;
      passes = subst (λ (x : ℕ). n < 2 ^ x) f t.3;
    }

-- a power of two that a number reaches lies below one that it does not
pub powers_lt : (a b : ℕ) {n : ℕ} → 2 ^ a ≤ n → n < 2 ^ b → a < b
powers_lt a b l h = lt_of_not-le (λ q. omega (arith, pow_mono q, l, h))

-- the exponent of the power of two that a number reaches, and of which it does not reach the double
pub top_is : (n r : ℕ) → 2 ^ r ≤ n → n < 2 * 2 ^ r → n < 2 ^ 64 → r ≡ top_bit n
top_is n r l d h =
    let t = top n (omega (arith, l, pow_pos r)) h in
    omega (arith, powers_lt r (top_bit n + 1) l t.passes, powers_lt (top_bit n) (r + 1) t.reaches (omega (arith, d, pow-add 2 r 1)))

-- from 2^12 up the top bit is bit 12 or above
pub top_ge : (n : ℕ) → 2 ^ 12 ≤ n → n < 2 ^ 64 → 12 ≤ top_bit n
top_ge n l h =
    let t = top n (omega (arith, l)) h in
    let p = powers_lt 12 (top_bit n + 1) l t.passes in
    omega (arith, p)

-- the exponent and the code of a short count and of a long one
pub short_exponent : (n : ℕ) → n < 2 ^ 12 → exponent_of n ≡ 0
unfolding exponent_of
short_exponent n h = rw (lt-ltb n (2 ^ 12) h)

pub long_exponent : (n : ℕ) → 2 ^ 12 ≤ n → exponent_of n ≡ top_bit n - 11
unfolding exponent_of
long_exponent n h = rw (le-ltb n (2 ^ 12) h)

short_mantissa : (n : ℕ) → n < 2 ^ 12 → mantissa_of n ≡ n
unfolding mantissa_of
short_mantissa n h = rw (short_exponent n h) (omega (arith, h))

pub short_cc : (n : ℕ) → n < 2 ^ 12 → n ≡ cc_of n
short_cc n h = omega (arith, short_exponent n h, short_mantissa n h)

pub long_cc : (n e f : ℕ) → 2 ^ 12 ≤ n → e ≡ top_bit n - 11 → f ≡ field_at n (e - 1) 12 → e * 2 ^ 12 + f ≡ cc_of n
unfolding mantissa_of
long_cc n e f h p q = rw (long_exponent n h, q, p)

-- a count whose top bit is bit k + 12, without its k low bits: the top bit, and twelve more
scaled : (n k : ℕ) → 2 ^ (12 + k) ≤ n → n < 2 ^ (13 + k) → 2 ^ 12 + field_at n k 12 ≡ n / 2 ^ k
scaled n k l h =
    let a : n / 2 ^ k < 2 ^ 13 = shr_lt 13 k h in
    let b : 2 ^ 12 * 2 ^ k / 2 ^ k ≤ n / 2 ^ k = shr_mono k (subst (λ (x : ℕ). x ≤ n) (pow-add 2 12 k) l) in
    let c : 2 ^ 12 * 2 ^ k / 2 ^ k ≡ 2 ^ 12 = shl-shr (2 ^ 12) k in
    omega (arith, a, b, c)

-- so what such an exponent and mantissa stand for is the count without those bits
module _ (n k : ℕ) (l : 2 ^ (12 + k) ≤ n) (h : n < 2 ^ (13 + k)) where
  decoded : decoded_of (k + 1) (field_at n k 12) ≡ n / 2 ^ k * 2 ^ k
  unfolding decoded_of
  decoded =
      let z : k + 1 - 1 ≡ k = omega arith in
      rw (ne_eqb (k + 1) 0 (λ q. omega (arith, q)), z, scaled n k l h)

  not_above : decoded_of (k + 1) (field_at n k 12) ≤ n
  not_above = rw decoded (omega (arith, split n k))

  short_by : n < decoded_of (k + 1) (field_at n k 12) + 2 ^ k
  short_by = rw decoded (omega (arith, split n k, mod-lt n (pow_pos k)))

short_coding : (n : ℕ) → n < 2 ^ 12 → Coding n
unfolding mantissa_of decoded_of
short_coding n l =
    let e = short_exponent n l in
    record {
      exponent = rw e (omega arith);
      mantissa = omega arith;
      not_above = rw e (omega (arith, l));
      exact = (λ q. rw e (omega (arith, l)));
      short_by = (λ q. absurd (omega (arith, q, e)));
    }

pub coding : (n : ℕ) → n < counter_limit → Coding n
unfolding mantissa_of
coding n h = go (ltb n (2 ^ 12)) refl
  where
    long : 2 ^ 12 ≤ n → Coding n
    long l =
        let fits : n < 2 ^ 64 = omega (arith, h) in
        let t = top n (omega (arith, l)) fits in
        let g = top_ge n l fits in
        let k : ℕ = top_bit n - 12 in
        let e : exponent_of n ≡ k + 1 = long_exponent n l ∙ omega (arith, g) in
        let z : k + 1 - 1 ≡ k = omega arith in
        let a : 2 ^ (12 + k) ≤ n = subst (λ (x : ℕ). 2 ^ x ≤ n) (omega (arith, g)) t.reaches in
        let b : n < 2 ^ (13 + k) = subst (λ (x : ℕ). n < 2 ^ x) (omega (arith, g)) t.passes in
        record {
          exponent = omega (arith, e, powers_lt (12 + k) 27 a h);
          mantissa = omega arith;
          not_above = rw (e, z) (not_above n k a b);
          exact = (λ q. absurd (omega (arith, q, e)));
          short_by = (λ q. rw (e, z) (short_by n k a b));
        }

    go : (b : Bool) → ltb n (2 ^ 12) ≡ b → Coding n
    go true q = short_coding n (ltb-true _ _ q)
    go false q = long (ltb-false _ _ q)

-- of any number the code is small enough for ctrdata
exponent_le : (n : ℕ) → exponent_of n ≤ 52
unfolding exponent_of
exponent_le n = go (ltb n (2 ^ 12))
  where
    go : (b : Bool) → (if b then 0 else top_bit n - 11) ≤ 52
    go true = omega arith
    go false = omega arith

pub cc_lt : (n : ℕ) → cc_of n < 2 ^ 18
unfolding mantissa_of
cc_lt n = omega (arith, exponent_le n)

pub ccv_le : (ccv : Bool) → (if ccv then 2 ^ 15 else 0) ≤ 2 ^ 15
ccv_le true = omega arith
ccv_le false = omega arith

pub ruleset bounds = (cc_lt, ccv_le)
