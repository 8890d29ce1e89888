-- The depth, once over the depth code: a mask of it is a remainder, and where logical entries lie. Assumes nothing.
use mathlib.Core.Path.{◌≡◌, sym, ◌∙◌}
use Prim.Native.Nat.{ℕ, ◌+◌, ◌-◌, ◌*◌, ◌%◌, ◌^◌, ◌≤◌, ◌<◌, min}
use native.Mathlib.Omega.{arith}
use native.Mathlib.Nat.{mod-lt}
use lib.Bits.{bit_and, and_mask}
use lib.Pow.{pow-add, pow_pos, pow_mono, shl_exact}
use Rattle.machine.specs.Depths.{top_code, depth_of}

-- 16 << k
pub shifted : (k : ℕ) → k ≤ top_code → 16 * 2 ^ k % 2 ^ 64 ≡ 2 ^ (4 + k)
shifted k h = shl_exact {a = 16} 5 k 64 (omega arith) (omega arith) ∙ sym (pow-add 2 4 k)

pub depth_pos : (c : ℕ) → 0 < depth_of c
unfolding depth_of
depth_pos c = pow_pos (4 + min c top_code)

pub depth_le : (c : ℕ) → depth_of c ≤ 2 ^ (4 + top_code)
unfolding depth_of
depth_le c = pow_mono {i = 4 + min c top_code} {j = 4 + top_code} (omega arith)

pub depth_ge : (c : ℕ) → 2 ^ 4 ≤ depth_of c
unfolding depth_of
depth_ge c = pow_mono {i = 4} {j = 4 + min c top_code} (omega arith)

-- x & (depth - 1)
pub mask_at : (x c : ℕ) → bit_and x (depth_of c - 1) ≡ x % depth_of c
unfolding depth_of
mask_at x c = and_mask x (4 + min c top_code)

-- a number modulo the depth is below the largest depth
pub wrapped_lt : (x c : ℕ) → x % depth_of c < 2 ^ (4 + top_code)
wrapped_lt x c = omega (arith, mod-lt x (depth_pos c), depth_le c)

pub ruleset bounds = (depth_pos, depth_le, wrapped_lt)
