use Rattle.std.proofs.Common.{◌≡◌, ℕ, ◌*◌, ◌/◌, ◌%◌, ◌^◌, ◌<◌, ◌∙◌, arith, rules}
use Rattle.std.specs.Prelude.{bit_or}
use lib.Bits.{or_shifted}
use Rattle.test_support.specs.Words.{rotated, digested}
use Rattle.test_support.proofs.digest.Goals as goal

-- the two parts have no bit in common, so joining them is their sum
joined : (h : ℕ) → h < 2 ^ 64 → bit_or (h * 2 ^ 5 % 2 ^ 64) (h / 2 ^ 59) ≡ rotated h
unfolding rotated
joined h l =
    let e : h * 2 ^ 5 % 2 ^ 64 ≡ h % 2 ^ 59 * 2 ^ 5 = omega arith in
    let k : h / 2 ^ 59 < 2 ^ 5 = omega arith in
    rw e (or_shifted (h % 2 ^ 59) 5 (h / 2 ^ 59) k)

pub returns : goal.returns
unfolding digested
returns c = rw (c.rotate_left.ensures ∙ joined c.args.h (search rules))
