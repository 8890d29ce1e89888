use Rattle.std.proofs.Common.{rules, ◌≡◌, ◌-◌, ◌/◌, ◌%◌, ◌^◌, ◌≤◌, ◌<◌, ℕ}
use native.Mathlib.Nat.{sub_self, sub-zero, div-one}
use native.Mathlib.Omega.{arith}
use Rattle.text.specs.Page.{Page, with_byte, written}
use Rattle.text.specs.Digits.{glyph, digits}
use Rattle.text.proofs.Pages.{written_byte}
use Rattle.text.proofs.Digits.{next_digit}
use Rattle.text.proofs.hex_at.Goals as goal

-- no digit, one more, and all
none : (p : Page) (x w : ℕ) → p ≡ written p (digits 16 (w - w) (x / 16 ^ w))
unfolding written digits
none p x w = rw (sub_self w)

more : (p q r : Page) (x w l d g : ℕ) → 0 < l → l ≤ w → q ≡ written p (digits 16 (w - l) (x / 16 ^ l))
    → d ≡ x / 16 ^ (l - 1) % 16 → g ≡ glyph d → r ≡ with_byte q g → r ≡ written p (digits 16 (w - (l - 1)) (x / 16 ^ (l - 1)))
more p q r x w l d g h k e f v u = rw (next_digit 16 x w l h k, written_byte, ← e, ← f, ← v) u

all : (p q : Page) (x w l : ℕ) → l ≤ 0 → q ≡ written p (digits 16 (w - l) (x / 16 ^ l)) → q ≡ written p (digits 16 w x)
all p q x w l h e =
    let z : l ≡ 0 = omega arith in
    rw (z, sub-zero w, div-one x) at e

pub loop-k-init : goal.loop-k-init
loop-k-init c = (search rules, none _ _ _)

pub loop-k-preserved : goal.loop-k-preserved
loop-k-preserved c =
    (search rules, more _ _ _ _ _ _ _ _ (search rules) c.loop-k.invariant.0 c.loop-k.invariant.1 c.hex_digit.ensures c.ascii.ensures c.byte_at-next.ensures)

pub returns : goal.returns
returns c = all _ _ _ _ _ (search rules) c.loop-k.invariant.1
