use Rattle.std.proofs.Common.{rules, ◌≡◌, ◌-◌, ◌/◌, ◌%◌, ◌≤◌, ◌<◌, ℕ, zero, suc}
use mathlib.Core.Path.{refl}
use native.Mathlib.Numerals.{sub-one}
use borrow.Author.Tests.{lt-ltb, le-ltb}
use Rattle.text.specs.Page.{Page, with_byte, written}
use Rattle.text.specs.Digits.{glyph, number}
use Rattle.text.proofs.Pages.{written_byte}
use Rattle.text.proofs.+number_at.Goals as goal

-- no digit, one digit, and one more
none : (p : Page) (b m n : ℕ) → m ≡ 0 → p ≡ written p (number b m n)
unfolding written number
none p b m n h = rw h

one : (p r : Page) (b m n g : ℕ) → (m ≡ 0 → ⊥) → n < b → g ≡ glyph n → r ≡ with_byte p g → r ≡ written p (number b m n)
unfolding written number
one p r b zero n g h l e f = absurd (h refl)
one p r b (suc m) n g h l e f = rw (lt-ltb n b l, ← e) f

more : (p q r : Page) (b m n g : ℕ) → (m ≡ 0 → ⊥) → b ≤ n → q ≡ written p (number b (m - 1) (n / b)) → g ≡ glyph (n % b)
    → r ≡ with_byte q g → r ≡ written p (number b m n)
unfolding number
more p q r b zero n g h l e f u = absurd (h refl)
more p q r b (suc m) n g h l e f u =
    let v : q ≡ written p (number b m (n / b)) = rw (sub-one (suc m)) at e in
    rw (le-ltb n b l, written_byte, ← f, ← v) u

pub returns-then-most-eq0 : goal.returns-then-most-eq0
returns-then-most-eq0 t c = none _ _ _ _ (search rules)

pub returns-then-n-base : goal.returns-then-n-base
returns-then-n-base t c = one _ _ _ _ _ _ (search rules) (search rules) c.ascii.ensures c.byte_at.ensures

pub returns : goal.returns
returns t c = more _ _ _ _ _ _ _ (search rules) (search rules) c.number_at-next.ensures c.ascii-2.ensures c.byte_at-2.ensures
