use mathlib.Core.Path.{refl}
use Rattle.std.proofs.Common.{rules, ◌≡◌, ◌∙◌, ap, ℕ, ◌+◌, ◌<◌, ◌≤◌, List, length, take}
use native.Mathlib.Numerals.{add-one}
use lib.ListN.{get_or}
use lib.Seq.{take-suc, take_all}
use Rattle.text.specs.Page.{Page, with_byte, written}
use Rattle.text.proofs.Pages.{written_byte}
use Rattle.text.proofs.first_bytes_at.Goals as goal

-- one more byte of s
more : (p q r : Page) (s : List ℕ) (i : ℕ) → i < length s → q ≡ written p (take i s) → r ≡ with_byte q (get_or s i 0)
    → r ≡ written p (take (i + 1) s)
more p q r s i h e f = rw (add-one, take-suc s i 0, written_byte, ← e) f

-- all of s
all : (p q : Page) (s : List ℕ) (i : ℕ) → length s ≤ i → q ≡ written p (take i s) → q ≡ written p s
all p q s i h e = e ∙ ap (written p) (take_all i s h)

pub loop-b-init : goal.loop-b-init
unfolding written
loop-b-init c = refl

pub loop-b-preserved : goal.loop-b-preserved
loop-b-preserved c = more _ _ _ _ _ (search rules) c.loop-b.invariant c.byte_at-next.ensures

pub returns : goal.returns
returns c = all _ _ _ _ (search rules) c.loop-b.invariant
