use mathlib.Core.Path.{refl}
use Rattle.std.proofs.Common.{rules, ◌≡◌, ◌∙◌, ◌+◌, ◌≤◌, ℕ, List, length}
use native.Mathlib.Numerals.{add-one}
use native.Mathlib.Omega.{arith}
use lib.ListN.{get_or}
use Rattle.text.specs.Page.{Page, with_byte}
use Rattle.sweep_support.specs.Lines.{newline, cell, cells, row_line}
use Rattle.sweep_support.proofs.lines.put_row.Goals as goal

-- one more count
more : (p q r : Page) (counts : List ℕ) (k : ℕ) → q ≡ cells p counts k → r ≡ cell q (get_or counts k 0) → r ≡ cells p counts (k + 1)
unfolding cells
more p q r counts k e f = rw (add-one, ← e) f

-- all counts, and the end of the line
all : (p q r : Page) (counts : List ℕ) (k : ℕ)
    → k ≤ length counts → length counts ≤ k → q ≡ cells p counts k → r ≡ with_byte q newline → r ≡ row_line p counts
unfolding row_line
all p q r counts k h l e f =
    let z : length counts ≡ k = omega arith in
    rw (z, ← e) f

pub loop-count-init : goal.loop-count-init
unfolding cells
loop-count-init c = (refl, refl)

pub loop-count-preserved : goal.loop-count-preserved
loop-count-preserved c = (c.put_cell.ensures.same_buffer ∙ c.loop-count.invariant.0, more _ _ _ _ _ c.loop-count.invariant.1 c.put_cell.ensures.put)

pub returns-clause-put : goal.returns-clause-put
returns-clause-put c = all _ _ _ _ _ (search rules) (search rules) c.loop-count.invariant.1 c.put_byte.ensures.put
