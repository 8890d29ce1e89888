use mathlib.Core.Path.{refl}
use Rattle.std.proofs.Common.{rules, ◌≡◌, ◌∙◌, ◌+◌, ◌≤◌, ℕ, List, length}
use native.Mathlib.Numerals.{add-one}
use native.Mathlib.Omega.{arith}
use lib.ListN.{get_or}
use Rattle.text.specs.Page.{Page}
use Rattle.sweep_support.specs.Lines.{numbered_line, numbered_lines}
use Rattle.sweep_support.proofs.lines.put_counts.Goals as goal

-- one more line
more : (p q r : Page) (name counts : List ℕ) (k : ℕ) → q ≡ numbered_lines p name counts k
    → r ≡ numbered_line q name k (get_or counts k 0) → r ≡ numbered_lines p name counts (k + 1)
unfolding numbered_lines
more p q r name counts k e f = rw (add-one, ← e) f

-- all lines
all : (p q : Page) (name counts : List ℕ) (k : ℕ) → k ≤ length counts → length counts ≤ k → q ≡ numbered_lines p name counts k
    → q ≡ numbered_lines p name counts (length counts)
all p q name counts k h l e =
    let z : length counts ≡ k = omega arith in
    rw z e

pub loop-k-init : goal.loop-k-init
unfolding numbered_lines
loop-k-init c = (refl, refl)

pub loop-k-preserved : goal.loop-k-preserved
loop-k-preserved c = (c.put_numbered.ensures.same_buffer ∙ c.loop-k.invariant.0, more _ _ _ _ _ _ c.loop-k.invariant.1 c.put_numbered.ensures.put)

pub returns-clause-put : goal.returns-clause-put
returns-clause-put c = all _ _ _ _ _ (search rules) (search rules) c.loop-k.invariant.1
