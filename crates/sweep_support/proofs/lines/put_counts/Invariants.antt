-- The first k lines are put.
use Rattle.std.proofs.Common.{◌≡◌}
use Rattle.text.specs.Page.{OneBuffer, shown}
use Rattle.sweep_support.specs.Lines.{numbered_lines}
use Rattle.sweep_support.proofs.lines.put_counts.Given as goal

abbrev pub invariant-loop-k : goal.invariant-loop-k
invariant-loop-k l = OneBuffer l.page l.fn.page × (shown l.page ≡ numbered_lines (shown l.fn.page) l.name l.counts l.k)
