-- The counts up to an index are put.
use Rattle.std.proofs.Common.{◌≡◌}
use Rattle.text.specs.Page.{OneBuffer, shown}
use Rattle.sweep_support.specs.Lines.{cells}
use Rattle.sweep_support.proofs.lines.put_row.Given as goal

abbrev pub invariant-loop-count : goal.invariant-loop-count
invariant-loop-count l = OneBuffer l.page l.fn.page × (shown l.page ≡ cells (shown l.fn.page) l.counts l.count-index)
