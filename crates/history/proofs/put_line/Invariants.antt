-- With what is left of the line all of it is put.
use Rattle.std.proofs.Common.{◌≡◌, ◌≤◌, drop}
use Rattle.text.specs.Page.{OneBuffer, shown, written}
use Rattle.history.specs.Lines.{line_from}
use Rattle.history.proofs.put_line.Given as goal

abbrev pub invariant-loop-b : goal.invariant-loop-b
invariant-loop-b l =
    (l.line ≤ l.b-index) × OneBuffer l.page l.fn.page × (written (shown l.fn.page) (line_from 0 l.n l.lines) ≡ written (shown l.page) (line_from l.line l.n (drop l.b-index l.lines)))
