use Rattle.classifier.specs.Tables.{Tabled}
use Rattle.classifier.proofs.tables.filled_table.Given as goal

abbrev pub invariant-loop-i : goal.invariant-loop-i
invariant-loop-i l = Tabled l.zc l.i l.place-items
