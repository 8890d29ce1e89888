-- A row by the test that it is well-formed, where what is found of number 5 is given.
use Rattle.std.proofs.Common.{rules}
use Rattle.trace.specs.Rows.{retired_row}
use Rattle.trace.proofs.RunLaws.{run_given, run_no}
use Rattle.trace.proofs.runs.run_retired.Goals as goal

pub returns-then-is_retired_row : goal.returns-then-is_retired_row
unfolding retired_row
returns-then-is_retired_row c = search (rules, run_given)

pub returns-else-is_retired_row : goal.returns-else-is_retired_row
unfolding retired_row
returns-else-is_retired_row c = search (rules, run_no)
