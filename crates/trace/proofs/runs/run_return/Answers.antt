-- A row by the test that it is well-formed.
use Rattle.std.proofs.Common.{rules}
use Rattle.trace.specs.Rows.{return_row}
use Rattle.trace.proofs.RunLaws.{run_yes, run_no}
use Rattle.trace.proofs.runs.run_return.Goals as goal

pub returns-then-is_return_row : goal.returns-then-is_return_row
unfolding return_row
returns-then-is_return_row c = search (rules, run_yes)

pub returns-else-is_return_row : goal.returns-else-is_return_row
unfolding return_row
returns-else-is_return_row c = search (rules, run_no)
