-- A row by the test that it is well-formed.
use Rattle.std.proofs.Common.{rules}
use Rattle.trace.specs.Rows.{access_row}
use Rattle.trace.proofs.RunLaws.{run_yes, run_no}
use Rattle.trace.proofs.runs.run_access.Goals as goal

pub returns-then-is_access_row : goal.returns-then-is_access_row
unfolding access_row
returns-then-is_access_row c = search (rules, run_yes)

pub returns-else-is_access_row : goal.returns-else-is_access_row
unfolding access_row
returns-else-is_access_row c = search (rules, run_no)
