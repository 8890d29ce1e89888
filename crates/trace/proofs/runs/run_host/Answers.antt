-- A row by the test that it is well-formed.
use Rattle.std.proofs.Common.{rules}
use Rattle.trace.specs.Rows.{plain_row}
use Rattle.trace.proofs.RunLaws.{run_yes, run_no}
use Rattle.trace.proofs.runs.run_host.Goals as goal

pub returns-then-is_plain_row : goal.returns-then-is_plain_row
unfolding plain_row
returns-then-is_plain_row c = search (rules, run_yes)

pub returns-else-is_plain_row : goal.returns-else-is_plain_row
unfolding plain_row
returns-else-is_plain_row c = search (rules, run_no)
