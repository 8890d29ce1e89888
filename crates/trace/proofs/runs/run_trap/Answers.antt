-- A row by the test that it is well-formed.
use Rattle.std.proofs.Common.{rules}
use Rattle.trace.specs.Rows.{trap_row}
use Rattle.trace.proofs.RunLaws.{run_yes, run_no}
use Rattle.trace.proofs.runs.run_trap.Goals as goal

pub returns-then-is_trap_row : goal.returns-then-is_trap_row
unfolding trap_row
returns-then-is_trap_row c = search (rules, run_yes)

pub returns-else-is_trap_row : goal.returns-else-is_trap_row
unfolding trap_row
returns-else-is_trap_row c = search (rules, run_no)
