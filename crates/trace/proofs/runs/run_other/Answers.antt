-- A row by its kind.
use Rattle.std.proofs.Common.{rules}
use Rattle.trace.specs.Rows.{row_by}
use Rattle.trace.proofs.RunLaws.{other_kind, by_kind}
use Rattle.trace.proofs.runs.run_other.Goals as goal

pub returns-in-1 : goal.returns-in-1
unfolding row_by
returns-in-1 c = by_kind _ _ _ _ _ _ _ c.kind.ensures (rw c.in-1.is c.run_trap.ensures)

pub returns-in-2 : goal.returns-in-2
unfolding row_by
returns-in-2 c = by_kind _ _ _ _ _ _ _ c.kind.ensures (rw c.in-2.is c.run_return.ensures)

pub returns-in-3 : goal.returns-in-3
unfolding row_by
returns-in-3 c = by_kind _ _ _ _ _ _ _ c.kind.ensures (rw c.in-3.is c.run_access.ensures)

pub returns-in-4 : goal.returns-in-4
unfolding row_by
returns-in-4 c = by_kind _ _ _ _ _ _ _ c.kind.ensures (rw c.in-4.is c.run_sctrclr.ensures)

pub returns-in-5 : goal.returns-in-5
unfolding row_by
returns-in-5 c = by_kind _ _ _ _ _ _ _ c.kind.ensures (rw c.in-5.is c.run_host.ensures)

pub returns-in_default : goal.returns-in_default
returns-in_default c = search (rules, other_kind, by_kind)
