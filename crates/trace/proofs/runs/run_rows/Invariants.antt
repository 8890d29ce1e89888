-- The rows so far are run, and none of them is malformed.
use Rattle.std.proofs.Common.{◌≡◌, length}
use Rattle.machine.specs.Good.{good_of}
use Rattle.recorder.specs.Steps.{state_of}
use Rattle.trace.specs.Runs.{leading, run_of}
use Rattle.trace.proofs.runs.run_rows.Given as goal

abbrev pub invariant-loop-i : goal.invariant-loop-i
invariant-loop-i l = record {
  room : length l.answers ≡ length l.initial.answers;
  well_formed : leading l.rows l.i ≡ l.i;
  run : run_of l.rows (state_of l.initial.registers l.initial.entries) l.initial.answers l.i ≡ record { state = state_of l.registers l.entries; answers = l.answers };
  found : l.good ≡ good_of l.registers;
}
