-- The first i entries are taken in.
use Rattle.std.proofs.Common.{◌≡◌}
use Rattle.sweep_support.specs.Digests.{with_entries}
use Rattle.sweep_support.proofs.states.digest_state.Given as goal

abbrev pub invariant-loop-i : goal.invariant-loop-i
invariant-loop-i l = l.d ≡ with_entries l.initial.d l.entries l.i
