use Rattle.std.proofs.Common.{ℕ, ◌<◌, slice_index}
use Rattle.std.specs.List.{SameFrom}
use Rattle.classifier.proofs.runs.sort.Given as goal

abbrev pub invariant-loop-i : goal.invariant-loop-i
invariant-loop-i g l =
    ((k : ℕ) → k < l.i → goal.F-post g l.type_of (slice_index l.words k) (slice_index l.types k))
    × SameFrom l.fn.types l.types l.i
