-- The words up to an index are put, and those from there on are as they were.
use Rattle.std.proofs.Common.{◌≡◌, take, drop}
use Rattle.std.specs.Prelude.{map}
use Rattle.std.specs.Int.{w64, from_le_bytes}
use Rattle.console.proofs.put_words.Given as goal

abbrev pub invariant-loop-i : goal.invariant-loop-i
invariant-loop-i l =
    (take l.i l.words ≡ map (from_le_bytes w64) (take l.i l.eight-items)) × (drop l.i l.words ≡ drop l.i l.fn.words)
