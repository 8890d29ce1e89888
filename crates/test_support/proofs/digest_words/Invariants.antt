-- The words up to an index are taken in.
use Rattle.std.proofs.Common.{◌≡◌, take}
use Rattle.test_support.specs.Words.{digested_all}
use Rattle.test_support.proofs.digest_words.Given as goal

abbrev pub invariant-loop-w : goal.invariant-loop-w
invariant-loop-w l = l.d ≡ digested_all l.h (take l.w-index l.words)
