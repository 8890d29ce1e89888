-- What follows of a row that is well-formed. Assumes nothing.
use Prim.Native.Nat.{ℕ, ◌^◌, ◌<◌}
use mathlib.Core.Path.{◌≡◌}
use mathlib.Core.Bool.{true}
use lib.Dec.{ltb}
use borrow.Author.Tests.{ltb-true}
use Rattle.bits.proofs.Cases.{both}
use Rattle.trace.specs.Rows.{fits_retired, is_retired_row}

-- its instruction is below 2^32
pub word_lt : (w word : ℕ) → is_retired_row w word ≡ true → word < 2 ^ 32
unfolding is_retired_row
word_lt w word h = ltb-true _ _ (both (fits_retired w) (ltb word (2 ^ 32)) h).1
