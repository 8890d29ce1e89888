-- The bytes up to an index are written.
use Rattle.std.proofs.Common.{◌≡◌, take}
use Rattle.text.specs.Page.{page, written}
use Rattle.text.proofs.first_bytes_at.Given as goal

abbrev pub invariant-loop-b : goal.invariant-loop-b
invariant-loop-b l = page l.next l.bytes ≡ written (page l.at l.fn.bytes) (take l.b-index l.s)
