-- Of the digits all but the last `k` are written.
use Rattle.std.proofs.Common.{◌≡◌, ◌-◌, ◌/◌, ◌^◌, ◌≤◌}
use Rattle.text.specs.Page.{page, written}
use Rattle.text.specs.Digits.{digits}
use Rattle.text.proofs.hex_at.Given as goal

abbrev pub invariant-loop-k : goal.invariant-loop-k
invariant-loop-k l =
    (l.k ≤ l.width) × (page l.next l.bytes ≡ written (page l.at l.fn.bytes) (digits 16 (l.width - l.k) (l.x / 16 ^ l.k)))
