-- `dump::firmware::Firmware::check_entries` meets its contract: the entries that are left give the answer. Assumes nothing.
use Rattle.std.proofs.Common.{◌≡◌, ◌-◌, ◌/◌, length}
use Rattle.dump.specs.Checks.{checked_from}
use Rattle.dump.proofs.firmware.Firmware.check_entries.Given as goal

abbrev pub invariant-loop-i : goal.invariant-loop-i
invariant-loop-i l =
    checked_from l.self.code.now l.self.base l.self.zc l.words 0 (length l.words / 3)
    ≡ checked_from l.self.code.now l.self.base l.self.zc l.words l.i-counter (length l.words / 3 - l.i-counter)
