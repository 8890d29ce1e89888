-- `dump::offsets::wide_branch_offset` meets its contract. Assumes nothing.
use Rattle.std.proofs.Common.{rules}
use Rattle.dump.specs.Offsets.{B·offset}
use Rattle.dump.proofs.offsets.wide_branch_offset.Goals as goal

pub returns : goal.returns
unfolding B·offset
returns c = search rules
