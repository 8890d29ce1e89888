-- `dump::offsets::short_branch_offset` meets its contract. Assumes nothing.
use Rattle.std.proofs.Common.{rules}
use Rattle.dump.specs.Offsets.{CB·offset}
use Rattle.dump.proofs.offsets.short_branch_offset.Goals as goal

pub returns : goal.returns
unfolding CB·offset
returns c = search rules
