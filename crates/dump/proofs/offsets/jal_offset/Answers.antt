-- `dump::offsets::jal_offset` meets its contract. Assumes nothing.
use Rattle.std.proofs.Common.{rules}
use Rattle.dump.specs.Offsets.{J·offset}
use Rattle.dump.proofs.offsets.jal_offset.Goals as goal

pub returns : goal.returns
unfolding J·offset
returns c = search rules
