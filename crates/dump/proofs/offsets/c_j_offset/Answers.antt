-- `dump::offsets::c_j_offset` meets its contract. Assumes nothing.
use Rattle.std.proofs.Common.{rules}
use Rattle.dump.specs.Offsets.{CJ·offset}
use Rattle.dump.proofs.offsets.c_j_offset.Goals as goal

pub returns : goal.returns
unfolding CJ·offset
returns c = search rules
