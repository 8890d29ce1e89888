-- What `transfers::counts::long_exponent` needs: the top bit is bit 12 or above. Assumes nothing.
use Rattle.std.proofs.Common.{arith}
use Rattle.transfers.proofs.CountLaws.{top_is, top_ge}
use Rattle.transfers.proofs.counts.long_exponent.Goals as goal

pub overflow_sub-result : goal.overflow_sub-result
overflow_sub-result c =
    let n = c.args.n in
    let e = c.ilog2.ensures in
    omega (arith, top_is n c.ilog2.result e.power_le e.next_power_gt (omega arith), top_ge n c.requires (omega arith))
