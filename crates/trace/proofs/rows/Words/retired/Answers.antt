-- The instruction is below 2^32.
use Rattle.std.proofs.Common.{arith}
use Rattle.trace.proofs.RowLaws.{word_lt}
use Rattle.trace.proofs.rows.Words.retired.Goals as goal

pub overflow_cast-result : goal.overflow_cast-result
overflow_cast-result c = omega (arith, word_lt c.args.self.zero c.args.self.one c.requires)
