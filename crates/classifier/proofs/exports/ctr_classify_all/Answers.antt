use Rattle.std.proofs.Common.{arith, rules}
use Rattle.classifier.proofs.Filled.{filled}
use Rattle.classifier.proofs.exports.ctr_classify_all.Goals as goal

pub returns-then-min-lt-LONG-clause-filled : goal.returns-then-min-lt-LONG-clause-filled
returns-then-min-lt-LONG-clause-filled c =
    let n = c.sort.ensures.count in
    filled c.args.zc c.args.words.now c.args.types.now _ (search rules) (λ k h. let p = c.sort.ensures.sorted k (omega arith) in search rules) (λ k d h. c.sort.ensures.rest k d (omega arith))

pub returns-else-min-lt-LONG-clause-filled : goal.returns-else-min-lt-LONG-clause-filled
returns-else-min-lt-LONG-clause-filled c =
    let n = c.sort-else-min-lt-LONG.ensures.count in
    filled c.args.zc c.args.words.now c.args.types.now _ (search rules) (λ k h. let p = c.sort-else-min-lt-LONG.ensures.sorted k (omega arith) in search rules) (λ k d h. c.sort-else-min-lt-LONG.ensures.rest k d (omega arith))
