-- The outcome is that of the word, and its record, counter and RASEMU are those of the definition.
use Rattle.std.proofs.Common.{rules}
use Rattle.recorder.proofs.Laws.{live_step}
use Rattle.recorder.proofs.kinds.retire_live.Goals as goal

pub returns : goal.returns
returns c = search (rules, live_step)
