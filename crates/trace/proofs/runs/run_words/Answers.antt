-- A retired word by its word 0.
use Rattle.std.proofs.Common.{rules}
use Rattle.trace.proofs.RunLaws.{retired_first}
use Rattle.trace.proofs.runs.run_words.Goals as goal

pub returns-then-is_retired_head : goal.returns-then-is_retired_head
returns-then-is_retired_head c = search (rules, retired_first)
