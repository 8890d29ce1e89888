-- 6 comes first, then 7, and else the rows are run.
use Rattle.trace.proofs.RunLaws.{six, seven, with_room}
use Rattle.trace.proofs.runs.replay_in_place.Goals as goal

pub returns-then-rows-ne0 : goal.returns-then-rows-ne0
returns-then-rows-ne0 c = six _ _ _ c.if-rows-ne0.true

pub returns-then-answers-n : goal.returns-then-answers-n
returns-then-answers-n c = seven _ _ _ c.if-rows-ne0.false c.if-answers-n.true

pub returns-else-answers-n : goal.returns-else-answers-n
returns-else-answers-n c = with_room _ _ _ _ c.if-rows-ne0.false c.if-answers-n.false c.run_rows.ensures
