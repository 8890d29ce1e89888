-- A step keeps a word for each entry.
use Rattle.std.proofs.Common.{sym}
use Rattle.recorder.proofs.Laws.{whole_after}
use Rattle.recorder.proofs.steps.step.Goals as goal

pub returns-clause-whole : goal.returns-clause-whole
returns-clause-whole c = whole_after _ _ _ (sym c.step_in_place-a.ensures) (record { ctrsource = search; ctrtarget = search; ctrdata = search })
