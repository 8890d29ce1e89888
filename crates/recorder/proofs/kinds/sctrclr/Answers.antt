-- What `decided` says of the decision is what the definition says of the event.
use Rattle.std.proofs.Common.{rules}
use Rattle.recorder.specs.Decisions.{event_of}
use Rattle.recorder.specs.Events.{focus_of}
use Rattle.recorder.proofs.Laws.{decided_step, bad_step}
use Rattle.recorder.proofs.kinds.sctrclr.Goals as goal

pub returns-then-not-is_good : goal.returns-then-not-is_good
returns-then-not-is_good c = bad_step _ _ _ _ (search rules) c.refuse_bad.ensures

pub returns : goal.returns
unfolding focus_of event_of
returns c = decided_step _ _ _ _ _ _ _ (search rules) c.decided.ensures (search rules) (λ d p. search rules)
