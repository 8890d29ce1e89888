-- A run keeps a word for each entry.
use Rattle.trace.proofs.RunLaws.{whole_after}
use Rattle.trace.proofs.runs.replay.Goals as goal

pub returns-clause-whole : goal.returns-clause-whole
returns-clause-whole c =
    -- what the types of the fields of s.entries say of them
    let typed = c.well_formed.0.1.1.1.0.1.1 in
    whole_after _ _ _ _ c.replay_in_place-q.ensures (record { ctrsource = search; ctrtarget = search; ctrdata = search })
