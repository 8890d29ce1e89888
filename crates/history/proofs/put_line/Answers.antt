use Rattle.std.proofs.Common.{rules, ◌∙◌}
use Rattle.history.proofs.LineLaws.{ended, put, passed, none}
use Rattle.history.proofs.put_line.Goals.{then-b-eq-NEWLINE, else-b-eq-NEWLINE+then-line-n, else-b-eq-NEWLINE+else-line-n}
use Rattle.history.proofs.put_line.Goals as goal

pub loop-b-preserved : goal.loop-b-preserved
loop-b-preserved c =
    let h = c.loop-b.invariant.2 in
    let o = c.loop-b.invariant.1 in
    let s = c.args.lines.now in
    let i = c.loop-b.b-index in
    elim c.if-b-eq-NEWLINE.branch [
      | then-b-eq-NEWLINE w ↦ (search rules, rw w.page-is o, rw (w.page-is, w.line-is) (ended _ _ s _ _ i h (search rules) (search rules)))
      | else-b-eq-NEWLINE+then-line-n w ↦ (search rules, rw w.page-is (w.put_byte.ensures.same_buffer ∙ o), rw (w.page-is, w.line-is) (put _ _ _ s _ _ i h w.put_byte.ensures.put (search rules) (search rules) (search rules)))
      | else-b-eq-NEWLINE+else-line-n w ↦ (search rules, rw w.page-is o, rw (w.page-is, w.line-is) (passed _ _ s _ _ i h (search rules) (search rules) (search rules)))
    ]

pub returns-clause-put : goal.returns-clause-put
returns-clause-put c = none _ _ c.args.lines.now _ _ c.loop-b.b-index c.loop-b.invariant.2 (search rules)
