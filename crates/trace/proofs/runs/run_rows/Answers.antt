-- One row more, a malformed row, and the end.
use Rattle.std.proofs.Common.{◌≡◌, ◌∙◌, refl, sym, Some, None, arith, rules}
use Rattle.recorder.specs.Steps.{state_of}
use Rattle.trace.specs.Runs.{row_at, row_run_of, row_ran, leading, run_of}
use Rattle.trace.proofs.RunLaws.{row_yes, row_good, again, leading_more, ended, stopped}
use Rattle.trace.proofs.runs.run_rows.Goals as goal

pub loop-i-init : goal.loop-i-init
unfolding leading run_of
loop-i-init c = record { room = refl; well_formed = refl; run = refl; found = search rules }

pub returns-in_default : goal.returns-in_default
returns-in_default c =
    let loop = c.loop-i.invariant in
    rw (← c.apart-registers.ensures)
    (stopped _ _ _ _ _ _ _ (row_ran c.loop-i.registers None c.run_row.new.entries) c.loop-i-test.true loop.well_formed loop.run (search rules) refl)

pub loop-i-preserved : goal.loop-i-preserved
loop-i-preserved c =
    let loop = c.loop-i.invariant in
    let r = c.loop-i.registers in
    let s = state_of r c.loop-i.entries in
    let row = row_at c.args.rows.now c.loop-i.i in
    let q = row_ran r (Some c.in-Some.row) c.run_row.new.entries in
    let ran : row_run_of s row ≡ q = search rules in
    record {
      room = search rules;
      well_formed = leading_more _ _ loop.well_formed (row_yes s row q ran refl);
      run = rw c.apart-registers-in-loop-i.ensures (again _ _ s _ _ _ _ q loop.run ran refl c.answer.ensures);
      found = rw c.apart-registers-in-loop-i.ensures (loop.found ∙ sym (row_good s row q ran));
    }

pub returns : goal.returns
returns c =
    let loop = c.loop-i.invariant in
    rw (← c.apart-registers.ensures) (ended _ _ _ _ _ _ c.loop-i.i (omega arith) loop.well_formed loop.run)
