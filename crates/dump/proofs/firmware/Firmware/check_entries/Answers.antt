-- `dump::firmware::Firmware::check_entries` meets its contract. Assumes nothing.
use Rattle.std.proofs.Common.{Err, sym, ap, ◌∙◌, rules}
use Rattle.std.proofs.lemmas.Result.{err_from_is_err_and, MatchResult-weaker}
use Rattle.dump.proofs.Scans.{Indexed, read, stops, goes_on, ends}
use Rattle.dump.proofs.firmware.Firmware.check_entries.Goals as goal

pub returns-in_err-map_err : goal.returns-in_err-map_err
returns-in_err-map_err c =
    let h : Indexed c.loop-i.i-counter c.verdict_of.result c.map_err.result =
    MatchResult-weaker c.verdict_of.result c.map_err.ensures.cases (λ x e. e) (λ e q. search rules) in
    let p = err_from_is_err_and c.from_residual.result c.from_residual.ensures.1 in
    let v = c.verdict_of.ensures ∙ read _ _ _ _ _ _ _ c.as_chunks.ensures.front (search rules) in
    p.1 ∙ ap Err p.2 ∙ sym (c.loop-i.invariant ∙ stops _ _ _ _ _ _ (search rules) _ _ _ v h c.in_err-map_err.was)

pub loop-i-preserved : goal.loop-i-preserved
loop-i-preserved c =
    let h : Indexed c.loop-i.i-counter c.verdict_of.result c.map_err.result =
    MatchResult-weaker c.verdict_of.result c.map_err.ensures.cases (λ x e. e) (λ e q. search rules) in
    let v = c.verdict_of.ensures ∙ read _ _ _ _ _ _ _ c.as_chunks.ensures.front (search rules) in
    c.loop-i.invariant ∙ goes_on _ _ _ _ _ _ (search rules) _ _ _ v h c.in_ok-map_err.was

pub returns : goal.returns
returns c = sym (c.loop-i.invariant ∙ ends _ _ _ _ _ _ (search rules))
