use Rattle.std.proofs.Common.{◌++◌}
use Rattle.wu_report.proofs.WritingLemmas.{AppendsFront-after, AppendsFront-longer, Writes-after, Writes-failed}
use Rattle.wu_cli.specs.Endings.{fault_line}
use Rattle.wu_cli.specs.Linting.{found_text, line_text, wanted_text}
use Rattle.wu_cli.proofs.linting.text_of_unread.Goals as goal

pub returns : goal.returns
returns g c =
    let unread = c.args.unread.now in
    let line = line_text unread.line in
    let found = found_text unread.found in
    let wanted = wanted_text unread.kind unread.fault in
    Writes-after _ (g.W.Write.contents c.line_of_fault.new.out) _ (fault_line unread.fault) (line ++ (found ++ wanted)) _ c.in_ok-line_of_fault.ensures
    (Writes-after _ (g.W.Write.contents c.write_line_of.new.out) _ line (found ++ wanted) _ c.in_ok-write_line_of.ensures
    (Writes-after _ (g.W.Write.contents c.write_found.new.out) _ found wanted _ c.in_ok-write_found.ensures c.write_wanted_of.ensures))

pub returns-in_err-write_found : goal.returns-in_err-write_found
returns-in_err-write_found g c =
    let unread = c.args.unread.now in
    let line = line_text unread.line in
    let found = found_text unread.found in
    let wanted = wanted_text unread.kind unread.fault in
    Writes-failed _ _ _ c.from_residual-in_err-write_found.result c.from_residual-in_err-write_found.ensures.0
    (AppendsFront-after _ (g.W.Write.contents c.line_of_fault.new.out) _ (fault_line unread.fault) (line ++ (found ++ wanted)) c.in_ok-line_of_fault.ensures
    (AppendsFront-after _ (g.W.Write.contents c.write_line_of.new.out) _ line (found ++ wanted) c.in_ok-write_line_of.ensures
    (AppendsFront-longer _ _ found wanted c.in_err-write_found.ensures)))

pub returns-in_err-write_line_of : goal.returns-in_err-write_line_of
returns-in_err-write_line_of g c =
    let unread = c.args.unread.now in
    let rest = found_text unread.found ++ wanted_text unread.kind unread.fault in
    Writes-failed _ _ _ c.from_residual-in_err-write_line_of.result c.from_residual-in_err-write_line_of.ensures.0
    (AppendsFront-after _ (g.W.Write.contents c.line_of_fault.new.out) _ (fault_line unread.fault) (line_text unread.line ++ rest) c.in_ok-line_of_fault.ensures
    (AppendsFront-longer _ _ (line_text unread.line) rest c.in_err-write_line_of.ensures))

pub returns-in_err-line_of_fault : goal.returns-in_err-line_of_fault
returns-in_err-line_of_fault g c =
    let unread = c.args.unread.now in
    let rest = line_text unread.line ++ (found_text unread.found ++ wanted_text unread.kind unread.fault) in
    Writes-failed _ _ _ c.from_residual.result c.from_residual.ensures.0
    (AppendsFront-longer _ _ (fault_line unread.fault) rest c.in_err-line_of_fault.ensures)
