use Rattle.wu_schema.proofs.Words.{Option, state, subst, sym}
use Rattle.std.specs.Prelude.{IfSome}
use Rattle.wu_check.specs.Examining.{Examines}
use Rattle.wu_check.specs.Findings.{HasHostOfOtherSums}
use Rattle.wu_check.specs.declared.finding.Finding.TheVariants as finding
use Rattle.wu_loader.specs.declared.totals.OtherSums.{OtherSums}
use Rattle.wu_schema.specs.Asking.{ServesUnlessFailed}
use Rattle.wu_store.proofs.AskLemmas.{opens_handed}
use Rattle.wu_check.proofs.ExamineLemmas.{SumsIn, TellsOfRow, examines_fault, examines_made, examines_sums, sums_open}
use Rattle.wu_check.proofs.checking.finding_of_row.Goals as goal

pub returns-in_err-found-clause-examines : goal.returns-in_err-found-clause-examines
returns-in_err-found-clause-examines g c =
    examines_fault g.S.Store c.args.conn.now c.other_sums.new.conn (SumsIn c.args.wrong) c.in_err-found.field-0.0 (TellsOfRow c.args.wrong)
    (subst (λ r. Examines g.S.Store c.args.conn.now c.other_sums.new.conn r (SumsIn c.args.wrong)) (sym c.in_err-found.ensures) (examines_sums g.S.Store c.args.conn.now c.other_sums.new.conn c.args.wrong c.in-Host.is c.other_sums.result c.other_sums.ensures))
    c.from_residual.result c.from_residual.ensures.1

pub returns-in-Some-clause-examines : goal.returns-in-Some-clause-examines
returns-in-Some-clause-examines g c =
    examines_made g.S.Store c.args.conn.now c.other_sums.new.conn (SumsIn c.args.wrong) c.in_ok-found.found (finding.Sums c.in-Some.sums) (TellsOfRow c.args.wrong)
    (λ told row. subst (λ (found : Option OtherSums). IfSome found (HasHostOfOtherSums (state g.S.Store c.args.conn.now).now)) c.in-Some.is (told row))
    (subst (λ r. Examines g.S.Store c.args.conn.now c.other_sums.new.conn r (SumsIn c.args.wrong)) (sym c.in_ok-found.ensures) (examines_sums g.S.Store c.args.conn.now c.other_sums.new.conn c.args.wrong c.in-Host.is c.other_sums.result c.other_sums.ensures))

pub returns-in-None-clause-examines : goal.returns-in-None-clause-examines
returns-in-None-clause-examines g c =
    examines_made g.S.Store c.args.conn.now c.other_sums.new.conn (SumsIn c.args.wrong) c.in_ok-found.found (finding.Row c.args.wrong) (TellsOfRow c.args.wrong) (λ told row. row)
    (subst (λ r. Examines g.S.Store c.args.conn.now c.other_sums.new.conn r (SumsIn c.args.wrong)) (sym c.in_ok-found.ensures) (examines_sums g.S.Store c.args.conn.now c.other_sums.new.conn c.args.wrong c.in-Host.is c.other_sums.result c.other_sums.ensures))

pub returns-in-Some-clause-stays : goal.returns-in-Some-clause-stays
returns-in-Some-clause-stays g c was = subst (ServesUnlessFailed g.S.Store c.other_sums.new.conn) (sym c.in_ok-found.ensures) (sums_open g.S.Store c.args.conn.now c.other_sums.new.conn c.other_sums.result c.other_sums.ensures)

pub returns-in-None-clause-stays : goal.returns-in-None-clause-stays
returns-in-None-clause-stays g c was = subst (ServesUnlessFailed g.S.Store c.other_sums.new.conn) (sym c.in_ok-found.ensures) (sums_open g.S.Store c.args.conn.now c.other_sums.new.conn c.other_sums.result c.other_sums.ensures)

pub returns-in_err-found-clause-stays : goal.returns-in_err-found-clause-stays
returns-in_err-found-clause-stays g c was =
    opens_handed c.from_residual.result c.in_err-found.field-0.0 c.from_residual.ensures.1 g.S.Store c.other_sums.new.conn
    (subst (ServesUnlessFailed g.S.Store c.other_sums.new.conn) (sym c.in_err-found.ensures) (sums_open g.S.Store c.args.conn.now c.other_sums.new.conn c.other_sums.result c.other_sums.ensures))
