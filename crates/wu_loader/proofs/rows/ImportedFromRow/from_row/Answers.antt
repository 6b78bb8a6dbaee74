use Rattle.wu_schema.proofs.Words.{Import, Ok, import_cells, refl, rules, subst, sym, ◌≡◌}
use Rattle.std.proofs.lemmas.Bool.{iff_false}
use Rattle.wu_schema.specs.Restoring.{Restores}
use Rattle.wu_core.specs.World.{MayBeKept}
use Rattle.wu_loader.specs.Rows.{IsStoredImport}
use Rattle.wu_loader.proofs.RowLemmas.{column_unread, import_kept, import_reads, import_unkept, ImportReads}
use Rattle.wu_loader.proofs.rows.ImportedFromRow.from_row.Goals as goal

pub returns-in_err-kind : goal.returns-in_err-kind
returns-in_err-kind c = column_unread (λ (i : Import). i.kind) c.args.row.now 0 (λ i is. tt) (λ t. refl) c.in_err-kind.ensures c.from_residual.result c.from_residual.ensures.1

pub returns-in_err-first_number : goal.returns-in_err-first_number
returns-in_err-first_number c = column_unread (λ (i : Import). i.first_number) c.args.row.now 4 (λ i is. tt) (λ t. refl) c.in_err-first_number.ensures c.from_residual-in_err-first_number.result c.from_residual-in_err-first_number.ensures.1

pub returns-in_err-template : goal.returns-in_err-template
returns-in_err-template c = column_unread (λ (i : Import). i.template) c.args.row.now 2 (λ i is. tt) (λ t. refl) c.in_err-template.ensures c.from_residual-in_err-template.result c.from_residual-in_err-template.ensures.1

pub returns-in_err-content : goal.returns-in_err-content
returns-in_err-content c = column_unread (λ (i : Import). i.content) c.args.row.now 3 (λ i is. tt) (λ t. refl) c.in_err-content.ensures c.from_residual-in_err-content.result c.from_residual-in_err-content.ensures.1

pub returns-in_err-name : goal.returns-in_err-name
returns-in_err-name c = column_unread (λ (i : Import). i.name) c.args.row.now 1 (λ i is. is.name) (λ t. refl) c.in_err-name.ensures c.from_residual-in_err-name.result c.from_residual-in_err-name.ensures.1

pub returns-then-may_be_kept : goal.returns-then-may_be_kept
returns-then-may_be_kept c =
    let import : Import = record { kind = c.in_ok-kind.kind; name = c.in_ok-name.name; template = c.in_ok-template.template; content = c.in_ok-content.content; first_number = c.in_ok-first_number.first_number; verdicts = c.in_ok-verdicts.verdicts } in
    let made = c.new-import.ensures in
    let same : c.new-import.result ≡ import = λ i. record { kind = made.kind i; name = made.name i; template = made.template i; content = made.content i; first_number = made.first_number i; verdicts = made.verdicts i } in
    let reads : ImportReads c.args.row.now import = import_reads c.args.row.now import (search rules) c.in_ok-kind.ensures c.in_ok-name.ensures c.in_ok-template.ensures c.in_ok-content.ensures c.in_ok-first_number.ensures c.in_ok-verdicts.ensures in
    subst (λ (i : Import). Restores import_cells IsStoredImport c.args.row.now (Ok i)) (sym same) (import_kept c.args.row.now import reads (subst MayBeKept same (c.may_be_kept.ensures.0 c.if-may_be_kept.true)))

pub returns-else-may_be_kept : goal.returns-else-may_be_kept
returns-else-may_be_kept c =
    let import : Import = record { kind = c.in_ok-kind.kind; name = c.in_ok-name.name; template = c.in_ok-template.template; content = c.in_ok-content.content; first_number = c.in_ok-first_number.first_number; verdicts = c.in_ok-verdicts.verdicts } in
    let made = c.new-import.ensures in
    let same : c.new-import.result ≡ import = λ i. record { kind = made.kind i; name = made.name i; template = made.template i; content = made.content i; first_number = made.first_number i; verdicts = made.verdicts i } in
    let reads : ImportReads c.args.row.now import = import_reads c.args.row.now import (search rules) c.in_ok-kind.ensures c.in_ok-name.ensures c.in_ok-template.ensures c.in_ok-content.ensures c.in_ok-first_number.ensures c.in_ok-verdicts.ensures in
    import_unkept c.args.row.now import reads (λ may. iff_false c.may_be_kept.ensures c.if-may_be_kept.false (subst MayBeKept (sym same) may))
