use Rattle.std.proofs.Common.{arith}
use Rattle.toml.specs.View.{table_view}
use Rattle.wu_feed.proofs.TemplateLemmas.{document_kept}
use Rattle.wu_feed.proofs.template.read_document.Goals as goal

pub returns : goal.returns
returns c =
    let read = c.table_from_slice.ensures in
    let known = document_kept c.args.text.now table_view c.table_from_slice.result c.document_read.result c.if-text-gt-LONGEST_TEMPLATE.false c.document_read.ensures read.ok read.refused in
    record { read = known.0; refused = known.1; long = λ over. absurd (omega arith) }
