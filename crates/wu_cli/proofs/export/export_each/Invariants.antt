use Rattle.std.proofs.Common.{drop}
use Rattle.wu_cli.proofs.ExportLemmas.{Leads}
use Rattle.wu_cli.proofs.export.export_each.Given as goal

abbrev pub invariant-loop-export : goal.invariant-loop-export
invariant-loop-export g l = Leads g.W.Write.contents (g.F.MakeExport.exports l.files) l.path l.exports (drop l.export-index l.exports) l.initial.out l.out
