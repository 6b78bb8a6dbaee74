use Rattle.wu_views.proofs.ListLines.{import_read, import_unrefused}
use Rattle.wu_views.proofs.listings.imports.ImportListingListing.read.Goals as goal

pub returns-clause-line : goal.returns-clause-line
returns-clause-line c world line is = import_read world c.args.row.now line is c.import_line_from.result c.import_line_from.ensures

pub returns-clause-unrefused : goal.returns-clause-unrefused
returns-clause-unrefused c world line is can = import_unrefused world c.args.row.now line is c.import_line_from.result c.import_line_from.ensures can
