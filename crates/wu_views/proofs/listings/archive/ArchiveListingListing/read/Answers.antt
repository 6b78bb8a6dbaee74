use Rattle.wu_views.proofs.ListLines.{archived_read, archived_unrefused}
use Rattle.wu_views.proofs.listings.archive.ArchiveListingListing.read.Goals as goal

pub returns-clause-line : goal.returns-clause-line
returns-clause-line c world line is = archived_read world c.args.row.now line is c.placed_archived_from.result c.placed_archived_from.ensures

pub returns-clause-unrefused : goal.returns-clause-unrefused
returns-clause-unrefused c world line is can = archived_unrefused world c.args.row.now line is c.placed_archived_from.result c.placed_archived_from.ensures can
