use Rattle.wu_views.proofs.ListLines.{workunit_read, workunit_unrefused}
use Rattle.wu_views.proofs.listings.workunits.WorkunitListingListing.read.Goals as goal

pub returns-clause-line : goal.returns-clause-line
returns-clause-line c world line is = workunit_read world c.args.row.now line is c.read.result c.read.ensures

pub returns-clause-unrefused : goal.returns-clause-unrefused
returns-clause-unrefused c world line is can = workunit_unrefused world c.args.row.now line is c.read.result c.read.ensures can
