use Rattle.wu_views.proofs.ListLines.{result_read, result_unrefused}
use Rattle.wu_views.proofs.listings.results.ResultListingListing.read.Goals as goal

pub returns-clause-line : goal.returns-clause-line
returns-clause-line c world line is = result_read world c.args.row.now line is c.read.result c.read.ensures

pub returns-clause-unrefused : goal.returns-clause-unrefused
returns-clause-unrefused c world line is can = result_unrefused world c.args.row.now line is c.read.result c.read.ensures can
