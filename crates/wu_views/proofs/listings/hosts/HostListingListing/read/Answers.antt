use Rattle.wu_views.proofs.ListLines.{host_read, host_unrefused}
use Rattle.wu_views.proofs.listings.hosts.HostListingListing.read.Goals as goal

pub returns-clause-line : goal.returns-clause-line
returns-clause-line c world line is = host_read world c.args.row.now line is c.host_from.result c.host_from.ensures

pub returns-clause-unrefused : goal.returns-clause-unrefused
returns-clause-unrefused c world line is can = host_unrefused world c.args.row.now line is c.host_from.result c.host_from.ensures can
