use Rattle.wu_views.proofs.ListLines.{class_read, class_unrefused}
use Rattle.wu_views.proofs.listings.classes.ClassListingListing.read.Goals as goal

pub returns-clause-line : goal.returns-clause-line
returns-clause-line c world line is = class_read world c.args.row.now line is c.host_class_from.result c.host_class_from.ensures

pub returns-clause-unrefused : goal.returns-clause-unrefused
returns-clause-unrefused c world line is can = class_unrefused world c.args.row.now line is c.host_class_from.result c.host_class_from.ensures can
