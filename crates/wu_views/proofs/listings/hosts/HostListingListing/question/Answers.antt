use Rattle.wu_views.specs.Lines.{host_lines}
use Rattle.wu_views.specs.Listings.{IsRowOfHost}
use Rattle.wu_views.proofs.ListAnswers.{hosts_answer, hosts_asked, hosts_shown}
use Rattle.wu_views.proofs.ListLemmas.{lists}
use Rattle.wu_views.proofs.ListLines.{hosts_zip}
use Rattle.wu_views.proofs.listings.hosts.HostListingListing.question.Goals as goal

pub returns : goal.returns
returns g c = lists g.S.Store hosts_asked.text hosts_shown hosts_answer IsRowOfHost host_lines hosts_zip
