use Rattle.wu_views.specs.Lines.{archived_lines}
use Rattle.wu_views.specs.Listings.{IsRowOfArchived}
use Rattle.wu_views.proofs.ListAnswers.{archive_answer, archive_asked, archive_shown}
use Rattle.wu_views.proofs.ListLemmas.{lists}
use Rattle.wu_views.proofs.ListLines.{archive_zip}
use Rattle.wu_views.proofs.listings.archive.ArchiveListingListing.question.Goals as goal

pub returns : goal.returns
returns g c = lists g.S.Store archive_asked.text archive_shown archive_answer IsRowOfArchived archived_lines archive_zip
