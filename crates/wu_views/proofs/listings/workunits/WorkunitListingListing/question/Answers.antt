use Rattle.wu_views.specs.Lines.{workunit_lines}
use Rattle.wu_views.specs.Listings.{IsRowOfWorkunit}
use Rattle.wu_views.proofs.JoinTexts.{workunits_text}
use Rattle.wu_views.proofs.ListAnswers.{workunits_answer, workunits_shown}
use Rattle.wu_views.proofs.ListLemmas.{lists}
use Rattle.wu_views.proofs.ListLines.{workunits_zip}
use Rattle.wu_views.proofs.listings.workunits.WorkunitListingListing.question.Goals as goal

pub returns : goal.returns
returns g c = lists g.S.Store workunits_text workunits_shown workunits_answer IsRowOfWorkunit workunit_lines workunits_zip
