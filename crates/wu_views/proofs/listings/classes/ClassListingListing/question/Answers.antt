use Rattle.wu_views.specs.Lines.{class_lines}
use Rattle.wu_views.specs.Listings.{IsRowOfClass}
use Rattle.wu_views.proofs.ListAnswers.{classes_answer, classes_asked, classes_shown}
use Rattle.wu_views.proofs.ListLemmas.{lists}
use Rattle.wu_views.proofs.ListLines.{classes_zip}
use Rattle.wu_views.proofs.listings.classes.ClassListingListing.question.Goals as goal

pub returns : goal.returns
returns g c = lists g.S.Store classes_asked.text classes_shown classes_answer IsRowOfClass class_lines classes_zip
