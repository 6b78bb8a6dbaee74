use Rattle.wu_views.specs.Lines.{result_lines}
use Rattle.wu_views.specs.Listings.{IsRowOfResult, all_results_shown}
use Rattle.wu_views.proofs.JoinTexts.{results_text}
use Rattle.wu_views.proofs.ListAnswers.{results_answer}
use Rattle.wu_views.proofs.ListLemmas.{lists}
use Rattle.wu_views.proofs.ListLines.{results_zip}
use Rattle.wu_views.proofs.listings.results.ResultListingListing.question.Goals as goal

pub returns : goal.returns
returns g c = lists g.S.Store results_text all_results_shown results_answer IsRowOfResult result_lines results_zip
