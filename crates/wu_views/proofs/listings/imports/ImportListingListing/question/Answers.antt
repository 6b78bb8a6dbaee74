use Rattle.wu_views.specs.Lines.{import_lines}
use Rattle.wu_views.specs.Listings.{IsRowOfImport}
use Rattle.wu_views.proofs.ListAnswers.{imports_answer, imports_asked, imports_shown}
use Rattle.wu_views.proofs.ListLemmas.{lists}
use Rattle.wu_views.proofs.ListLines.{imports_zip}
use Rattle.wu_views.proofs.listings.imports.ImportListingListing.question.Goals as goal

pub returns : goal.returns
returns g c = lists g.S.Store imports_asked.text imports_shown imports_answer IsRowOfImport import_lines imports_zip
