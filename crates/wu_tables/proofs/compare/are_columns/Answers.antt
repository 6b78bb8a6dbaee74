use Rattle.std.proofs.Common.{rules, tests}
use Rattle.std.proofs.lemmas.Iterator.{YieldsList-from_slice, YieldsList-from_zip, same_from_all}
use Rattle.std.proofs.lemmas.List.{length-map}
use Rattle.wu_tables.specs.Forms.{column_of_form}
use Rattle.wu_tables.proofs.MapLemmas.{yields_mapped}
use Rattle.wu_tables.proofs.compare.are_columns.Goals as goal

pub returns-then-columns-forms : goal.returns-then-columns-forms
returns-then-columns-forms c = same_from_all c.all.new.self _ _ _ _ c.all.ensures.ran (YieldsList-from_zip (YieldsList-from_slice c.args.columns.now cc) (yields_mapped column_of_form c.args.forms.now cc)) (rw length-map (search rules)) (λ x q k. search (rules, tests)) (λ x q k. search (rules, tests))
