use Rattle.std.proofs.Common.{◌≡◌, ℕ, Bool, List, true, false, cond, Some, None, [], ap, refl, ◌∙◌}
use Rattle.std.specs.Option.{option_map, option_map_or}
use Rattle.wu_core.specs.declared.workunit.Workunit.{Workunit}
use Rattle.wu_rules.specs.Instances.{is_ready_assimilate}
use Rattle.wu_rules.specs.Validation.{output_at}
use Rattle.wu_rules.specs.Assimilation.{archived_row, archived}
use Rattle.wu_rules_laws.specs.Laws.{archived_output}
use Rattle.wu_rules_laws.proofs.laws.archives_what_was_read.Goals as goal

-- the output of the row that is archived of what is ready
of_row : (w : Workunit) (now : ℕ) (output : List ℕ) → (archived_row w now).output ≡ output
    → archived_output w now ≡ cond (is_ready_assimilate w.assimilate) (Some output) None
unfolding archived
of_row w now output is = by_case (is_ready_assimilate w.assimilate)
  where
    by_case : (b : Bool) → option_map (λ row. row.output) (cond b (Some (archived_row w now)) None) ≡ cond b (Some output) None
    by_case true = ap Some is
    by_case false = refl

pub returns : goal.returns
returns c w now = record {
  canonical = λ n i canonical here. of_row w now i.output
      (ap (λ o. option_map_or (output_at w.instances) o []) canonical ∙ ap (λ o. option_map_or (λ j. j.output) o []) here);
  nothing = λ none. of_row w now [] (ap (λ o. option_map_or (output_at w.instances) o []) none);
}
