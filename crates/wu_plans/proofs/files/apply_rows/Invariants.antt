use Rattle.std.specs.Prelude.{⊤}
use Rattle.std.proofs.Common.{◌≤◌, Ok}
use Rattle.std.specs.List.{All}
use Rattle.wu_store.specs.StandsFor.{KnowsClasses}
use Rattle.wu_plans.specs.Touched.{IsLeft, rule_in}
use Rattle.wu_store.specs.Reads.{ReadsWorldIf}
use Rattle.wu_plans.proofs.files.apply_rows.Given as goal

abbrev pub invariant-loop-row : goal.invariant-loop-row
invariant-loop-row g l =
    All (λ verdict. verdict ≤ 9) l.verdicts.items
    × ReadsWorldIf {T = Unit {0}} g.S.Store l.initial.conn l.conn (Ok tt) ⊥ (λ _ world. KnowsClasses world → IsLeft (rule_in g.R.FileRow.rule g.R.FileRow.class_in world.classes) l.yielded world l.touched l.verdicts.items) (λ _. ⊤)
