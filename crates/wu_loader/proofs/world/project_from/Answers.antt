use Rattle.wu_schema.proofs.Words.{ap, inl, inr, length, refl, rules, slice_get, subst, sym, ◌≢◌, ◌≤◌}
use Rattle.wu_loader.specs.Whole.{IsIn, UnlessMemory}
use Rattle.wu_loader.specs.Wrongs.{IsWrongProject}
use Rattle.wu_schema.specs.declared.table.ProjectTable.TheVariants as the_table
use Rattle.wu_loader.specs.declared.finding.NoWorld.{NoWorld}
use Rattle.wu_loader.proofs.WholeLemmas.{handed, lacks_project, one_project}
use Rattle.wu_loader.proofs.world.project_from.Goals as goal

pub returns-in_err-project-clause-none : goal.returns-in_err-project-clause-none
returns-in_err-project-clause-none c =
    handed c.from_residual.result c.in_err-project.field-0.0 _ _ (λ wrong none project stored version is. none.1.1 project stored (ap (λ rs. slice_get rs 0) is)) c.from_residual.ensures.1 c.in_err-project.ensures.none

pub returns-in_err-project-clause-told : goal.returns-in_err-project-clause-told
returns-in_err-project-clause-told c =
    handed c.from_residual.result c.in_err-project.field-0.0 _ _ (λ wrong none. (none.0, subst (IsWrongProject c.args.version c.args.rows.now) (sym none.1.0) (inl (lacks_project c.args.rows.now none.1.1)))) c.from_residual.ensures.1 c.in_err-project.ensures.none

pub returns-then-project-version-clause-told : goal.returns-then-project-version-clause-told
returns-then-project-version-clause-told c =
    let rows = c.args.rows.now in
    let first = c.in_ok-project.ensures.first in
    let few : length rows ≤ 1 = c.if-rows-gt1.false in
    let other : c.in_ok-project.project.version ≢ c.args.version = search rules in
    subst (λ (reason : NoWorld). UnlessMemory reason (IsIn the_table.Project (IsWrongProject c.args.version rows))) (sym c.wrong_project-then-project-version.ensures) (
      refl,
      inr (record {
        first = refl;
        project = c.in_ok-project.project;
        rows_are = one_project rows c.in_ok-project.project first few;
        stored = c.in_ok-project.ensures.stored;
        other = other;
      }),
    )

pub returns-clause-project : goal.returns-clause-project
returns-clause-project c =
    let few : length c.args.rows.now ≤ 1 = c.if-rows-gt1.false in
    one_project c.args.rows.now c.in_ok-project.project c.in_ok-project.ensures.first few
