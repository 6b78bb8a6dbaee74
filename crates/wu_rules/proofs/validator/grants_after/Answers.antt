use Rattle.std.proofs.Common.{ap, false, is_none, map, sym, true, ◌∙◌, ◌≡◌}
use Rattle.wu_rules.proofs.Refusing.{is_deleted_at-refused, output_at-refused}
use Rattle.wu_rules.specs.Validation.{is_deleted_at, output_at, refused_where}
use Rattle.wu_rules.proofs.validator.grants_after.Goals as goal

pub returns-then-is_deleted_at : goal.returns-then-is_deleted_at
returns-then-is_deleted_at c =
    let old = c.args.workunit.now in
    let undecided = is_none old.canonical in
    let is : is_deleted_at (map (refused_where undecided) old.instances) c.args.n ≡ true = is_deleted_at-refused undecided old.instances c.args.n ∙ (ap (λ xs. is_deleted_at xs c.args.n) (sym c.as_slice-instances.ensures.items) ∙ sym c.if-is_deleted_at.ensures) in
    rw is c.new.ensures.items

pub returns-else-is_deleted_at : goal.returns-else-is_deleted_at
returns-else-is_deleted_at c =
    let old = c.args.workunit.now in
    let undecided = is_none old.canonical in
    let is : is_deleted_at (map (refused_where undecided) old.instances) c.args.n ≡ false = is_deleted_at-refused undecided old.instances c.args.n ∙ (ap (λ xs. is_deleted_at xs c.args.n) (sym c.as_slice-instances.ensures.items) ∙ sym c.if-is_deleted_at.ensures) in
    let output : output_at (map (refused_where undecided) old.instances) c.args.n ≡ c.output_at.result.now = output_at-refused undecided old.instances c.args.n ∙ (ap (λ xs. output_at xs c.args.n) (sym c.as_slice-instances.ensures.items) ∙ sym c.output_at.ensures) in
    rw (is, output) c.grants_by.ensures
