use Rattle.std.proofs.Common.{rules, subst, sym, ◌≡◌, ◌≤◌}
use Rattle.std.specs.List.{All}
use Rattle.wu_refill.proofs.AddingLemmas.{few_verdicts}
use Rattle.wu_refill.proofs.filling.kept_of.Goals as goal

pub from_slice-requires : goal.from_slice-requires
from_slice-requires c =
    let import = c.args.import.now in
    let same : c.as_slice-3.result.now ≡ import.verdicts = search rules in
    subst (All (λ verdict. verdict ≤ 9)) (sym same) (few_verdicts import.kind import.verdicts c.requires)
