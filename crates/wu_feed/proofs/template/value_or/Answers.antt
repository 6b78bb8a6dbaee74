use Rattle.std.proofs.Common.{◌∙◌, ap, Some, FitsSigned, w64, arith}
use Rattle.std.proofs.lemmas.Int.{ints, to_z-of_z}
use Rattle.toml.proofs.Views.{table_get}
use Rattle.wu_feed.proofs.template.value_or.Goals as goal

pub returns-in-Some : goal.returns-in-Some
returns-in-Some c =
    let found = table_get c.get.result c.args.key.now c.args.table.now.entries c.get.ensures.value in
    c.as_integer.ensures ∙ rw (← rw c.in-Some.is at found)

pub returns-in-None : goal.returns-in-None
returns-in-None c =
    let found = table_get c.get.result c.args.key.now c.args.table.now.entries c.get.ensures.value in
    let fits : FitsSigned w64 c.from.result = omega (arith, ints) in
    rw (← rw c.in-None.is at found) (ap Some (to_z-of_z w64 c.from.result fits ∙ c.from.ensures))
