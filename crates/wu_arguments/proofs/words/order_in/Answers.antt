use Rattle.std.proofs.Common.{◌≡◌, ◌∙◌, rules, Some, sym}
use Rattle.clap.specs.Words.{found_of, rows_of, subcommand_rows_of}
use Rattle.wu_arguments.proofs.OrderLemmas.{found}
use Rattle.wu_arguments.proofs.words.order_in.Goals as goal

pub returns-in-Some-named : goal.returns-in-Some-named
returns-in-Some-named c =
    let is : subcommand_rows_of c.args.matches.now ≡ Some (c.in-Some.name.now, rows_of (found_of c.in-Some.found.now)) = search rules in
    found _ _ c.in-Some-named.subcommand _ is (sym c.named.ensures ∙ c.in-Some-named.is) c.order_of.result c.order_of.ensures.order c.order_of.ensures.refused
