use Rattle.wu_rules_laws.proofs.Spent.{emptied-once, input_gone, output_gone, output_held}
use Rattle.wu_rules_laws.proofs.laws.holds_nothing_ready.Goals as goal

pub returns : goal.returns
returns c w = record { nothing_ready = emptied-once w; input = input_gone w; outputs = output_gone w; others = output_held w }
