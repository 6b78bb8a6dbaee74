use Rattle.std.proofs.Common.{rules, arith, get_or, length, [], ◌<◌, ◌∷◌, ◌++◌, ◌≡◌}
use Rattle.wu_store.specs.declared.changes.Change.TheVariants.{Keep}
use Rattle.wu_refill.proofs.AddingLemmas.{kept_more, none_kept}
use Rattle.wu_refill.proofs.filling.add_imports.Goals as goal

pub loop-import-init : goal.loop-import-init
loop-import-init c = none_kept c.args.changes.now.items

pub loop-import-preserved : goal.loop-import-preserved
loop-import-preserved c =
    let imports = c.args.imports.now in
    let i = c.loop-import.import-index in
    let one = c.import-item.result in
    let low : i < length imports = omega (arith, c.loop-import-test.true) in
    let at : get_or imports i one ≡ one = search rules in
    let grown : c.push.new.self.items ≡ c.loop-import.changes.items ++ Keep c.in_ok-kept_of.field-0 ∷ [] = search rules in
    kept_more c.args.changes.now.items c.loop-import.changes.items c.push.new.self.items imports i one c.in_ok-kept_of.field-0 low at c.loop-import.invariant c.in_ok-kept_of.ensures.ok grown
