use Rattle.std.proofs.Common.{take}
use Rattle.wu_refill.specs.Refilling.{AddsKept}
use Rattle.wu_refill.proofs.filling.add_imports.Given as goal

abbrev pub invariant-loop-import : goal.invariant-loop-import
invariant-loop-import l = AddsKept (take l.import-index l.imports) l.initial.changes.items l.changes.items
