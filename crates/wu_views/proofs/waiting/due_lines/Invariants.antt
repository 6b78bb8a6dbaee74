use Rattle.std.proofs.Common.{◌≡◌, ◌≤◌, Ok, take}
use Rattle.std.specs.Prelude.{⊤}
use Rattle.wu_views.specs.Waiting.{due_lines}
use Rattle.wu_store.specs.Reads.{ReadsQueuedIf}
use Rattle.wu_views.proofs.waiting.due_lines.Given as goal

abbrev pub invariant-loop-pass : goal.invariant-loop-pass
invariant-loop-pass g l =
    ReadsQueuedIf {T = Unit {0}} g.S.Store l.fn.conn l.conn (Ok tt) (1 ≤ l.pass-index) (λ _ world. l.lines.items ≡ take l.pass-index (due_lines l.now world)) (λ _. ⊤)
