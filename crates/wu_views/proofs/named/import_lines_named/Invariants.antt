use Rattle.std.proofs.Common.{◌≡◌, ◌≤◌, Ok, take}
use Rattle.std.specs.Prelude.{⊤, filter_map}
use Rattle.wu_views.specs.Lines.{import_line_named}
use Rattle.wu_views.proofs.NamedLemmas.{all_kinds}
use Rattle.wu_store.specs.Reads.{ReadsWorldIf}
use Rattle.wu_views.proofs.named.import_lines_named.Given as goal

abbrev pub invariant-loop-kind : goal.invariant-loop-kind
invariant-loop-kind g l =
    ReadsWorldIf {T = Unit {0}} g.S.Store l.fn.conn l.conn (Ok tt) (1 ≤ l.kind-index) (λ _ world. l.lines.items ≡ filter_map (λ kind. import_line_named kind l.name world) (take l.kind-index all_kinds)) (λ _. ⊤)
