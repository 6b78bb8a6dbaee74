use Rattle.std.specs.Prelude.{⊤, All}
use Rattle.std.proofs.Common.{Ok, List, length, take, ◌≡◌}
use Rattle.wu_core.specs.Formed.{IsWorkunit}
use Rattle.wu_core.specs.declared.workunit.Workunit.{Workunit}
use Rattle.wu_store.specs.Due.{AreNumbersOf}
use Rattle.wu_store.specs.StandsFor.{KnowsClasses}
use Rattle.wu_store.specs.Reads.{ReadsWorldIf}
use Rattle.wu_store.proofs.due.load_all.Given as goal

abbrev pub invariant-loop-row : goal.invariant-loop-row
invariant-loop-row g l = record {
  long : length l.found.items ≡ l.row-index;
  formed : All IsWorkunit l.found.items;
  reads : ReadsWorldIf {T = Unit {0}} g.S.Store l.fn.conn l.conn (Ok tt) ⊥ (λ _ world. KnowsClasses world → (ws : List Workunit) → AreNumbersOf l.rows ws world → l.found.items ≡ take l.row-index ws) (λ _. ⊤);
}
