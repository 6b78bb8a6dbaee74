-- Tables that are kept in order.
use Rattle.wu_schema.proofs.Words.{Database, HasTables, ProjectTrees, subst, ℕ}
use Rattle.wu_schema.proofs.Parts.{placed}
use Rattle.wu_schema.proofs.StandsLemmas.{is_there}
use Rattle.wu_loader.specs.Shown.{AreArranged, IsArranged}
use Rattle.wu_check.specs.Checking.{IsWellKept}
use Rattle.wu_check.specs.Examining.{IsLegible}

-- questions show all that is in them
pub legible_of : (db : Database) → IsWellKept db → IsLegible db
legible_of db kept = record {
  plain = arranged 1;
  project = λ version told. arranged version;
  workunits = kept.whole.workunits;
  queue = λ world stands queued tree has. record { ordered = kept.ordered _ (is_there db.schema _ _ has); whole = kept.whole.queue tree has };
}
  where
    arranged : (version : ℕ) (trees : ProjectTrees) → HasTables version db.schema trees → AreArranged version db.trees trees
    arranged version trees has table is_in = subst (λ n. IsArranged (db.trees n)) (placed trees table) (kept.ordered _ (is_there db.schema _ _ (has.each table is_in)))
