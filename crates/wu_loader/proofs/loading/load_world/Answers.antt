use Rattle.wu_schema.proofs.Words.{Database, Err, Fault, HasTables, IfOk, IsDatabase, IsErrAnd, Ok, Result, state, subst, sym, ◌≡◌}
use Rattle.wu_schema.proofs.AskingLemmas.{asks_made, asks_unchanged}
use Rattle.wu_store.proofs.PlacedLemmas.{world_rises}
use Rattle.wu_store.proofs.AskLemmas.{never_err}
use Rattle.wu_loader.specs.Asked.{HasArranged}
use Rattle.wu_loader.specs.Finding.{ShowsFound}
use Rattle.wu_loader.specs.Shown.{ShowsTables}
use Rattle.wu_loader.specs.Worlds.{AreRowsOf}
use Rattle.wu_loader.specs.declared.finding.Found.{Found}
use Rattle.wu_loader.specs.declared.finding.Found.TheVariants as found
use Rattle.wu_loader.proofs.LookLemmas.{looked, looks_fault, looks_made, looks_memory}
use Rattle.wu_loader.proofs.StandLemmas.{rows_stand, stands_arranged, stands_shown}
use Rattle.wu_loader.proofs.loading.load_world.Goals as goal

-- a fault is no answer
unanswered : (fault : Fault) (Holds : Found → Type 0) (r : Result Found Fault) → IsErrAnd r (λ other. other ≡ fault) → IfOk r Holds
unanswered fault Holds (Ok answer) told = absurd told
unanswered fault Holds (Err other) told = tt

pub returns-in_err-rows : goal.returns-in_err-rows
returns-in_err-rows g c = record {
  looks = looks_fault c.args.version g.S.Store _ _ c.in_err-rows.field-0.0 _ (ShowsFound c.args.version) c.in_err-rows.ensures c.from_residual.result c.from_residual.ensures.1;
  none = λ clean. unanswered _ _ c.from_residual.result c.from_residual.ensures.1;
}

pub returns-in-Ok : goal.returns-in-Ok
returns-in-Ok g c =
    let db : Database = (state g.S.Store c.args.conn.now).now in
    let asked = c.in_ok-rows.ensures in
    let are = c.in-Ok.ensures.world in
    record {
      looks = record {
        asks = asks_made g.S.Store c.args.conn.now c.table_rows.new.conn c.in_ok-rows.rows (Ok (found.World c.in-Ok.loaded)) (never_err (found.World c.in-Ok.loaded)) asked.asks;
        opens = asked.opens;
        says = λ clean trees has whole.
            let sound : IsDatabase db = (c.schema.ensures.live (asks_unchanged g.S.Store c.args.conn.now c.table_rows.new.conn c.in_ok-rows.rows asked.asks asked.opens clean).0.was_open).0 in
            let shown = asked.says clean trees has in
            record {
              trees = trees;
              tables = subst (λ v. HasTables v db.schema trees) (sym are.version) has.tables;
              rows = rows_stand c.args.version db trees c.in_ok-rows.rows.plain c.in-Ok.loaded sound has shown.plain are.plain whole c.in_ok-rows.rows.classes shown.classes are.classes are.in_order are.version;
              sound = sound;
            };
        fault = tt;
        answered = λ clean trees has unlimited. tt;
      };
      none = λ clean. tt;
    }

pub returns-in-Err-Wrong : goal.returns-in-Err-Wrong
returns-in-Err-Wrong g c =
    let version = c.args.version in
    let rows = c.in_ok-rows.rows in
    let db : Database = (state g.S.Store c.args.conn.now).now in
    let none = rw c.in-Err-Wrong.field-0-is at c.in-Err-Wrong.ensures.none in
    let told = rw c.in-Err-Wrong.field-0-is at c.in-Err-Wrong.ensures.told in
    record {
      looks = looks_made version g.S.Store _ _ _ (found.Wrong c.in-Err-Wrong.wrong) (ShowsFound version) (λ db trees shown. record { rows = rows; shown = shown; is = told })
          (looked version g.S.Store _ _ rows (λ db trees rows. ShowsTables version db.trees trees rows) c.in_ok-rows.ensures);
      none = λ clean world readable is stands.
          let shown = c.in_ok-rows.ensures.says clean stands.trees (subst (λ v. HasArranged v db stands.trees) is (record { tables = stands.tables; arranged = stands_arranged db stands.trees world stands.rows })) in
          none world readable (world_rises db world stands)
          (subst (λ v. AreRowsOf v rows world) is (stands_shown db stands.trees world stands.rows rows (subst (λ v. ShowsTables v db.trees stands.trees rows) (sym is) shown)));
    }

pub returns-in-Err-Memory : goal.returns-in-Err-Memory
returns-in-Err-Memory g c =
    let version = c.args.version in
    record {
      looks = looks_memory version g.S.Store _ _ _ (ShowsFound version) (looked version g.S.Store _ _ c.in_ok-rows.rows (λ db trees rows. ShowsTables version db.trees trees rows) c.in_ok-rows.ensures);
      none = λ clean. tt;
    }
