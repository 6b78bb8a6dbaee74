use Rattle.wu_schema.proofs.TakenLemmas.{breaks_open, refuses_taken}
use Rattle.wu_schema.proofs.creation.create.Goals as goal

pub returns : goal.returns
returns g c =
    let s = g.S.Store in
    let old = c.args.conn.now in
    let new = c.transact.new.conn in
    let it = c.transact.ensures in
    let breaks = breaks_open s old new c.schema-schema.ensures.live c.transact.result it.breaks in
    record {
      transacts = it.transacts;
      breaks = breaks;
      taken = refuses_taken s old new c.transact.result it.transacts.done it.transacts.told breaks;
    }
