use Rattle.std.proofs.Common.{◌≡◌, []}
use Rattle.wu_store.proofs.GivenLemmas.{IsWalked}
use Rattle.wu_loader.specs.Questions.{question}
use Rattle.wu_loader.proofs.tables.read_rows.Given as goal

-- the rows so far are those that were given
abbrev pub invariant-rows : goal.invariant-rows
invariant-rows g l = record {
  same_reference : l.rows.conn.ghost_name ≡ l.initial.rows.conn.ghost_name;
  walked : IsWalked g.S.Store (question l.fn.table) [] l.fn.conn l.rows.conn.now l.read;
}
