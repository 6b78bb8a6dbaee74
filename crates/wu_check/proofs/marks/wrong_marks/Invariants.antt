use Rattle.std.proofs.Common.{◌≡◌, [], map, take}
use Rattle.wu_store.proofs.GivenLemmas.{IsWalked}
use Rattle.wu_check.specs.Queues.{marked_row}
use Rattle.wu_check.proofs.QueueLemmas.{queue_asked}
use Rattle.wu_check.proofs.marks.wrong_marks.Given as goal

-- the rows so far are those of the workunits so far
abbrev pub invariant-rows : goal.invariant-rows
invariant-rows g l = record {
  same_reference : l.rows.conn.ghost_name ≡ l.initial.rows.conn.ghost_name;
  walked : IsWalked g.S.Store queue_asked.text [] l.fn.conn l.rows.conn.now (map marked_row (take l.place l.workunits));
}
