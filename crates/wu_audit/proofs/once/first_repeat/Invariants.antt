use Rattle.std.specs.HashSet.{contains}
use Rattle.wu_audit.proofs.SeenLemmas.{HasSeen}
use Rattle.wu_audit.proofs.once.first_repeat.Given as goal

abbrev pub invariant-loop-place : goal.invariant-loop-place
invariant-loop-place g l = HasSeen g.K.PartialEq.eq (contains g.K.PartialEq.eq l.seen) l.keys l.place
