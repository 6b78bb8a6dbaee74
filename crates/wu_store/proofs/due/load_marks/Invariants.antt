use Rattle.wu_store.specs.Reads.{ReadsWorld}
use Rattle.std.specs.Prelude.{⊤}
use Rattle.std.proofs.Common.{Ok}
use Rattle.wu_store.specs.Due.{numbers_left}
use Rattle.wu_store.specs.StandsFor.{KnowsClasses}
use Rattle.wu_store.proofs.MarkedLemmas.{marks_row}
use Rattle.wu_store.proofs.ListingLemmas.{AreListed}
use Rattle.wu_store.proofs.due.load_marks.Given as goal

abbrev pub invariant-loop-next : goal.invariant-loop-next
invariant-loop-next g l =
    ReadsWorld {T = Unit {0}} g.S.Store l.fn.conn l.conn (Ok tt) (λ _ world. ¬ KnowsClasses world → AreListed marks_row world l.rows.items l.next) (λ _. ⊤)

-- numbers rise to the greatest that there may be
abbrev pub decreases-loop-next : goal.decreases-loop-next
decreases-loop-next g l = numbers_left l.next
