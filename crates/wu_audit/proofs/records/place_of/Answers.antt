use Rattle.std.proofs.Common.{◌≡◌, ◌∙◌, ap, arith, sym}
use Rattle.wu_core.specs.declared.workunit.Workunit.{Workunit}
use Rattle.wu_audit.proofs.PlaceLemmas.{against_here}
use Rattle.wu_audit.proofs.PlacingLemmas.{none_at_bound}
use Rattle.wu_audit.proofs.records.place_of.Goals as goal
use Rattle.wu_audit.proofs.records.place_of.Goals.{else-place-workunits-via-then-place-workunits+else-workunits-place, else-place-workunits-via-else-place-workunits}

pub returns-else-place-workunits : goal.returns-else-place-workunits
returns-else-place-workunits c =
    none_at_bound c.args.number c.args.workunits.now c.bound_of-place.result c.requires c.bound_of-place.ensures
    (elim c.else-place-workunits.branch [
      | else-place-workunits-via-then-place-workunits+else-workunits-place w ↦ λ within.
          against_here (λ (w : Workunit). w.number ≡ c.args.number) c.args.workunits.now c.bound_of-place.result w.index-workunits-place.result within w.index-workunits-place.is
          (λ same. w.if-workunits-place.false (sym (ap (λ (w : Workunit). w.number) w.index-workunits-place.is) ∙ same))
      | else-place-workunits-via-else-place-workunits w ↦ λ within. absurd (omega arith)
    ])
