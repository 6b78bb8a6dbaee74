use Rattle.wu_schema.proofs.Words.{arith, length, ◌-◌, ◌≡◌}
use Rattle.wu_store.proofs.AskLemmas.{reads_both, reads_handed, reads_made, reads_over, reads_then_handed}
use Rattle.wu_views.proofs.counts.count_others.Goals as goal

pub returns-in_err-workunits : goal.returns-in_err-workunits
returns-in_err-workunits g c = record { reads = reads_handed g.S.Store _ _ c.from_residual.result c.in_err-workunits.field-0.0 c.from_residual.ensures.1 c.in_err-workunits.ensures.reads (λ other told world. tt) (λ world stood can. tt) }

pub returns-in_err-place : goal.returns-in_err-place
returns-in_err-place g c = record { reads = reads_then_handed g.S.Store _ _ _ _ c.in_ok-workunits.ensures.reads c.from_residual-in_err-place.result c.in_err-place.field-0.0 c.from_residual-in_err-place.ensures.1 (reads_over (λ db world stood. stood.1) c.in_err-place.ensures.reads) (λ other told world. tt) (λ world stood one can. tt) }

pub returns-in_err-imports : goal.returns-in_err-imports
returns-in_err-imports g c = record {
  reads = let two = reads_both g.S.Store _ _ _ _ c.in_ok-workunits.ensures.reads _ (reads_over (λ db world stood. stood.1) c.in_ok-place.ensures.reads) in
      reads_then_handed g.S.Store _ _ _ _ two c.from_residual-in_err-imports.result c.in_err-imports.field-0.0 c.from_residual-in_err-imports.ensures.1 (reads_over (λ db world stood. stood.1) c.in_err-imports.ensures.reads) (λ other told world. tt) (λ world stood one can. tt);
}

pub returns-in_err-classes : goal.returns-in_err-classes
returns-in_err-classes g c = record {
  reads = let two = reads_both g.S.Store _ _ _ _ c.in_ok-workunits.ensures.reads _ (reads_over (λ db world stood. stood.1) c.in_ok-place.ensures.reads) in
      let three = reads_both g.S.Store _ _ _ _ two _ (reads_over (λ db world stood. stood.1) c.in_ok-imports.ensures.reads) in
      reads_then_handed g.S.Store _ _ _ _ three c.from_residual-in_err-classes.result c.in_err-classes.field-0.0 c.from_residual-in_err-classes.ensures.1 c.in_err-classes.ensures.reads (λ other told world. tt) (λ world stood one can. tt);
}

pub returns : goal.returns
returns g c = record {
  reads = let two = reads_both g.S.Store _ _ _ _ c.in_ok-workunits.ensures.reads _ (reads_over (λ db world stood. stood.1) c.in_ok-place.ensures.reads) in
      let three = reads_both g.S.Store _ _ _ _ two _ (reads_over (λ db world stood. stood.1) c.in_ok-imports.ensures.reads) in
      let four = reads_both g.S.Store _ _ _ _ three _ c.in_ok-classes.ensures.reads in
      reads_made g.S.Store _ _ _ _ four (λ world stood found.
      let archived : c.in_ok-place.place - 1 ≡ length world.archived = omega (arith, found.0.0.1) in
      λ i. record { workunits = found.0.0.0 i; archived = archived i; imports = found.0.1 i; classes = found.1 i });
}
