use Rattle.wu_schema.proofs.Words.{Err, NotAProject, None, Some, ap, inr, refl, sym, ◌∙◌}
use Rattle.std.proofs.Common.{option_map, rules}
use Rattle.std.proofs.lemmas.Bool.{iff_false}
use Rattle.wu_store.specs.Loading.{classless}
use Rattle.wu_store.proofs.AskLemmas.{handed_on, nothing_handed, reads_handed, reads_made, reads_also, reads_none, reads_if}
use Rattle.wu_store.proofs.LoadLemmas.{instances_can, none_there, row_read, some_there, well_formed, whole_can, whole_found}
use Rattle.wu_store.proofs.loading.loaded.Goals as goal

pub returns-in_default : goal.returns-in_default
returns-in_default g c = record {
  formed = tt;
  reads = reads_none g.S.Store c.args.conn.now None (λ never. never) (λ world stands found of. none_there c.args.row c.in_default.is found world of);
}

pub returns-in_err-workunit-clause-reads : goal.returns-in_err-workunit-clause-reads
returns-in_err-workunit-clause-reads g c = record {
  asks = search rules;
  opens = λ never. absurd never;
  fault = search rules;
  found = search rules;
  unrefused = λ clean world stands can limit. let it = some_there c.args.row c.in-Some.row c.in-Some.is can.0 world can.1 in
      handed_on c.from_residual.result c.in_err-workunit.field-0.0 c.from_residual.ensures.1 (row_read c.in-Some.row world it.0 it.2 _ c.in_err-workunit.ensures (rw it.1 at can.2));
}

pub returns-in_err-workunit-2 : goal.returns-in_err-workunit-2
returns-in_err-workunit-2 g c =
    let same = c.from_residual-in_err-workunit-2.ensures.1 in
    record {
      formed = nothing_handed _ _ same _;
      reads = reads_handed g.S.Store _ _ _ _ same (reads_if (λ never. absurd never) c.in_err-workunit-2.ensures.reads) (λ other told world found of. told) (λ world stands can.
          let it = some_there c.args.row c.in-Some.row c.in-Some.is can.0 world can.1 in
          instances_can c.in-Some.row world it.0 it.2 c.in_ok-workunit.workunit c.in_ok-workunit.ensures (rw it.1 at can.2));
    }

pub returns-then-has_its_instances : goal.returns-then-has_its_instances
returns-then-has_its_instances g c = record {
  formed = well_formed c.in-Some.row c.in_ok-workunit.workunit _ c.in_ok-workunit.ensures c.in_ok-workunit-2.ensures.stored (c.has_its_instances.ensures.0 c.if-has_its_instances.true);
  reads = reads_made g.S.Store _ _ c.in_ok-workunit-2.field-0 _ (reads_if (λ never. absurd never) c.in_ok-workunit-2.ensures.reads) (λ world stands told found of.
      let it = some_there c.args.row c.in-Some.row c.in-Some.is found world of in
      ap (λ w. Some w) (whole_found c.in-Some.row world it.0 it.2 c.in_ok-workunit.workunit _ c.in_ok-workunit.ensures (told)) ∙ ap (option_map classless) (sym it.1));
}

pub returns : goal.returns
returns g c = record {
  formed = tt;
  reads = reads_also g.S.Store _ _ c.in_ok-workunit-2.field-0 (Err NotAProject) (λ is. absurd cc) (inr (inr refl)) (reads_if (λ never. absurd never) c.in_ok-workunit-2.ensures.reads) (λ world stands told found of. inr (inr refl)) (λ world stands found can refused.
      let it = some_there c.args.row c.in-Some.row c.in-Some.is can.0 world can.1 in
      let whole = whole_can c.in-Some.row world it.0 it.2 c.in_ok-workunit.workunit _ c.in_ok-workunit.ensures (found) (rw it.1 at can.2) in
      absurd (iff_false c.has_its_instances.ensures c.if-has_its_instances.false whole));
}
