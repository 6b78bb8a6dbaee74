use Rattle.wu_schema.proofs.Words.{Err, None, NotAProject, Some, inr, refl, subst, sym, ◌∙◌, ◌≡◌}
use Rattle.std.specs.Prelude.{IfSome}
use Rattle.wu_core.specs.Formed.{IsWorkunit}
use Rattle.wu_store.proofs.AskLemmas.{asks_none, fault_read, handed_on, match_handed, never_broken, nothing_handed, read_handed, read_told, reads_handed, reads_made, reads_also, reads_if}
use Rattle.wu_store.proofs.QueuedLemmas.{loads_there, number_told, told_present, read_by_row}
use Rattle.wu_store.proofs.due.present.Goals as goal

pub returns-in_err-number : goal.returns-in_err-number
returns-in_err-number g c =
    let r = c.from_residual.result in
    let same = c.from_residual.ensures.1 in
    let refused = read_handed _ _ same c.in_err-number.ensures.refused in
    record {
      formed = nothing_handed _ _ same _;
      reads = record {
        asks = asks_none g.S.Store c.args.conn.now r (never_broken _ refused);
        opens = λ never. absurd never;
        fault = fault_read _ refused;
        found = λ clean world stands known w of. match_handed _ _ same _ (read_told _ c.in_err-number.ensures.refused);
        unrefused = λ clean world stands can limit. handed_on _ _ same (read_by_row c.args.row.now can.1.number can.2.row_is _ c.in_err-number.ensures);
      };
    }

pub returns-in_err-workunit : goal.returns-in_err-workunit
returns-in_err-workunit g c =
    let same = c.from_residual-in_err-workunit.ensures.1 in
    record {
      formed = nothing_handed _ _ same _;
      reads = reads_handed g.S.Store _ _ _ _ same (reads_if (λ never. absurd never) c.in_err-workunit.ensures.reads) (λ other told world known w of. told)
          (λ world stands can. loads_there c.args.row.now can.1 world can.2 c.in_ok-number.number (number_told c.args.row.now can.1 world can.2 c.in_ok-number.number c.in_ok-number.ensures) can.0 can.3);
    }

pub returns-in-Some : goal.returns-in-Some
returns-in-Some g c = record {
  formed = subst (λ o. IfSome o IsWorkunit) c.in-Some.is c.in_ok-workunit.ensures.formed;
  reads = reads_made g.S.Store _ _ c.in_ok-workunit.field-0 _ (reads_if (λ never. absurd never) c.in_ok-workunit.ensures.reads) (λ world stands told known w of.
      let number = number_told c.args.row.now w world of c.in_ok-number.number c.in_ok-number.ensures in
      let found : Some c.in-Some.workunit ≡ Some w = told_present c.args.row.now w world of c.in_ok-number.number number (Some c.in-Some.workunit) (sym c.in-Some.is ∙ told known) in
      cc);
}

pub returns-in-None : goal.returns-in-None
returns-in-None g c = record {
  formed = tt;
  reads = reads_also g.S.Store _ _ c.in_ok-workunit.field-0 (Err NotAProject) (λ is. absurd cc) (inr (inr refl)) (reads_if (λ never. absurd never) c.in_ok-workunit.ensures.reads) (λ world stands found known w of. inr (inr refl)) (λ world stands found can refused.
      let number = number_told c.args.row.now can.1 world can.2 c.in_ok-number.number c.in_ok-number.ensures in
      let none : None ≡ Some can.1 = told_present c.args.row.now can.1 world can.2 c.in_ok-number.number number None (sym c.in-None.is ∙ found can.0) in
      absurd cc);
}
