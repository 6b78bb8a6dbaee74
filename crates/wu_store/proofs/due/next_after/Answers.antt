use Rattle.wu_schema.proofs.Words.{Err, None, NotAProject, arith, inr, refl, sym, ◌∙◌}
use Rattle.wu_store.proofs.AskLemmas.{nothing_handed, reads_handed, reads_made, reads_also}
use Rattle.wu_store.proofs.DueLemmas.{higher}
use Rattle.wu_store.proofs.due.next_after.Goals as goal

pub returns-in_err-next : goal.returns-in_err-next
returns-in_err-next g c =
    let same = c.from_residual.ensures.1 in
    record {
      shrinks = nothing_handed _ _ same _;
      reads = reads_handed g.S.Store _ _ _ _ same c.in_err-next.ensures.reads (λ other told world early. told) (λ world stands can. can);
    }

pub returns-in_default-clause-reads : goal.returns-in_default-clause-reads
returns-in_default-clause-reads g c = reads_made g.S.Store _ _ c.in_ok-next.field-0 None c.in_ok-next.ensures.reads (λ world stands found early. sym c.in_default.is ∙ found early)

pub returns-then-next-number : goal.returns-then-next-number
returns-then-next-number g c = record {
  shrinks = tt;
  reads = reads_also g.S.Store _ _ c.in_ok-next.field-0 (Err NotAProject) (λ is. absurd cc) (inr (inr refl)) c.in_ok-next.ensures.reads (λ world stands found early. inr (inr refl)) (λ world stands found can refused.
      omega (arith, higher c.args.number world c.in-Some.next (sym (sym c.in-Some.is ∙ found can.0))));
}

pub returns-clause-reads : goal.returns-clause-reads
returns-clause-reads g c = reads_made g.S.Store _ _ c.in_ok-next.field-0 _ c.in_ok-next.ensures.reads (λ world stands found early. sym c.in-Some.is ∙ found early)
