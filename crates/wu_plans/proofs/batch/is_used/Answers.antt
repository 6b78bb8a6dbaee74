use Rattle.std.proofs.Common.{◌∙◌, inl, refl, sym}
use Rattle.std.proofs.lemmas.Bool.{not-false, not-true}
use Rattle.wu_core.specs.declared.fault.Fault.TheVariants.{Broken, Memory}
use Rattle.wu_store.proofs.AskLemmas.{asks_none, fault_handed, handed_on, match_handed, nothing_handed, reads_found, reads_if, reads_none}
use Rattle.wu_plans.proofs.AskLemmas.{among_is, names_added, unless_used, used_by_name, used_by_world}
use Rattle.wu_plans.proofs.ExitLemmas.{handed_other}
use Rattle.wu_plans.proofs.batch.is_used.Goals as goal

pub returns-in_err-insert : goal.returns-in_err-insert
returns-in_err-insert g c =
    let r = c.from_residual.result in
    let memory = c.from_residual.ensures.1 in
    record {
      reads = record {
        asks = asks_none g.S.Store c.args.conn.now r (handed_other r Memory Broken memory (λ no. cc));
        opens = λ never. absurd never;
        fault = fault_handed r Memory memory (inl refl);
        found = λ clean world stands. match_handed r Memory memory _ (inl refl);
        unrefused = λ clean world stands any limit. handed_on r Memory memory (λ no. cc);
      };
      adds = nothing_handed r Memory memory _;
    }

pub returns-then-not-branch : goal.returns-then-not-branch
returns-then-not-branch g c =
    let known = not-false _ (sym c.in_ok-insert.ensures.added ∙ c.if-not-branch.true) in record {
      reads = reads_none g.S.Store _ _ (λ never. never) (λ world stands. used_by_name world _ _ (rw c.as_str.ensures at (among_is c.args.names.now.keys c.as_str.result ∙ known)));
      adds = tt;
    }

pub returns : goal.returns
returns g c =
    let unknown = not-true _ (sym c.in_ok-insert.ensures.added ∙ c.if-not-branch.false) in
    record {
      reads = reads_if (λ never. absurd never) (reads_found (λ world stands taken. used_by_world world _ c.args.name.now c.is_taken.result (rw c.as_str.ensures at (among_is c.args.names.now.keys c.as_str.result ∙ unknown)) taken) c.is_taken.ensures.reads);
      adds = unless_used c.is_taken.result (rw c.as_str.ensures at (names_added _ _ c.as_str.result (rw c.if-not-branch.false at c.in_ok-insert.ensures.keys)));
    }
