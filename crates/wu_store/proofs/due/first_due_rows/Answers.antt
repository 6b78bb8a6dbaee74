use Rattle.std.proofs.lemmas.List.{length-take}
use Rattle.wu_core.specs.declared.marks.Marks.{Marks}
use Rattle.wu_rules.specs.Marks.{selects}
use Rattle.wu_schema.proofs.Words.{Err, NotAProject, [], ap, arith, filter, inr, length, map, number, refl, ℕ, ◌∷◌, ◌≤◌}
use Rattle.wu_store.proofs.AskLemmas.{nothing_handed, reads_also, reads_handed}
use Rattle.wu_store.proofs.due.first_due_rows.Goals as goal

pub returns-in_err-rows : goal.returns-in_err-rows
returns-in_err-rows g c =
    let same = c.from_residual.ensures.1 in
    record {
      reads = reads_handed g.S.Store _ _ _ _ same c.in_err-rows.ensures (λ other told marked. tt) (λ marked has low. low);
      few = nothing_handed _ _ same _;
    }

pub returns-then-len-limit-clause-reads : goal.returns-then-len-limit-clause-reads
returns-then-len-limit-clause-reads g c =
    reads_also g.S.Store _ _ c.in_ok-rows.rows (Err NotAProject) (λ is. absurd cc) (inr (inr refl)) c.in_ok-rows.ensures (λ marked has are. tt) (λ marked has are low refused.
    let few : length c.in_ok-rows.rows.items ≤ c.args.limit = omega (arith, ap (λ rows. length rows) are, length-take c.args.limit (map (λ (p : ℕ × Marks). number p.0 ∷ []) (filter (λ (p : ℕ × Marks). selects c.args.pass c.args.now c.args.min_age p.1) marked))) in
    omega (arith, few, c.if-len-limit.true, c.len.ensures))
