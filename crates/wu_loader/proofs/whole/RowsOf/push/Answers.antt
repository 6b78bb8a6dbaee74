use Rattle.wu_schema.proofs.Words.{[], ap, length, rules, ◌++◌, ◌+◌, ◌∙◌, ◌∷◌, ◌≡◌}
use Rattle.wu_loader.proofs.WholeLemmas.{rows_more}
use Rattle.wu_loader.proofs.whole.RowsOf.push.Goals as goal

pub returns-in-Ok : goal.returns-in-Ok
returns-in-Ok g c =
    let grown : c.push.new.self.items ≡ c.self.inside.values.items ++ c.in-Ok.value ∷ [] = search rules in
    let none : length c.self.inside.rest.items ≡ 0 = search rules in
    rw grown (rows_more g.T.FromRow.cells c.self.inside.values.items c.in-Ok.value c.self.inside.rest.items c.args.row.now _ none (ap (λ n. n + 1) (c.len.ensures ∙ c.self.inside.values.ok.0)) c.in-Ok.ensures.value.0 ∙ ap (λ rows. rows ++ c.args.row.now ∷ []) c.self.view_is)
