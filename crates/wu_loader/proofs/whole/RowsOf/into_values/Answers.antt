use Rattle.wu_schema.proofs.Words.{arith, length, refl, subst, sym, ◌+◌, ◌<◌, ◌∙◌, ◌≡◌}
use Rattle.std.proofs.lemmas.Bool.Decides.{nat_tests}
use Rattle.wu_loader.specs.Whole.{IsNoRow}
use Rattle.wu_loader.proofs.WholeLemmas.{no_row, none_left}
use Rattle.wu_loader.proofs.whole.RowsOf.into_values.Goals as goal

pub returns-then-is_empty-clause-same : goal.returns-then-is_empty-clause-same
returns-then-is_empty-clause-same g c =
    let none : length c.self.inside.rest.items ≡ 0 = grind (arith, nat_tests, c.if-is_empty.ensures) in
    sym c.self.view_is ∙ none_left _ c.self.inside.rest.items none

pub returns-clause-none : goal.returns-clause-none
returns-clause-none g c =
    let some : 0 < length c.self.inside.rest.items = grind (arith, nat_tests, c.if-is_empty.ensures) in (
      refl,
      subst (λ n. IsNoRow g.T.FromRow.cells g.T.FromRow.is_value c.args.self (n + 1)) (sym (c.len.ensures ∙ c.self.inside.values.ok.0))
          (no_row g.T.FromRow.cells g.T.FromRow.is_value c.self.inside.values.items c.self.inside.rest.items c.args.self c.self.view_is c.self.invariant.0 c.self.invariant.1 some),
    )
