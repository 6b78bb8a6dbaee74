use Rattle.std.proofs.Common.{refl, sym, ◌∙◌}
use Rattle.std.proofs.lemmas.Bool.{true≢false}
use Rattle.wu_store.proofs.LoadLemmas.{asks_read}
use Rattle.wu_passes.proofs.WalkLemmas.{reads_none}
use Rattle.wu_passes.proofs.project.Project.walk.Goals as goal

pub returns-then-self : goal.returns-then-self
returns-then-self g c = record {
  ended = λ over. (refl, refl, refl);
  older = λ going. absurd (true≢false (sym c.if-self.true ∙ going));
  walked = λ going present. absurd (true≢false (sym c.if-self.true ∙ going));
  reads = reads_none c.args.self.now;
  broke = λ clean is. absurd cc;
}

pub returns-in-Some : goal.returns-in-Some
returns-in-Some g c = record {
  ended = λ over. absurd (true≢false (sym over ∙ c.if-self.false));
  older = λ going. rw c.in-Some.is (refl, refl, refl);
  walked = λ going present. absurd (let no = sym present ∙ c.in-Some.is in cc);
  reads = reads_none c.args.self.now;
  broke = λ clean is. absurd cc;
}

pub returns : goal.returns
returns g c = record {
  ended = λ over. absurd (true≢false (sym over ∙ c.if-self.false));
  older = λ going. rw c.in_default.is tt;
  walked = λ going present. c.walk.ensures;
  reads = record { session = refl; read = asks_read g.S.Store _ _ _ c.walk.ensures.asks; limit = c.walk.ensures.asks.crash.limit; version = refl };
  broke = c.walk.ensures.asks.broken;
}
