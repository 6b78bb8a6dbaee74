use Rattle.sqlite.specs.Held.{state}
use Rattle.std.proofs.Common.{inl, inr, refl, ◌∙◌}
use Rattle.std.proofs.lemmas.Bool.{cases_Bool}
use Rattle.wu_passes.proofs.AdoptingLemmas.{begins_knowing}
use Rattle.wu_passes.proofs.project.Project.adopt.Goals as goal

pub returns-in-Ok-clause-session : goal.returns-in-Ok-clause-session
returns-in-Ok-clause-session g c = record {
  idle = elim (cases_Bool c.args.conn.in_transaction) [ inl busy ↦ absurd (let no = (c.in-Ok.ensures.busy busy).0 in cc) | inr idle ↦ idle ];
  going = refl;
  adopts = c.in-Ok.ensures.adopted;
  version = record { version = c.in-Ok.version; knows = c.in-Ok.ensures.version; is = c.older_than_present.ensures };
  knows = λ clean world shows.
      c.older_than_present.ensures
      ∙ begins_knowing (state g.S.Store c.args.conn) (state g.S.Store c.find_or_create.new.conn) c.in-Ok.version c.in-Ok.ensures.adopted c.in-Ok.ensures.version clean world shows;
  told = c.in-Ok.ensures.new;
}
