use Rattle.std.proofs.Common.{◌≡◌, ◌<◌, Some, arith, inr, sym, ◌∙◌, rules}
use Rattle.wu_core.specs.declared.fault.Fault.TheVariants.{Broken}
use Rattle.wu_machine.specs.Machine.{present_version}
use Rattle.wu_plans.proofs.AskLemmas.{asks_handed, asks_made}
use Rattle.wu_plans.proofs.ExitLemmas.{handed_other, serves_handed, serves_open}
use Rattle.wu_passes.proofs.AdoptingLemmas.{row_absent, row_known, row_later, row_unread}
use Rattle.wu_passes.proofs.version.known_version.Goals as goal
use Rattle.wu_store.proofs.AskLemmas.{handed_is}

pub returns-in_default-clause-reads : goal.returns-in_default-clause-reads
returns-in_default-clause-reads g c = record {
  asks = asks_made g.S.Store _ _ c.in_ok-version.field-0 _ (λ is. absurd cc) c.in_ok-version.ensures.asks;
  opens = λ asked clean. inr (c.in_ok-version.ensures.opens clean);
  fault = search rules;
  found = search rules;
  unrefused = λ clean world stands project limit. absurd (let no = sym c.in_default.is ∙ (c.in_ok-version.ensures.answers clean).of_world world stands in cc);
}

pub returns-in_err-check_version-clause-reads : goal.returns-in_err-check_version-clause-reads
returns-in_err-check_version-clause-reads g c = record {
  asks = let later = c.in_err-check_version.ensures.later.0 in
      asks_made g.S.Store _ _ c.in_ok-version.field-0 c.from_residual-in_err-check_version.result
      (handed_other c.from_residual-in_err-check_version.result c.in_err-check_version.field-0.0 Broken c.from_residual-in_err-check_version.ensures.1 (λ is. let no = sym later ∙ is in cc)) c.in_ok-version.ensures.asks;
  opens = λ asked clean. serves_open c.from_residual-in_err-check_version.result (c.in_ok-version.ensures.opens clean);
  fault = search rules;
  found = λ clean world stands project. let same : Some c.in-Some.version ≡ Some world.version = sym c.in-Some.is ∙ (c.in_ok-version.ensures.answers clean).of_world world stands in
      let version : c.in-Some.version ≡ world.version = cc in
      let later : present_version < c.in-Some.version = c.in_err-check_version.ensures.later.1 in
      let known = project.known in
      absurd (omega (arith, version, known, later));
  unrefused = search rules;
}

pub returns-clause-reads : goal.returns-clause-reads
returns-clause-reads g c = record {
  asks = asks_made g.S.Store _ _ c.in_ok-version.field-0 _ (λ is. absurd cc) c.in_ok-version.ensures.asks;
  opens = λ asked. c.in_ok-version.ensures.opens;
  fault = search rules;
  found = λ clean world stands project. let same : Some c.in-Some.version ≡ Some world.version = sym c.in-Some.is ∙ (c.in_ok-version.ensures.answers clean).of_world world stands in
      cc;
  unrefused = search rules;
}

pub returns-in_err-version-clause-reads : goal.returns-in_err-version-clause-reads
returns-in_err-version-clause-reads g c = record {
  asks = asks_handed g.S.Store _ _ c.from_residual.result c.in_err-version.field-0.0 c.from_residual.ensures.1 c.in_err-version.ensures.asks;
  opens = λ asked clean. serves_handed c.from_residual.result c.in_err-version.field-0.0 c.from_residual.ensures.1 (c.in_err-version.ensures.opens clean);
  fault = search rules;
  found = search rules;
  unrefused = search rules;
}

pub returns-clause-found : goal.returns-clause-found
returns-clause-found g c clean = row_known _ c.in_ok-version.field-0 c.in-Some.version c.in-Some.is (c.in_ok-version.ensures.answers clean) c.in_ok-check_version.ensures.known

pub returns-in_default-clause-later : goal.returns-in_default-clause-later
returns-in_default-clause-later g c clean = row_absent _ _ c.in_ok-version.field-0 c.in_default.is (c.in_ok-version.ensures.answers clean)

pub returns-in_err-version-clause-later : goal.returns-in_err-version-clause-later
returns-in_err-version-clause-later g c clean =
    rw (handed_is c.from_residual.result c.in_err-version.field-0.0 c.from_residual.ensures.1)
    (row_unread _ _ c.in_err-version.field-0.0 c.in_err-version.ensures.told (c.in_err-version.ensures.refuses clean))

pub returns-in_err-check_version-clause-later : goal.returns-in_err-check_version-clause-later
returns-in_err-check_version-clause-later g c clean =
    rw (handed_is c.from_residual-in_err-check_version.result c.in_err-check_version.field-0.0 c.from_residual-in_err-check_version.ensures.1)
    (row_later _ _ c.in_ok-version.field-0 c.in-Some.version c.in_err-check_version.field-0.0 c.in-Some.is (c.in_ok-version.ensures.answers clean) c.in_err-check_version.ensures.later)
