use Rattle.std.proofs.Common.{refl, subst, sym}
use Rattle.wu_core.specs.declared.workunit.Workunit.{Workunit}
use Rattle.wu_audit.specs.Records.{IsGrantOf}
use Rattle.wu_audit.proofs.PlaceLemmas.{holds_here}
use Rattle.wu_audit.proofs.PlacingLemmas.{all_of_none, all_of_number}
use Rattle.wu_audit.proofs.records.is_backed_grant.Goals as goal

pub returns-in-Some : goal.returns-in-Some
returns-in-Some c = (
  λ told. all_of_number (λ (w : Workunit). IsGrantOf w c.args.grant.now) c.args.grant.now.workunit c.args.workunits.now c.in-Some.place c.requires c.in-Some.ensures
      (holds_here (λ (w : Workunit). IsGrantOf w c.args.grant.now) c.args.workunits.now c.in-Some.place c.index-workunits-place.result c.in-Some.ensures.within c.index-workunits-place.is (c.is_grant_of.ensures.0 told)),
  λ all. c.is_grant_of.ensures.1
      (subst (λ (w : Workunit). IsGrantOf w c.args.grant.now) (sym c.index-workunits-place.is)
      (all c.in-Some.place c.index-workunits-place.result c.in-Some.ensures.within (sym (c.in-Some.ensures.here c.index-workunits-place.result)))),
)

pub returns-in-None : goal.returns-in-None
returns-in-None c = (λ told. all_of_none (λ (w : Workunit). IsGrantOf w c.args.grant.now) c.args.grant.now.workunit c.args.workunits.now c.in-None.ensures, λ all. refl)
