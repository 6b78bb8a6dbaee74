-- When a walk or a question is refused, and what a walk that begins shows.
use Rattle.std.proofs.Common.{◌≡◌, ℕ, IfSome, None, Some, Option, Result, Ok, Err, refl, sym, ◌∙◌}
use Rattle.sqlite_trees.specs.declared.store.Store.{Ghosts}
use Rattle.wu_core.specs.declared.fault.Fault.{Fault}
use Rattle.wu_core.specs.declared.fault.Fault.TheVariants.{NotAProject, OldSchema, Output}
use Rattle.wu_passes.specs.declared.project.Project.{Project}
use Rattle.wu_passes.specs.Projects.{AnswersFirst, IsPresentSession, IsSessionOpen, older_version}

module _ {S : Type 0} {g : Ghosts S} (old new : Project S g) where
  present_with : {T : Type 0} (answer : T) (older : Option ℕ) → older_version old ≡ older → IfSome older (λ version. ◌≡◌ {A = Result T Fault} (Ok answer) (Err (OldSchema version)) × (new ≡ old)) → IsPresentSession old
  present_with answer None told it = told
  present_with answer (Some version) told it = absurd (let no = it.0 in cc)

  -- what is answered is asked over the present version
  pub present_done : {T : Type 0} (answer : T) → IsSessionOpen old → AnswersFirst old new (Ok answer) → IsPresentSession old
  present_done answer going early = present_with answer (older_version old) refl (early.older going)

module _ {S : Type 0} {g : Ghosts S} (old new : Project S g) (fault : Fault) where
  -- what is refused as no project's is asked over the present version
  present_at : (older : Option ℕ) → older_version old ≡ older → IfSome older (λ version. fault ≡ OldSchema version) → fault ≡ NotAProject → IsPresentSession old
  present_at None told older is = told
  present_at (Some version) told older is = absurd (let no = sym older ∙ is in cc)

  of_both : (T : Type 0) (older : Option ℕ) → IfSome older (λ version. ◌≡◌ {A = Result T Fault} (Err fault) (Err (OldSchema version)) × (new ≡ old)) → IfSome older (λ version. fault ≡ OldSchema version)
  of_both T None it = it
  of_both T (Some version) it = (let same : ◌≡◌ {A = Result T Fault} (Err fault) (Err (OldSchema version)) = it.0 in cc)

  pub present_answer : {T : Type 0} → IsSessionOpen old → AnswersFirst {T = T} old new (Err fault) → fault ≡ NotAProject → IsPresentSession old
  present_answer {T} going early is = present_at (older_version old) refl (of_both T (older_version old) (early.older going)) is

module _ {S : Type 0} {g : Ghosts S} (old new : Project S g) (fault : Fault) where
  present_then : (older : Option ℕ) → older_version old ≡ older → IfSome older (λ version. fault ≡ OldSchema version) → fault ≡ Output → IsPresentSession old
  present_then None told older is = told
  present_then (Some version) told older is = absurd (let no = sym older ∙ is in cc)

  -- what is told of an output is told over the present version
  pub present_output : {T : Type 0} → IsSessionOpen old → AnswersFirst {T = T} old new (Err fault) → fault ≡ Output → IsPresentSession old
  present_output {T} going early is = present_then (older_version old) refl (of_both old new fault T (older_version old) (early.older going)) is
