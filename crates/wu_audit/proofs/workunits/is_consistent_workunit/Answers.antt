use Rattle.wu_audit.proofs.PartLemmas.{consistent, in_one_state, settable}
use Rattle.wu_audit.proofs.workunits.is_consistent_workunit.Goals as goal
use Rattle.wu_audit.proofs.workunits.is_consistent_workunit.Goals.{then-is_settable, else-is_settable}
use Rattle.wu_audit.specs.Parts.{IsInOneState, IsSettable}

pub returns-then-is_in_one_state : goal.returns-then-is_in_one_state
returns-then-is_in_one_state c =
    elim c.if-is_settable.branch [
      | then-is_settable v ↦
          let first : IsSettable c.args.workunit.now = c.is_settable.ensures.0 (cc) in
          let second : IsInOneState c.args.workunit.now = v.is_in_one_state.ensures.0 (cc) in
          (λ is. consistent c.args.workunit.now first second (c.is_canonical_valid.ensures.0 is), λ is. c.is_canonical_valid.ensures.1 is.canonical)
      | else-is_settable v ↦ absurd (cc)
    ]

pub returns-else-is_in_one_state : goal.returns-else-is_in_one_state
returns-else-is_in_one_state c = (
  λ is. absurd (cc),
  λ is. elim c.if-is_settable.branch [
    | then-is_settable v ↦ let second = v.is_in_one_state.ensures.1 (in_one_state c.args.workunit.now is) in absurd (cc)
    | else-is_settable v ↦ let first = c.is_settable.ensures.1 (settable c.args.workunit.now is) in absurd (cc)
  ],
)
