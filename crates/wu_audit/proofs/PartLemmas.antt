-- A workunit is consistent where each part of that holds.
use Rattle.wu_core.specs.declared.workunit.Workunit.{Workunit}
use Rattle.wu_rules.specs.Consistent.{IsConsistent}
use Rattle.wu_audit.specs.Parts.{IsCanonicalValid, IsInOneState, IsSettable}

pub consistent : (w : Workunit) → IsSettable w → IsInOneState w → IsCanonicalValid w → IsConsistent w
consistent w settable state canonical = record {
  instances = settable.instances;
  deletable = settable.deletable;
  sendable = settable.sendable;
  decidable = settable.decidable;
  classless = settable.classless;
  given_up_or_decided = state.given_up_or_decided;
  nothing_unsent = state.nothing_unsent;
  undecided = state.undecided;
  canonical = canonical;
}

pub settable : (w : Workunit) → IsConsistent w → IsSettable w
settable w is = record { instances = is.instances; deletable = is.deletable; sendable = is.sendable; decidable = is.decidable; classless = is.classless }

pub in_one_state : (w : Workunit) → IsConsistent w → IsInOneState w
in_one_state w is = record { given_up_or_decided = is.given_up_or_decided; nothing_unsent = is.nothing_unsent; undecided = is.undecided }
