-- What has something to send is undecided.
use Rattle.std.proofs.Common.{◌≡◌, ℕ, Bool, true, false, ◌&&◌, List, slice_get, Option, Some, None, is_none, refl}
use Rattle.std.specs.Option.{option_map_or}
use Rattle.wu_core.specs.declared.workunit.Instance.{Instance}
use Rattle.wu_core.specs.declared.workunit.Workunit.{Workunit}
use Rattle.wu_rules.specs.Counts.{is_clear, is_undecided}
use Rattle.wu_rules.specs.Instances.{is_unsent}
use Rattle.wu_rules.specs.Sending.{send_verdict_in, send_verdict_of}
use Rattle.wu_rules.specs.declared.verdicts.SendVerdict.TheVariants as send
use Rattle.wu_rules.specs.Consistent.{IsConsistent}
use Rattle.wu_rules_laws.proofs.Rewriting.{was_unsent}
use Rattle.wu_rules_laws.proofs.Progress.{fails_at}

-- what is sent is of an undecided workunit
pub sends_undecided : (w : Workunit) (n : ℕ) (host : List ℕ) (class : ℕ) → IsConsistent w → send_verdict_in w n host class ≡ send.Applied → is_undecided w ≡ true
sends_undecided w n host class h applied = by_case (slice_get w.instances n) refl applied
  where
    both : (clear undecided : Bool) → ((clear && undecided) ≡ false → ⊥) → (undecided && clear) ≡ true
    both true true fails = refl
    both clear undecided fails = absurd (fails refl)

    by_case : (o : Option Instance) → slice_get w.instances n ≡ o → option_map_or (send_verdict_of w host class) o send.Unknown ≡ send.Applied → is_undecided w ≡ true
    by_case None e f = cc
    by_case (Some i) e f = both (is_clear w.error_mask) (is_none w.canonical) (λ g.
        let none = fails_at is_unsent w.instances n i (h.nothing_unsent g) e in
        let unsent = was_unsent w host class i f in
        cc)
