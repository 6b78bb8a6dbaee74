use Rattle.std.proofs.Common.{◌≡◌, ◌&&◌, ℕ, ap, eqb}
use Rattle.wu_core.specs.declared.workunit.Grant.{Grant}
use Rattle.wu_audit.specs.Records.{IsGranted}
use Rattle.wu_audit.specs.Sets.{AreValidHeld}
use Rattle.wu_audit.proofs.KeyLemmas.{keys_from_map}
use Rattle.wu_audit.proofs.SetLemmas.{first_like, pair_told, set_holds}
use Rattle.wu_audit.proofs.lacks.first_ungranted.Goals as goal

pub returns : goal.returns
returns c =
    let tells = λ (number : ℕ) (n : ℕ). set_holds (λ (grant : Grant) (at : ℕ × ℕ). at ≡ (grant.workunit, grant.n)) (λ a b. eqb a.0 b.0 && eqb a.1 b.1) c.args.grants.now
    c.in_ok-keys.keys.items c.as_slice.result.now c.in_ok-granted.granted c.as_slice.ensures.value
    (keys_from_map (λ grant. (grant.workunit, grant.n)) c.args.grants.now _ c.in_ok-keys.ensures) c.in_ok-granted.ensures
    (number, n) (λ grant. (grant.workunit ≡ number) × (grant.n ≡ n))
    (λ grant a at. pair_told number grant.workunit n grant.n a.0 a.1 (ap (λ p. p.0) at) (ap (λ p. p.1) at)) in
    first_like (AreValidHeld c.in_ok-granted.granted) (IsGranted c.args.grants.now)
    (λ w. (λ held n valid. (tells w.number n).0 (held n valid), λ granted n valid. (tells w.number n).1 (granted n valid)))
    c.args.workunits.now c.first_with_valid_unheld.result c.first_with_valid_unheld.ensures
