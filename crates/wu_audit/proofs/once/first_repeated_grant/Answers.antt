use Rattle.std.proofs.Common.{◌≡◌, ℕ, ◌&&◌, false, eqb, subst, sym}
use Rattle.std.proofs.lemmas.Bool.Decides.{Decides-eqb}
use Rattle.wu_core.specs.declared.workunit.Grant.{Grant}
use Rattle.wu_audit.specs.Keys.{AreApart}
use Rattle.wu_audit.proofs.KeyLemmas.{keys_from_map, once_found, parts_apart}
use Rattle.wu_audit.proofs.once.first_repeated_grant.Goals as goal

pub returns : goal.returns
returns c =
    once_found (λ (grant : Grant) (at : ℕ × ℕ). at ≡ (grant.workunit, grant.n)) (λ a b. eqb a.0 b.0 && eqb a.1 b.1) AreApart c.args.grants.now c.in_ok-granted.granted.items _ c.as_slice.ensures.value
    (keys_from_map (λ grant. (grant.workunit, grant.n)) c.args.grants.now _ c.in_ok-granted.ensures)
    (λ x y a b at_a at_b.
    subst (λ a. ((eqb a.0 b.0 && eqb a.1 b.1) ≡ false → AreApart x y) × (AreApart x y → (eqb a.0 b.0 && eqb a.1 b.1) ≡ false)) (sym at_a)
    (subst (λ b. ((eqb x.workunit b.0 && eqb x.n b.1) ≡ false → AreApart x y) × (AreApart x y → (eqb x.workunit b.0 && eqb x.n b.1) ≡ false)) (sym at_b)
    (parts_apart (eqb x.workunit y.workunit) (eqb x.n y.n) (Decides-eqb x.workunit y.workunit) (Decides-eqb x.n y.n))))
    c.first_repeat.result c.first_repeat.ensures
