-- Two imports have one key exactly where they are of one kind and one name.
use Rattle.std.proofs.Common.{◌≡◌, sym, ℕ, false, ◌&&◌, List, subst, refl, eqb, bytes_eq}
use Rattle.std.specs.Bool.{Decides}
use Rattle.std.specs.Borrow.{Bor}
use Rattle.std.proofs.lemmas.Slice.Eq.{bytes_eq-Decides}
use Rattle.wu_core.specs.declared.import.ImportKind.{ImportKind}
use Rattle.wu_core.specs.declared.import.ImportKind.TheVariants.{Batch, Sent, Reported, Classes}
use Rattle.wu_core.specs.Codes.{import_kind_code}
use Rattle.wu_core.specs.World.{Import}
use Rattle.wu_audit.specs.Keys.{AreOtherImports, IsImportKey}
use Rattle.wu_audit.proofs.KeyLemmas.{parts_apart}

-- kinds are one exactly where their numbers are
kinds_decide : (one other : ImportKind) → Decides (eqb (import_kind_code one) (import_kind_code other)) (one ≡ other)
kinds_decide Batch Batch = (λ _. refl, λ _. refl)
kinds_decide Batch Sent = (λ e. cc, λ e. cc)
kinds_decide Batch Reported = (λ e. cc, λ e. cc)
kinds_decide Batch Classes = (λ e. cc, λ e. cc)
kinds_decide Sent Batch = (λ e. cc, λ e. cc)
kinds_decide Sent Sent = (λ _. refl, λ _. refl)
kinds_decide Sent Reported = (λ e. cc, λ e. cc)
kinds_decide Sent Classes = (λ e. cc, λ e. cc)
kinds_decide Reported Batch = (λ e. cc, λ e. cc)
kinds_decide Reported Sent = (λ e. cc, λ e. cc)
kinds_decide Reported Reported = (λ _. refl, λ _. refl)
kinds_decide Reported Classes = (λ e. cc, λ e. cc)
kinds_decide Classes Batch = (λ e. cc, λ e. cc)
kinds_decide Classes Sent = (λ e. cc, λ e. cc)
kinds_decide Classes Reported = (λ e. cc, λ e. cc)
kinds_decide Classes Classes = (λ _. refl, λ _. refl)

-- what the test of two keys says of their imports
abbrev TestSays : Import → Import → ℕ → ℕ → List ℕ → List ℕ → Type 0
TestSays x y m n s t = ((eqb m n && bytes_eq s t) ≡ false → AreOtherImports x y) × (AreOtherImports x y → (eqb m n && bytes_eq s t) ≡ false)

pub imports_apart : (x y : Import) (a b : ℕ × Bor (List ℕ)) → IsImportKey x a → IsImportKey y b
    → ((eqb a.0 b.0 && bytes_eq a.1.now b.1.now) ≡ false → AreOtherImports x y)
    × (AreOtherImports x y → (eqb a.0 b.0 && bytes_eq a.1.now b.1.now) ≡ false)
imports_apart x y a b at_a at_b =
    subst (λ m. TestSays x y m b.0 a.1.now b.1.now) (sym at_a.0)
    (subst (λ n. TestSays x y (import_kind_code x.kind) n a.1.now b.1.now) (sym at_b.0)
    (subst (λ s. TestSays x y (import_kind_code x.kind) (import_kind_code y.kind) s b.1.now) (sym at_a.1)
    (subst (λ t. TestSays x y (import_kind_code x.kind) (import_kind_code y.kind) x.name t) (sym at_b.1)
    (parts_apart (eqb (import_kind_code x.kind) (import_kind_code y.kind)) (bytes_eq x.name y.name) (kinds_decide x.kind y.kind) (bytes_eq-Decides x.name y.name)))))
