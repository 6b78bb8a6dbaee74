-- The upgrade on a connection: from the exits of a command.
use Rattle.std.proofs.Common.{refl, arith, ◌≡◌, ◌∙◌, Bool, true, false, Result, Ok, Err, IfErr, IsTrue, OnErr, OnOk, subst, sym, inl, inr}
use Rattle.sqlite.specs.State.{State, HasCleanDisk, Survives}
use Rattle.sqlite.specs.Tree.{Trees}
use Rattle.wu_schema.proofs.AskingLemmas.{back_then}
use Rattle.wu_core.specs.declared.fault.Fault.{Fault}
use Rattle.wu_core.specs.World.{World}
use Rattle.wu_machine.specs.Requests.{AskUpgrade}
use Rattle.sqlite.specs.Effect.{Database}
use Rattle.wu_schema.specs.Calls.{IsBack, IsUndone}
use Rattle.wu_schema.specs.Others.{SparesOthers}
use Rattle.wu_passes.specs.Adopting.{KeepsAll}
use Rattle.wu_passes.specs.Standing.{ShowsWorld}
use Rattle.wu_passes.specs.Upgrading.{UpgradesFrom}
use Rattle.wu_passes.proofs.StandingLemmas.{keeps_then, most_then}
use Rattle.wu_store.specs.StandsFor.{StandsFor}

-- tables that are shown outside a transaction are committed
pub shows_settled : (s : State) (world : World) → (IsTrue s.is_open → s.now ≡ s.committed) → StandsFor s.now world → ShowsWorld s world
shows_settled s world settled stands is_open = (stands, sym (settled is_open))

pub back_undone : (old new : State) → IsUndone old new → IsBack old new
back_undone old new undone = record { was_open = undone.was_open; now = λ is_open. inr (undone.now is_open).0; committed = λ is_open. (undone.now is_open).1 }

-- what is made after a question
pub upgrades_then : {T : Type 0} (old mid new : State) (world : World) (r : Result T (Fault × Bool)) → KeepsAll old mid → UpgradesFrom mid world new r → UpgradesFrom old world new r
upgrades_then old mid new world (Ok x) kept (inl goes) = inl (goes.0, subst (λ (d : Database). SparesOthers d new.now) kept.now goes.1)
upgrades_then old mid new world (Ok x) kept (inr same) = inr (same.0, keeps_then old mid new kept same.1)
upgrades_then old mid new world (Err refusal) kept runs = (runs.0, runs.1, most_then refusal.1 old mid new world AskUpgrade kept runs.2)

pub survives_same : (s : State) (P : Trees → Type 0) → Survives s s P
survives_same s P = record { clean = omega arith; shield = λ h. h; counts = omega arith; limit = refl; closes = λ _ still. inl still; crash = λ _ db h. inl h }

-- what had begun is no fault from before
pub never_unbegun : {T : Type 0} (r : Result T (Fault × Bool)) (P : Fault → Type 0) → IfErr r (λ refusal. refusal.1 ≡ true) → IfErr r (λ refusal. refusal.1 ≡ false → P refusal.0)
never_unbegun (Ok x) P begun = tt
never_unbegun (Err refusal) P begun = λ none. absurd (let no = sym begun ∙ none in cc)

pub back_after : {T : Type 0} (old mid new : State) (r : Result T (Fault × Bool)) → (HasCleanDisk new → HasCleanDisk mid) → (HasCleanDisk mid → IsBack old mid) → OnErr r (HasCleanDisk new → IsBack mid new) → OnErr r (HasCleanDisk new → IsBack old new)
back_after old mid new (Ok x) before one two = tt
back_after old mid new (Err refusal) before one two = λ clean. back_then old mid new (one (before clean)) (two clean)

pub ok_any : {T E : Type 0} (r : Result T E) (P : Type 0) → P → OnOk r P
ok_any (Ok x) P h = h
ok_any (Err e) P h = tt
