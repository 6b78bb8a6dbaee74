-- What waits for the passes, counted by the queue.
use Rattle.std.proofs.Common.{◌≡◌, ◌∙◌, ◌<◌, ℕ, List, filter, length, map, take, Ok, inl, inr, ap, arith, sym, subst}
use Rattle.std.proofs.lemmas.Bool.{cases_lt}
use Rattle.std.proofs.lemmas.List.{length-map, length-take-le, take_all}
use Rattle.std.proofs.lemmas.List.Sums.{length-filter}
use Rattle.sqlite.specs.Effect.{Database}
use Rattle.sqlite.specs.Held.{Held, state}
use Rattle.sqlite.specs.State.{HasCleanDisk}
use Rattle.sqlite.specs.Store.{Ghosts}
use Rattle.wu_core.specs.World.{World}
use Rattle.wu_core.specs.declared.workunit.Workunit.{Workunit}
use Rattle.wu_rules.specs.Due.{changes, chosen}
use Rattle.wu_rules.specs.declared.due.Pass.{Pass}
use Rattle.wu_schema.proofs.AskingLemmas.{asks_now}
use Rattle.wu_store.specs.Loading.{Asks}
use Rattle.wu_store.specs.StandsFor.{StandsFor}
use Rattle.wu_views.specs.Waiting.{due_count}

-- after an answer the tables and the queue stand for what they stood for
pub asks_over : {S T : Type 0} (g : Ghosts S) (old new : Held S) (x : T) → Asks g old new (Ok x) → HasCleanDisk (state g new) → (world : World) → StandsFor (state g old).now world → StandsFor (state g new).now world
asks_over g old new x it clean world stands = subst (λ (d : Database). StandsFor d world) (sym (asks_now g old new x it clean)) stands

-- fewer than may be taken are all
taken_all : {A : Type 0} (most : ℕ) (xs : List A) → length (take most xs) < most → length (take most xs) ≡ length xs
taken_all {A} most xs few = elim (cases_lt (length xs) most) [
  | inl less ↦ ap (λ (ys : List A). length ys) (take_all most xs (omega (arith, less)))
  | inr all ↦ absurd (omega (arith, few, length-take-le most xs all))
]

-- the numbers of those that a pass takes are as many as it changes, where they are fewer than its limit
pub due_counted : (pass : Pass) (now most : ℕ) (world : World) (numbers : List ℕ) → numbers ≡ map (λ (w : Workunit). w.number) (chosen pass now 0 most world) → length numbers < most
    → length numbers ≡ due_count now world pass
due_counted pass now most world numbers are few =
    let due = filter (changes pass now 0) world.workunits in
    let long : length numbers ≡ length (take most due) = ap (λ (ns : List ℕ). length ns) are ∙ length-map (take most due) (λ (w : Workunit). w.number) in
    let less : length (take most due) < most = omega (arith, long, few) in
    long ∙ taken_all most due less ∙ length-filter (λ (w : Workunit). changes pass now 0 w) world.workunits
