-- What the changes that refill a project make of an empty world: the world, one part after another.
use Rattle.std.proofs.Common.{arith, ◌≡◌, ◌<◌, List, [], ◌∷◌, ◌++◌, map, Less, Greater, refl, sym, ap, subst, ◌∙◌, append-nil, append_assoc}
use Rattle.std.proofs.lemmas.List.Elements.{All-from_recursion, recursion_from_All}
use Rattle.std.specs.List.{All, AllByRecursion}
use Rattle.sqlite.specs.Effect.{Database}
use Rattle.wu_core.specs.Classes.{with_class}
use Rattle.wu_core.specs.World.{World, MayBeKept, empty_world}
use Rattle.wu_core.specs.declared.workunit.HostClass.{HostClass}
use Rattle.wu_core.specs.declared.workunit.Workunit.{Workunit}
use Rattle.wu_core.proofs.HostLemmas.{Ascends, order, pairs_ascend, turned}
use Rattle.wu_core.proofs.ClassLemmas.{Before}
use Rattle.wu_machine.specs.Machine.{IsUpToDate}
use Rattle.wu_machine.specs.Sound.{IsSound}
use Rattle.wu_plans.specs.Planning.{sets_class}
use Rattle.wu_plans.proofs.TouchedLemmas.{made_append, right_append}
use Rattle.wu_schema.specs.Refines.{Refines}
use Rattle.wu_store.specs.Changes.{with_import, with_workunit}
use Rattle.wu_store.specs.Changing.{AreRight, archived_from, import_of_change, made_all}
use Rattle.wu_store.specs.StandsFor.{KnowsClasses}
use Rattle.wu_store.specs.declared.changes.Change.{Change}
use Rattle.wu_store.specs.declared.changes.Change.TheVariants.{Add, Keep, Next}
use Rattle.wu_store.specs.declared.changes.Import.{Import as Kept}
use Rattle.wu_store.proofs.ChangingLemmas.{archived_made, archived_right, grants_made, grants_right}
use Rattle.wu_refill.specs.Refilling.{MakesTheWorld, MayBeRefilled, Refills}

-- the changes make the second world of the first, and may be made of it
abbrev Leads : List Change → World → World → Type 0
Leads changes a b = (made_all changes a ≡ b) × AreRight changes a

then_leads : (first next : List Change) (a b c : World) → Leads first a b → Leads next b c → Leads (first ++ next) a c
then_leads first next a b c one two = (
  made_append first next a ∙ ap (made_all next) one.0 ∙ two.0,
  right_append first next a one.1 (subst (AreRight next) (sym one.0) two.1),
)

-- ---- in order

-- what holds of each holds of the one at a place
at_it : {X : Type 0} (P : X → Type 0) (xs : List X) (y : X) (ys : List X) → AllByRecursion P (xs ++ y ∷ ys) → P y
at_it P [] y ys all = all.0
at_it P (x ∷ xs) y ys all = at_it P xs y ys all.1

-- each that comes before another stands so to it
before_it : {X : Type 0} (R : X → X → Type 0) (xs : List X) (y : X) (ys : List X) → Ascends R (xs ++ y ∷ ys) → AllByRecursion (λ x. R x y) xs
before_it R [] y ys up = tt
before_it R (x ∷ xs) y ys up = (at_it (R x) xs y ys up.0, before_it R xs y ys up.1)

-- ---- classes of hosts

-- a host behind all others comes last
class_last : (it : HostClass) (classes : List HostClass) → AllByRecursion (λ one. Before one it) classes → with_class it.host it.class classes ≡ classes ++ it ∷ []
class_last it [] up = refl
class_last it (one ∷ more) up =
    let high : order it.host one.host ≡ Greater = turned one.host it.host Less up.0 in
    rw high (ap (λ its. one ∷ its) (class_last it more up.1))

abbrev with_classes : List HostClass → World → World
with_classes classes world = record world { classes = classes }

classes_lead : (rows : List HostClass) (world : World) → KnowsClasses world → Ascends Before (world.classes ++ rows)
    → Leads (map sets_class rows) world (with_classes (world.classes ++ rows) world)
classes_lead [] world known up = (ap (λ cs. with_classes cs world) (sym (append-nil world.classes)), tt)
classes_lead (row ∷ rows) world known up =
    let last : with_class row.host row.class world.classes ≡ world.classes ++ row ∷ [] = class_last row world.classes (before_it Before world.classes row rows up) in
    let rest = classes_lead rows (with_classes (world.classes ++ row ∷ []) world) known (subst (Ascends Before) (sym (append_assoc world.classes (row ∷ []) rows)) up) in (
      ap (λ cs. made_all (map sets_class rows) (with_classes cs world)) last ∙ rest.0 ∙ ap (λ cs. with_classes cs world) (append_assoc world.classes (row ∷ []) rows),
      (known, subst (λ cs. AreRight (map sets_class rows) (with_classes cs world)) (sym last) rest.1),
    )

-- ---- workunits

abbrev Lower : Workunit → Workunit → Type 0
Lower one other = one.number < other.number

abbrev with_workunits : List Workunit → World → World
with_workunits workunits world = record world { workunits = workunits }

workunits_lead : (ws : List Workunit) (world : World) → KnowsClasses world → Ascends Lower (world.workunits ++ ws)
    → Leads (map Add ws) world (with_workunits (world.workunits ++ ws) world)
workunits_lead [] world known up = (ap (λ ws. with_workunits ws world) (sym (append-nil world.workunits)), tt)
workunits_lead (w ∷ ws) world known up =
    let rest = workunits_lead ws (with_workunit w world) known (subst (Ascends Lower) (sym (append_assoc world.workunits (w ∷ []) ws)) up) in (
      rest.0 ∙ ap (λ all. with_workunits all world) (append_assoc world.workunits (w ∷ []) ws),
      ((known, before_it Lower world.workunits w ws up), rest.1),
    )

-- ---- imports

imports_lead : (kept : List Kept) (world : World) → AllByRecursion MayBeKept (map import_of_change kept)
    → Leads (map Keep kept) world (record world { imports = world.imports ++ map import_of_change kept })
imports_lead [] world may = ((λ i. record world { imports = sym (append-nil world.imports) i }), tt)
imports_lead (k ∷ kept) world may =
    let rest = imports_lead kept (with_import (import_of_change k) world) may.1 in (
      rest.0 ∙ (λ i. record world { imports = append_assoc world.imports (import_of_change k ∷ []) (map import_of_change kept) i }),
      (may.0, rest.1),
    )

-- ---- all of them

module _ (world : World) (may : MayBeRefilled world) (changes : List Change) (are : Refills world changes) where
  abbrev numbered : World
  numbered = record empty_world { next_number = world.next_number }

  abbrev classed : World
  classed = with_classes world.classes numbered

  abbrev peopled : World
  peopled = with_workunits world.workunits classed

  abbrev credited : World
  credited = record peopled { grants = world.grants }

  abbrev recorded : World
  recorded = record credited { archived = world.archived }

  to_classes : Leads (Next world.next_number ∷ map sets_class world.classes) empty_world classed
  to_classes =
      let rest = classes_lead world.classes numbered (omega arith) (pairs_ascend Before world.classes may.classes) in
      (rest.0, (tt, rest.1))

  to_workunits : Leads (Next world.next_number ∷ map sets_class world.classes ++ map Add world.workunits) empty_world peopled
  to_workunits =
      then_leads (Next world.next_number ∷ map sets_class world.classes) (map Add world.workunits) empty_world classed peopled to_classes
      (workunits_lead world.workunits classed (omega arith) (pairs_ascend Lower world.workunits may.workunits))

  to_grants : Leads (Next world.next_number ∷ map sets_class world.classes ++ map Add world.workunits ++ are.grants) empty_world credited
  to_grants =
      then_leads (Next world.next_number ∷ map sets_class world.classes ++ map Add world.workunits) are.grants empty_world peopled credited to_workunits
      (grants_made [] world.grants are.grants peopled are.keeps_grants, grants_right world.grants are.grants peopled are.keeps_grants)

  to_archived : Leads (Next world.next_number ∷ map sets_class world.classes ++ map Add world.workunits ++ are.grants ++ archived_from 1 world.archived) empty_world recorded
  to_archived =
      then_leads (Next world.next_number ∷ map sets_class world.classes ++ map Add world.workunits ++ are.grants) (archived_from 1 world.archived) empty_world credited recorded to_grants
      (archived_made 1 world.archived credited, archived_right 1 world.archived credited refl)

  kept_are : AllByRecursion MayBeKept (map import_of_change are.kept)
  kept_are = subst (AllByRecursion MayBeKept) (sym are.keeps_imports) (recursion_from_All MayBeKept world.imports may.imports)

  -- all but the version, which is the present one
  to_end : Leads (map Keep are.kept) recorded world
  to_end =
      let last = imports_lead are.kept recorded kept_are in
      (last.0 ∙ (λ i. record recorded { imports = are.keeps_imports i }) ∙ (λ i. record world { version = sym may.version i }), last.1)

  pub refilled : MakesTheWorld world changes
  refilled =
      let whole = then_leads (Next world.next_number ∷ map sets_class world.classes ++ map Add world.workunits ++ are.grants ++ archived_from 1 world.archived) (map Keep are.kept) empty_world recorded world to_archived to_end in
      subst (λ cs. MakesTheWorld world cs) (sym are.all) whole

-- ---- which worlds may be made so

pub sound_refilled : (world : World) → IsSound world → IsUpToDate world → All MayBeKept world.imports → MayBeRefilled world
sound_refilled world sound is kept = record {
  version = is;
  workunits = sound.ascending;
  classes = sound.classes_in_order;
  imports = kept;
  verdicts = λ i d low. (sound.imports i d low).1;
}

pub may_be_refilled : (db : Database) (world : World) → Refines db world → IsSound world → IsUpToDate world → MayBeRefilled world
may_be_refilled db world stands sound is = sound_refilled world sound is (All-from_recursion MayBeKept world.imports stands.rows.imports_kept)
