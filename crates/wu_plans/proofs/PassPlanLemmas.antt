-- The plan of a pass: places in a row, and the changes of the workunits that it takes.
use Rattle.std.proofs.Common.{◌≡◌, ℕ, ◌+◌, ◌<◌, arith, true, List, [], ◌∷◌, ◌++◌, length, map, Ok, refl, sym, ap, subst, ◌∙◌, append_assoc, append-nil}
use Rattle.std.proofs.lemmas.List.{length-map, map-append}
use Rattle.wu_schema.proofs.Words.{map-map}
use Rattle.std.specs.List.{enumerate_from, flat_map}
use Rattle.sqlite.specs.Effect.{Database}
use Rattle.wu_core.specs.declared.workunit.Archived.{Archived}
use Rattle.wu_core.specs.declared.workunit.Grant.{Grant}
use Rattle.wu_core.specs.declared.workunit.Workunit.{Workunit}
use Rattle.wu_core.specs.World.{World}
use Rattle.wu_rules.specs.Assimilation.{assimilated, emptied}
use Rattle.wu_rules.specs.Transition.{transitioned}
use Rattle.wu_rules.specs.Validation as validation
use Rattle.wu_schema.specs.Refines.{Refines}
use Rattle.wu_store.specs.Changes.{IsNextPlace}
use Rattle.wu_store.specs.Changing.{archived_from, KeepsGrants}
use Rattle.wu_rules.specs.Due.{chosen}
use Rattle.wu_store.specs.declared.changes.Change.{Change}
use Rattle.wu_store.specs.declared.changes.Change.TheVariants.{Archive, Remove}
use Rattle.wu_rules.specs.declared.due.Pass.{Pass}
use Rattle.wu_rules.specs.declared.due.Pass.TheVariants.{Transition, Validate, Assimilate, Delete, Purge}
use Rattle.wu_machine.specs.declared.command.Answer.TheVariants as answer
use Rattle.wu_plans.specs.declared.passes.Ask.{Ask}
use Rattle.wu_plans.specs.declared.passes.Handled.{Handled}
use Rattle.wu_machine.specs.Machine.{is_limit_right, IsUpToDate}
use Rattle.wu_machine.specs.Passes.{archives, granted, passed}
use Rattle.wu_plans.specs.PassPlans.{asked, AddsFrom, change_by, HandlesAll, HasGiven, HasGrants}
use Rattle.wu_plans.specs.Planning.{Plans}
use Rattle.wu_machine.specs.Requests.{Passed}
use Rattle.wu_plans.proofs.PassLemmas.{and_given, pass_grants, pass_made, pass_replaces, purge_removes}
use Rattle.wu_plans.proofs.TouchedLemmas.{ChangesTo}
use Rattle.wu_machine.proofs.ImageLemmas.{assimilated_of, emptied_of, pass_asked, transitioned_of, validated_of}
use Rattle.wu_rules.proofs.Lists.{enumerate_from-append}
use Rattle.wu_plans.proofs.PlanLemmas.{classed}

-- ---- one more at the next place

module _ {X : Type 0} (change : ℕ × X → Change) where
  placed_more : (place : ℕ) (xs : List X) (x : X) → map change (enumerate_from place (xs ++ x ∷ [])) ≡ map change (enumerate_from place xs) ++ change (place + length xs, x) ∷ []
  placed_more place xs x = ap (map change) (enumerate_from-append place xs (x ∷ [])) ∙ map-append change (enumerate_from place xs) ((place + length xs, x) ∷ [])

pub row_placed : (place seq : ℕ) (rows : List Archived) (a : Archived) (first changes new : List Change) → seq ≡ place + length rows
    → changes ≡ first ++ archived_from place rows → new ≡ changes ++ Archive seq a ∷ [] → new ≡ first ++ archived_from place (rows ++ a ∷ [])
row_placed place seq rows a first changes new at are is =
    is ∙ ap (λ k. changes ++ Archive k a ∷ []) at ∙ ap (λ cs. cs ++ Archive (place + length rows) a ∷ []) are
    ∙ append_assoc first (archived_from place rows) (Archive (place + length rows) a ∷ [])
    ∙ ap (λ l. first ++ l) (sym (placed_more (λ p. Archive p.0 p.1) place rows a))

-- ---- grants, where there are any

pub has_grants : (world : World) (place : ℕ) (grants : List Grant) (old new : List Change) → IsNextPlace place world.grants → 0 < length grants → AddsFrom place grants old new → HasGrants world grants old new
has_grants world place [] old new next some from = absurd (omega (arith, some))
has_grants world place (g ∷ grants) old new next some from = record { given = from.given; keeps = (place, next, from.keeps); changes = from.changes }

-- ---- what the changes make

module _ (db : Database) (world : World) (stands : Refines db world) (now min_age limit : ℕ) (given : List Change) (row_place : ℕ) where
  -- the changes of the workunits that a pass chooses, and then what it grants and archives
  abbrev all_changes : Pass → List Change
  all_changes pass = and_given pass now min_age limit world given row_place (map (change_by pass now) (chosen pass now min_age limit world))

  abbrev KeepsAll : Pass → Type 0
  KeepsAll pass = KeepsGrants world.grants (pass_grants pass now min_age limit world) given

  workunits_made : (pass : Pass) → ChangesTo (map (change_by pass now) (chosen pass now min_age limit world)) world (record world { workunits = (passed pass now min_age limit world).workunits })
  workunits_made Transition = pass_replaces db world stands Transition now min_age limit (λ w. transitioned w now) (λ w. (transitioned_of now w).0) (λ w. refl)
  workunits_made Validate = pass_replaces db world stands Validate now min_age limit validation.validated (λ w. (validated_of w).0) (λ w. refl)
  workunits_made Assimilate = pass_replaces db world stands Assimilate now min_age limit (λ w. assimilated w now) (λ w. (assimilated_of now w).0) (λ w. refl)
  workunits_made Delete = pass_replaces db world stands Delete now min_age limit emptied (λ w. (emptied_of w).0) (λ w. refl)
  workunits_made Purge = purge_removes db world stands now min_age limit

  pub pass_all : (pass : Pass) → KeepsAll pass → IsNextPlace row_place world.archived → ChangesTo (all_changes pass) world (passed pass now min_age limit world)
  pass_all pass keeps = pass_made world pass now min_age limit given row_place keeps _ (workunits_made pass)

-- the plan of a pass
module _ (db : Database) (world : World) (stands : Refines db world) (is : IsUpToDate world) (ask : Ask) (right : is_limit_right ask.pass ask.limit ask.min_age ≡ true)
    (given : List Change) (row_place : ℕ) (keeps : KeepsGrants world.grants (pass_grants ask.pass ask.moment ask.min_age ask.limit world) given) (row_next : IsNextPlace row_place world.archived)
    (none_given : chosen ask.pass ask.moment ask.min_age ask.limit world ≡ [] → given ≡ []) where
  abbrev behind : List Workunit → List Change
  behind ts = map (change_by ask.pass ask.moment) ts ++ given ++ archived_from row_place (flat_map (archives ask.pass ask.moment) ts)

  all_planned : (count : ℕ) → count ≡ length (chosen ask.pass ask.moment ask.min_age ask.limit world) → Plans world (asked ask) (answer.Passed ask.pass count) (all_changes db world stands ask.moment ask.min_age ask.limit given row_place ask.pass)
  all_planned count counted =
      let makes = pass_all db world stands ask.moment ask.min_age ask.limit given row_place ask.pass keeps row_next in
      record {
        done = pass_asked world is ask.pass ask.moment ask.limit ask.min_age right ∙ (λ i. Ok (Passed ask.pass (sym counted i), sym makes.0 i));
        right = makes.1 (classed world is);
        idle = λ none. ap behind none ∙ ap (λ cs. cs ++ []) (none_given none);
      }

-- the changes of what was handled of the workunits that are chosen, with their places
module _ (db : Database) (world : World) (stands : Refines db world) (is : IsUpToDate world) (ask : Ask) (right : is_limit_right ask.pass ask.limit ask.min_age ≡ true)
    (taken : List Workunit) (are : taken ≡ chosen ask.pass ask.moment ask.min_age ask.limit world)
    (done_with : Handled) (all : HandlesAll ask.pass ask.moment taken done_with) (changes : List Change) (given : HasGiven world done_with changes) where
  changes_are : changes ≡ all_changes db world stands ask.moment ask.min_age ask.limit given.given given.row_place ask.pass
  changes_are =
      given.changes_are ∙ (λ i. all.changes i ++ given.given ++ archived_from given.row_place (all.archived i))
      ∙ ap (λ ts. map (change_by ask.pass ask.moment) ts ++ given.given ++ archived_from given.row_place (flat_map (archives ask.pass ask.moment) ts)) are

  keeps : KeepsGrants world.grants (pass_grants ask.pass ask.moment ask.min_age ask.limit world) given.given
  keeps = subst (λ gs. KeepsGrants world.grants gs given.given) (all.grants ∙ ap (flat_map (granted ask.pass)) are) given.keeps

  none_kept : taken ≡ [] → given.given ≡ []
  none_kept none = subst (λ gs. KeepsGrants world.grants gs given.given) (all.grants ∙ ap (flat_map (granted ask.pass)) none) given.keeps

  pub pass_planned : (count : ℕ) → count ≡ length taken → Plans world (asked ask) (answer.Passed ask.pass count) changes
  pass_planned count counted =
      subst (Plans world (asked ask) (answer.Passed ask.pass count)) (sym changes_are)
      (all_planned db world stands is ask right given.given given.row_place keeps given.row_next (λ none. none_kept (are ∙ none)) count (counted ∙ ap (λ ts. length ts) are))

-- ---- a purge

none_granted : (ts : List Workunit) → flat_map (granted Purge) ts ≡ []
none_granted [] = refl
none_granted (t ∷ ts) = none_granted ts

none_archived : (now : ℕ) (ts : List Workunit) → flat_map (archives Purge now) ts ≡ []
none_archived now [] = refl
none_archived now (t ∷ ts) = none_archived now ts

-- it takes workunits out, and grants and archives nothing
module _ (now row_place : ℕ) (ts : List Workunit) where
  abbrev all_of : Pass → List Change
  all_of p = map (change_by p now) ts ++ [] ++ archived_from row_place (flat_map (archives p now) ts)

  only_removed : all_of Purge ≡ map (λ (w : Workunit). Remove w.number) ts
  only_removed =
      (λ i. map (change_by Purge now) ts ++ [] ++ archived_from row_place (none_archived now ts i))
      ∙ append-nil (map (λ (w : Workunit). Remove w.number) ts ++ []) ∙ append-nil (map (λ (w : Workunit). Remove w.number) ts)

  removed_all : (p : Pass) → p ≡ Purge → map (λ (w : Workunit). Remove w.number) ts ≡ all_of p
  removed_all p is = sym only_removed ∙ ap all_of (sym is)

  removed_keeps : (before : List Grant) (p : Pass) → p ≡ Purge → KeepsGrants before (flat_map (granted p) ts) []
  removed_keeps before p is = subst (λ gs. KeepsGrants before gs []) (sym (ap (λ q. flat_map (granted q) ts) is ∙ none_granted ts)) refl

module _ (db : Database) (world : World) (stands : Refines db world) (is : IsUpToDate world) (ask : Ask) (purge : ask.pass ≡ Purge) (right : is_limit_right ask.pass ask.limit ask.min_age ≡ true)
    (numbers : List ℕ) (are : numbers ≡ map (λ (w : Workunit). w.number) (chosen ask.pass ask.moment ask.min_age ask.limit world)) where
  abbrev row_place : ℕ
  row_place = length world.archived + 1

  purge_keeps : KeepsGrants world.grants (pass_grants ask.pass ask.moment ask.min_age ask.limit world) []
  purge_keeps = removed_keeps ask.moment row_place (chosen ask.pass ask.moment ask.min_age ask.limit world) world.grants ask.pass purge

  removed_are : map Remove numbers ≡ all_changes db world stands ask.moment ask.min_age ask.limit [] row_place ask.pass
  removed_are =
      let taken = chosen ask.pass ask.moment ask.min_age ask.limit world in
      ap (map Remove) are ∙ map-map Remove (λ (w : Workunit). w.number) taken ∙ removed_all ask.moment row_place taken ask.pass purge

  pub purge_planned : (count : ℕ) → count ≡ length numbers → Plans world (asked ask) (answer.Passed ask.pass count) (map Remove numbers)
  purge_planned count counted =
      let taken = chosen ask.pass ask.moment ask.min_age ask.limit world in
      subst (Plans world (asked ask) (answer.Passed ask.pass count)) (sym removed_are)
      (all_planned db world stands is ask right [] row_place purge_keeps refl (λ none. refl) count (counted ∙ ap (λ ns. length ns) are ∙ length-map taken (λ (w : Workunit). w.number)))
