-- What the plan of an import makes of a world is what the machine makes of it: one that came before, and a new file of
-- rows or of classes.
use Rattle.std.proofs.Common.{◌≡◌, ℕ, true, false, List, [], ◌∷◌, map, Some, None, Result, Ok, Err, IfOk, IfErr, refl, sym, ap, subst, ◌∙◌, inl, inr}
use Rattle.std.proofs.lemmas.Bool.{and_parts}
use Rattle.std.proofs.lemmas.Slice.Eq.{bytes_eq-Decides}
use Rattle.std.specs.Prelude.{IsSome, MatchResult, Option}
use Rattle.sqlite.specs.Effect.{Database}
use Rattle.wu_core.specs.declared.fault.Fault.{Fault}
use Rattle.wu_core.specs.declared.fault.Fault.TheVariants.{Memory, NameUsed}
use Rattle.wu_core.specs.declared.workunit.HostClass.{HostClass}
use Rattle.wu_core.specs.Reads.{IsOrWantsMemory}
use Rattle.wu_core.specs.World.{MayBeKept, World, Import, is_import}
use Rattle.wu_schema.specs.Refines.{Refines}
use Rattle.wu_store.specs.Changes.{with_import}
use Rattle.wu_store.specs.Changing.{AreRight, import_of_change, made_all}
use Rattle.wu_store.specs.Loading.{IsEarlier, IsStoreFault}
use Rattle.wu_store.specs.StandsFor.{KnowsClasses}
use Rattle.wu_schema.specs.declared.rows.StoredImport.{StoredImport}
use Rattle.wu_store.specs.declared.changes.Change.TheVariants.{Keep}
use Rattle.wu_store.specs.declared.changes.Import.{Import as Kept}
use Rattle.wu_store.proofs.WorldOnce.{once_named, once_number}
use Rattle.wu_plans.specs.declared.files.AppliedRows.{AppliedRows}
use Rattle.wu_plans.specs.declared.plan.Plan.{Plan}
use Rattle.wu_machine.specs.Batches.{all_applied}
use Rattle.wu_machine.specs.Worlds.{with_host_class}
use Rattle.wu_machine.specs.FileRows.{Rule, after_classes, after_rows, row_verdicts}
use Rattle.wu_machine.specs.Imports.{Done, Given, classes_given, classes_read, first_answer, has_content, import_of, imported, kept_import, keeping, newly_imported, reported_given, rows_read, sent_given}
use Rattle.wu_machine.specs.Machine.{CameBefore, done, IsUpToDate, MakesNothing}
use Rattle.wu_plans.specs.Planning.{has_same_content, IsFilePlan, IsNewClasses, IsNewFile, IsPlan, IsRepeated, KeepsImport, RefusesRepeat, sets_class}
use Rattle.wu_machine.specs.Commands.{reply_of_answer}
use Rattle.wu_machine.specs.Requests.{AskClasses, AskReported, AskSent, Imported, Reply, Request}
use Rattle.wu_plans.specs.Touched.{IsLeft}
use Rattle.wu_machine.proofs.Versions.{done_up_to_date}
use Rattle.wu_plans.proofs.AskLemmas.{kind_is}
use Rattle.wu_plans.proofs.TouchedLemmas.{find_passes, made_append, right_append, rows_then}

-- ---- the rows of a file

-- a file that no template goes with may be kept, and without a first number
may_be_kept : (given : Given) (verdicts : List ℕ) (import : Import) → given.template ≡ [] → import ≡ kept_import given 0 verdicts → MayBeKept import
may_be_kept given verdicts import empty is = subst MayBeKept (sym is) (record { template = λ other. empty; first_number = λ none. refl })

-- the changes of a new file make of the world what its rows make of it, and keep it
pub file_planned : {Row : Type 0} → (rule : Rule Row) (given : Given) (rows : List Row) (db : Database) (world : World) → Refines db world → KnowsClasses world → (left : AppliedRows) → IsLeft rule rows world left.touched left.verdicts.items
    → (r : Result Plan Fault) → IfOk r (IsNewFile given left) → IfErr r (λ fault. fault ≡ Memory) → MatchResult r (IsFilePlan rule given rows world) IsStoreFault
file_planned rule given rows db world stands known left is (Ok plan) new err =
    let made = rows_then rule rows world left.touched left.verdicts.items (Keep new.kept) (once_named db world stands) (once_number db world stands) is new.distinct in
    record {
      kept = new.kept;
      keeps = subst (λ (verdicts : List ℕ). KeepsImport given 0 verdicts new.kept) is.told new.keeps;
      reply = new.reply;
      made = subst (λ changes. made_all changes world ≡ with_import (import_of_change new.kept) (after_rows rule world rows)) (sym new.changes) made.0;
      right = λ empty. subst (λ changes. AreRight changes world) (sym new.changes) (made.1 known (may_be_kept given left.verdicts.items (import_of_change new.kept) empty new.keeps));
    }
file_planned rule given rows db world stands known left is (Err fault) new err = inl err

-- ---- the rows of a file of classes

-- one class after another is set
classes_made : (rows : List HostClass) (world : World) → made_all (map sets_class rows) world ≡ after_classes world rows
classes_made [] world = refl
classes_made (row ∷ rows) world = classes_made rows (with_host_class world row)

classes_right : (rows : List HostClass) (world : World) → KnowsClasses world → AreRight (map sets_class rows) world
classes_right [] world known = tt
classes_right (row ∷ rows) world known = (known, classes_right rows (with_host_class world row) known)

-- ---- what the machine answers

-- what was read is what the file says
pub read_ok : {T : Type 0} (rows : T) (said : Result T Fault) → IsOrWantsMemory (Ok rows) said → said ≡ Ok rows
read_ok rows said (inl is) = sym is
read_ok rows said (inr memory) = absurd cc

pub asked_sent : (world : World) → IsUpToDate world → (name file : List ℕ) → done world (AskSent name file) ≡ imported world (sent_given name file)
asked_sent world is name file = done_up_to_date world (AskSent name file) is

pub asked_reported : (world : World) → IsUpToDate world → (name file : List ℕ) → done world (AskReported name file) ≡ imported world (reported_given name file)
asked_reported world is name file = done_up_to_date world (AskReported name file) is

pub asked_classes : (world : World) → IsUpToDate world → (name file : List ℕ) → done world (AskClasses name file) ≡ imported world (classes_given name file)
asked_classes world is name file = done_up_to_date world (AskClasses name file) is

none_found : (found : Option Import) → found ≡ None → IsSome found → ⊥
none_found (Some import) fresh came = absurd cc
none_found None fresh came = absurd (let no = came in cc)

-- one that is new did not come before
pub never_before : (world : World) (given : Given) → import_of world given ≡ None → ¬ CameBefore world given
never_before world given fresh came = none_found (import_of world given) fresh came

-- what the machine answers and makes is the plan's, where that keeps the same import
pub kept_done : (given : Given) (first : ℕ) (verdicts : List ℕ) (after world : World) (plan : Plan) (kept : Kept) → KeepsImport given first verdicts kept → reply_of_answer plan.answer ≡ first_answer (import_of_change kept)
    → made_all plan.changes.items world ≡ with_import (import_of_change kept) after → ◌≡◌ {A = Done} (keeping given first verdicts after) (reply_of_answer plan.answer, made_all plan.changes.items world)
kept_done given first verdicts after world plan kept keeps reply made = λ i. ((ap (λ (k : Import). first_answer k) (sym keeps) ∙ sym reply) i, (ap (λ k. with_import k after) (sym keeps) ∙ sym made) i)

module _ (world : World) (request : Request) (given : Given) (asked : done world request ≡ imported world given) where
  came_before : (import : Import) → import_of world given ≡ Some import → has_content given import ≡ true → done world request ≡ Ok (first_answer import, world)
  came_before import found same = asked ∙ rw (found, same) refl

  other_content : (import : Import) → import_of world given ≡ Some import → has_content given import ≡ false → done world request ≡ Err NameUsed
  other_content import found other = asked ∙ rw (found, other) refl

  pub rows_planned : {Row : Type 0} → given.template ≡ [] → (rule : Rule Row) (rows : List Row) → import_of world given ≡ None → newly_imported world given given.kind ≡ rows_read rule given world (Ok rows)
      → (MakesNothing world request → CameBefore world given) → (r : Result Plan Fault) → MatchResult r (IsFilePlan rule given rows world) IsStoreFault → IsPlan world request r
  rows_planned empty rule rows fresh read before (Ok plan) it = record {
    done = asked ∙ rw fresh (read ∙ ap (λ (d : Done). Ok d) (kept_done given 0 (row_verdicts rule world rows) (after_rows rule world rows) world plan it.kept it.keeps it.reply it.made));
    right = it.right empty;
    idle = λ none. absurd (never_before world given fresh (before none));
  }
  rows_planned empty rule rows fresh read before (Err fault) it = inr it

  -- a new file of classes
  pub classes_planned : given.template ≡ [] → (rows : List HostClass) → KnowsClasses world → import_of world given ≡ None → newly_imported world given given.kind ≡ classes_read given world (Ok rows)
      → (MakesNothing world request → CameBefore world given) → (r : Result Plan Fault) → IfOk r (IsNewClasses given rows) → IfErr r (λ fault. fault ≡ Memory) → IsPlan world request r
  classes_planned empty rows known fresh read before (Ok plan) it err = record {
    done = asked ∙ rw fresh (read ∙ ap (λ (d : Done). Ok d) (kept_done given 0 (all_applied rows) (after_classes world rows) world plan it.kept it.keeps it.reply made_is));
    right = subst (λ changes. AreRight changes world) (sym it.changes) (right_append (map sets_class rows) (Keep it.kept ∷ []) world (classes_right rows world known) (may_be_kept given (all_applied rows) (import_of_change it.kept) empty it.keeps, tt));
    idle = λ none. absurd (never_before world given fresh (before none));
  }
    where
      made_is : made_all plan.changes.items world ≡ with_import (import_of_change it.kept) (after_classes world rows)
      made_is = ap (λ changes. made_all changes world) it.changes ∙ made_append (map sets_class rows) (Keep it.kept ∷ []) world ∙ ap (with_import (import_of_change it.kept)) (classes_made rows world)
  classes_planned empty rows known fresh read before (Err fault) it err = inr (inl err)

  kind_of : (kept : Import) → is_import given.kind given.name kept ≡ true → kept.kind ≡ given.kind
  kind_of kept is = kind_is kept.kind given.kind (and_parts _ _ is).0

  name_of : (kept : Import) → is_import given.kind given.name kept ≡ true → kept.name ≡ given.name
  name_of kept is = (bytes_eq-Decides kept.name given.name).0 (and_parts _ _ is).1

  same_stored : (earlier : StoredImport) (kept : Import) → earlier.template ≡ kept.template → earlier.content ≡ kept.content → has_content given kept ≡ has_same_content given earlier
  same_stored earlier kept template_is content_is = rw (template_is, content_is) refl

  same_answer : (first : ℕ) (verdicts : List ℕ) (kept : Import) → kept.kind ≡ given.kind → kept.name ≡ given.name → first ≡ kept.first_number → verdicts ≡ kept.verdicts
      → Imported given.kind given.name first verdicts ≡ first_answer kept
  same_answer first verdicts kept kind_same name_same first_is verdicts_are = rw (kind_same, name_same, first_is, verdicts_are) refl

  pub repeated_planned : (earlier : StoredImport) (r : Result Plan Fault) → IsEarlier (import_of world given) (Some earlier) → IfOk r (IsRepeated given earlier) → IfErr r (RefusesRepeat given earlier) → IsPlan world request r
  repeated_planned earlier (Ok plan) (kept, found, template_is, content_is, first_is, verdicts_are) it err = record {
    done = came_before kept found (same_stored earlier kept template_is content_is ∙ it.same) ∙ ap (λ (d : Done). Ok d) again;
    right = subst (λ changes. AreRight changes world) (sym it.nothing) tt;
    idle = λ _. it.nothing;
  }
    where
      is_it : is_import given.kind given.name kept ≡ true
      is_it = find_passes (is_import given.kind given.name) world.imports kept found

      again : ◌≡◌ {A = Done} (first_answer kept, world) (reply_of_answer plan.answer, made_all plan.changes.items world)
      again = ap {B = Done} (λ (a : Reply). (a, world)) (sym (same_answer earlier.first_number earlier.verdicts kept (kind_of kept is_it) (name_of kept is_it) first_is verdicts_are) ∙ sym (ap (λ a. reply_of_answer a) it.answer))
          ∙ ap {B = Done} (λ (w : World). (reply_of_answer plan.answer, w)) (sym (ap (λ changes. made_all changes world) it.nothing))
  repeated_planned earlier (Err fault) (kept, found, template_is, content_is, first_is, verdicts_are) ok (inl memory) = inr (inl memory)
  repeated_planned earlier (Err fault) (kept, found, template_is, content_is, first_is, verdicts_are) ok (inr other) =
      inl (other_content kept found (same_stored earlier kept template_is content_is ∙ other.1) ∙ ap (λ (f : Fault). Err f) (sym other.0))
