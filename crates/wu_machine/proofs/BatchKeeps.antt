-- What a batch's plan makes of a world is what the machine makes of it.
use Rattle.std.proofs.Common.{append_assoc, ◌≡◌, ℕ, ◌+◌, ◌≤◌, Bool, true, false, List, [], ◌∷◌, ◌++◌, length, map, Option, Some, None, Result, Ok, Err, refl, sym, ap, subst, ◌∙◌, inl, inr, arith, nat_lt}
use Rattle.std.proofs.lemmas.Bool.Decides.{nat_tests}
use Rattle.std.proofs.lemmas.Slice.Eq.{bytes_eq-Decides}
use Rattle.std.proofs.lemmas.Bool.{cases_Bool, or_parts}
use Rattle.std.proofs.lemmas.List.{append-nil, length-append, map-append}
use Rattle.std.proofs.lemmas.List.Folds.{list_any-append}
use Rattle.std.proofs.lemmas.List.Elements.{All-append, All-from_recursion, All-head, All-nil, All-push, All-replicate, All-tail}
use Rattle.std.proofs.Math.Seq.{take-append_seam}
use Rattle.std.specs.List.{AllByRecursion, enumerate_from}
use Rattle.std.specs.Prelude.{◌≢◌, All, take, find, bytes_eq, if◌then◌else◌}
use Rattle.wu_core.specs.declared.fault.Fault.{Fault}
use Rattle.wu_core.specs.declared.fault.Fault.TheVariants.{NameUsed}
use Rattle.wu_core.specs.declared.workunit.Workunit.{Workunit}
use Rattle.wu_core.specs.Limits.{most_workunits}
use Rattle.wu_core.specs.Parameters.{IsParameters, Parameters}
use Rattle.wu_core.specs.World.{World, Import, last_skip}
use Rattle.wu_core.specs.Storable.{AreVerdicts, IsStoredInstance, IsStorable, IsAbove}
use Rattle.wu_feed.specs.declared.jobs.Job.{Job}
use Rattle.wu_feed.specs.Jobs.{jobs_of_file}
use Rattle.wu_feed.specs.Ranges.{IsJob}
use Rattle.wu_feed.specs.Templates.{template_of}
use Rattle.wu_feed.proofs.RangeLemmas.{jobs_ranged, template_ranged}
use Rattle.wu_machine.specs.Batches.{all_applied, first_number, first_taken, is_one_of, job_names, new_workunit, unless_taken, with_jobs}
use Rattle.wu_machine.specs.Imports.{batch_given, batch_read, Done, Given, jobs_kept, first_answer, has_content, import_of, imported, imported_after, kept_import}
use Rattle.wu_machine.specs.Machine.{done, done_now, IsUpToDate, is_upgrade, present_version, step, world_of}
use Rattle.wu_machine.specs.Sound.{HasClassesInTime, IsProject}
use Rattle.wu_machine.specs.Requests.{AskBatch, Request}
use Rattle.wu_machine.proofs.ApartLemmas.{Apart, apart_more, apart_pairs, names_of, pairs_apart}
use Rattle.wu_machine.proofs.Versions.{done_up_to_date, up_to_date}

abbrev pub news : Parameters → List (ℕ × Job) → List Workunit
news params ps = map (λ p. new_workunit params p.0 p.1) ps

-- the world with an import more
abbrev pub with_kept : Import → World → World
with_kept import world = record world { imports = world.imports ++ import ∷ [] }

pub above_more : (n : ℕ) (ws : List Workunit) (w : Workunit) → IsAbove n ws → w.number ≡ n → IsAbove (n + 1) (ws ++ w ∷ [])
above_more n [] w above is = (omega (arith, is), tt)
above_more n (u ∷ ws) w above is = (omega (arith, above.0), above_more n ws w above.1 is)

-- what is asked of a batch over a world of the present version
pub asked_of : (world : World) → IsUpToDate world → (name template file : List ℕ) → done world (AskBatch name template file) ≡ imported world (batch_given name template file)
asked_of world is name template file = done_up_to_date world (AskBatch name template file) is

above_news : (params : Parameters) (n : ℕ) (jobs : List Job) (ws : List Workunit) → IsAbove n ws → IsAbove (n + length jobs) (ws ++ news params (enumerate_from n jobs))
above_news params n [] ws above = let same : n ≡ n + 0 = omega arith in subst (λ k. IsAbove k (ws ++ [])) same (subst (λ us. IsAbove n us) (sym (append-nil ws)) above)
above_news params n (job ∷ jobs) ws above =
    let more = above_news params (n + 1) jobs (ws ++ new_workunit params n job ∷ []) (above_more n ws (new_workunit params n job) above refl) in
    let count : (n + 1) + length jobs ≡ n + length (job ∷ jobs) = omega arith in
    subst (λ k. IsAbove k (ws ++ news params (enumerate_from n (job ∷ jobs)))) count
    (subst (λ us. IsAbove ((n + 1) + length jobs) us) (append_assoc ws (new_workunit params n job ∷ []) (news params (enumerate_from (n + 1) jobs))) more)

-- what becomes of a project is one
abbrev pub KeepsProject : World → Result Done Fault → Type 0
KeepsProject world result = IsProject (world_of world result)

pub keeps_if : (b : Bool) (world : World) (one other : Result Done Fault) → KeepsProject world one → KeepsProject world other → KeepsProject world (if b then one else other)
keeps_if true world one other first second = first
keeps_if false world one other first second = second

-- before an upgrade nothing else is done of an older project
pub keeps_done : (world : World) (request : Request) → IsProject world → is_upgrade request ≡ false
    → (IsUpToDate world → KeepsProject world (done_now world request)) → IsProject (step world request)
keeps_done world request project other now = elim (cases_Bool (nat_lt world.version present_version)) [
  | inl older ↦ rw (older, other) project
  | inr younger ↦
      let is = up_to_date world project younger in
      subst (KeepsProject world) (sym (done_up_to_date world request is)) (now is)
]

-- one of the present version may have classes
pub has_classes : (world : World) → IsUpToDate world → (after : World) → after.version ≡ world.version → HasClassesInTime after
has_classes world is after same low = absurd (omega (arith, is, same, low))

-- one that keeps an import more
pub keeps_import : (after : World) → IsProject after → (import : Import) → AreVerdicts import.kind import.verdicts → IsProject (with_kept import after)
keeps_import after project import told = record {
  first = project.first;
  known = project.known;
  above = project.above;
  next = project.next;
  verdicts = All-push (λ (i : Import). AreVerdicts i.kind i.verdicts) after.imports import project.verdicts told;
  storable = project.storable;
  names = project.names;
  classed = project.classed;
  classes_in_time = project.classes_in_time;
}

-- a workunit that a batch adds can be read
pub new_storable : (params : Parameters) (n : ℕ) (job : Job) → IsParameters params → IsJob job → n ≤ most_workunits → IsStorable (new_workunit params n job)
new_storable params n job ranged is low = record {
  number = omega (arith, low);
  row = record { name = is.name; parameters = ranged; input = is.input; canonical = tt; stamped = record { moment = tt; done = λ e. cc; done_only = λ e. cc }; bare = refl; classless = refl };
  class = omega arith;
  instances = record { each = All-nil IsStoredInstance; few = omega arith };
  whole = record { within = omega arith; canonical = λ place e. absurd (cc) };
}

news_storable : (params : Parameters) (n : ℕ) (jobs : List Job) → IsParameters params → All IsJob jobs → n + length jobs ≤ most_workunits + 1
    → AllByRecursion IsStorable (news params (enumerate_from n jobs))
news_storable params n [] ranged each few = tt
news_storable params n (job ∷ jobs) ranged each few =
    (new_storable params n job ranged (All-head IsJob job jobs each) (omega (arith, few)), news_storable params (n + 1) jobs ranged (All-tail IsJob job jobs each) (omega (arith, few)))

-- ---- the names of new workunits

-- none of these names is that of a workunit
is_free : (ws : List Workunit) (name : List ℕ) → is_one_of (names_of ws) name ≡ false → AllByRecursion (λ (v : Workunit). v.name ≢ name) ws
is_free [] name free = tt
is_free (w ∷ ws) name free =
    let parts = or_parts (bytes_eq w.name name) (is_one_of (names_of ws) name) free in
    ((λ same. let is = (bytes_eq-Decides w.name name).1 same in let no : true ≡ false = sym is ∙ parts.0 in cc), is_free ws name parts.1)

free_parts : (one other : List (List ℕ)) (name : List ℕ) → is_one_of (one ++ other) name ≡ false → (is_one_of one name ≡ false) × (is_one_of other name ≡ false)
free_parts one other name free = or_parts (is_one_of one name) (is_one_of other name) (sym (list_any-append (λ it. bytes_eq it name) one other) ∙ free)

free_of_both : (one other : List (List ℕ)) (name : List ℕ) → is_one_of one name ≡ false → is_one_of other name ≡ false → is_one_of (one ++ other) name ≡ false
free_of_both one other name first second = list_any-append (λ it. bytes_eq it name) one other ∙ rw (first, second) refl

-- where no job's name is taken, by what was there or by an earlier job, all names differ
apart_news : (params : Parameters) (n k : ℕ) (jobs : List Job) (old archived past all : List (List ℕ)) (ws : List Workunit) → names_of ws ≡ old ++ past → all ≡ past ++ job_names jobs → length past ≡ k
    → find (λ p. is_one_of ((old ++ archived) ++ take p.0 all) p.1) (enumerate_from k (job_names jobs)) ≡ None → Apart ws → Apart (ws ++ news params (enumerate_from n jobs))
apart_news params n k [] old archived past all ws named are long free apart = subst (λ us. Apart us) (sym (append-nil ws)) apart
apart_news params n k (job ∷ jobs) old archived past all ws named are long free apart = elim (cases_Bool (is_one_of ((old ++ archived) ++ take k all) job.name)) [
  | inl taken ↦ absurd (let some : Some (k, job.name) ≡ None = rw taken at free in cc)
  | inr not ↦
      let before : take k all ≡ past = ap (λ names. take k names) are ∙ ap (λ count. take count (past ++ job_names (job ∷ jobs))) (sym long) ∙ take-append_seam past (job_names (job ∷ jobs)) in
      let parts = free_parts (old ++ archived) past job.name (subst (λ names. is_one_of ((old ++ archived) ++ names) job.name ≡ false) before not) in
      let here = free_of_both old past job.name (free_parts old archived job.name parts.0).0 parts.1 in
      let mine = is_free ws job.name (subst (λ names. is_one_of names job.name ≡ false) (sym named) here) in
      let one = new_workunit params n job in
      let rest = apart_news params (n + 1) (k + 1) jobs old archived (past ++ job.name ∷ []) all (ws ++ one ∷ [])
      (map-append (λ (w : Workunit). w.name) ws (one ∷ []) ∙ ap (λ names. names ++ job.name ∷ []) named ∙ append_assoc old past (job.name ∷ []))
      (are ∙ sym (append_assoc past (job.name ∷ []) (job_names jobs)))
      (let more = length-append past (job.name ∷ []) in omega (arith, more, long))
      (rw not at free)
      (apart_more ws one apart mine) in
      subst (λ us. Apart us) (append_assoc ws (one ∷ []) (news params (enumerate_from (n + 1) jobs))) rest
]

apart_jobs : (world : World) (params : Parameters) (jobs : List Job) → Apart world.workunits → first_taken world jobs ≡ None
    → Apart (world.workunits ++ news params (enumerate_from world.next_number jobs))
apart_jobs world params jobs apart free =
    apart_news params world.next_number 0 jobs (names_of world.workunits) (map (λ row. row.name) world.archived) [] (job_names jobs) world.workunits
    (sym (append-nil (names_of world.workunits))) refl refl free apart

module _ (world : World) (is_now : IsUpToDate world) (project : IsProject world) where
  keeps_jobs : (given : Given) (params : Parameters) (jobs : List Job) → IsParameters params → All IsJob jobs → (taken : Option (ℕ × List ℕ)) → first_taken world jobs ≡ taken
      → KeepsProject world (jobs_kept given world jobs (unless_taken world params jobs taken))
  keeps_jobs given params jobs ranged each (Some place) free = project
  keeps_jobs given params jobs ranged each None free = elim (cases_Bool (nat_lt (most_workunits + 1) (world.next_number + length jobs))) [
    | inl many ↦ rw many project
    | inr few ↦
        let within : world.next_number + length jobs ≤ most_workunits + 1 = grind (arith, nat_tests) in
        rw few (keeps_import (with_jobs world params jobs) (record {
          first = project.first;
          known = project.known;
          above = above_news params world.next_number jobs world.workunits project.above;
          next = (let first = project.next.0 in omega (arith, first), within);
          verdicts = project.verdicts;
          storable = All-append IsStorable world.workunits (news params (enumerate_from world.next_number jobs)) project.storable
              (All-from_recursion IsStorable (news params (enumerate_from world.next_number jobs)) (news_storable params world.next_number jobs ranged each within));
          names = apart_pairs (world.workunits ++ news params (enumerate_from world.next_number jobs)) (apart_jobs world params jobs (pairs_apart world.workunits project.names) free);
          classed = project.classed;
          classes_in_time = has_classes world is_now (with_jobs world params jobs) refl;
        }) (kept_import given (first_number world jobs) (all_applied jobs)) (All-replicate (λ verdict. verdict ≤ last_skip given.kind) (length jobs) 0 (omega arith)))
  ]

  keeps_read : (given : Given) (params : Result Parameters Fault) (jobs : Result (List Job) Fault) → ((is : Parameters) → params ≡ Ok is → IsParameters is)
      → ((are : List Job) → jobs ≡ Ok are → All IsJob are) → KeepsProject world (batch_read given world params jobs)
  keeps_read given (Err fault) jobs ranged each = project
  keeps_read given (Ok params) (Err fault) ranged each = project
  keeps_read given (Ok params) (Ok jobs) ranged each = keeps_jobs given params jobs (ranged params refl) (each jobs refl) (first_taken world jobs) refl

  keeps_imported : (name template file : List ℕ) (earlier : Option Import) → KeepsProject world (imported_after world (batch_given name template file) earlier)
  keeps_imported name template file (Some import) = keeps_if (has_content (batch_given name template file) import) world (Ok (first_answer import, world)) (Err NameUsed) project project
  keeps_imported name template file None = keeps_read (batch_given name template file) (template_of template) (jobs_of_file file) (template_ranged template) (jobs_ranged file)

-- a batch keeps a project one, whatever becomes of it
pub keeps_project : (world : World) → IsProject world → (name template file : List ℕ) → IsProject (step world (AskBatch name template file))
keeps_project world project name template file = keeps_done world (AskBatch name template file) project refl
    (λ is. keeps_imported world is project name template file (import_of world (batch_given name template file)))
