-- The jobs of a batch, added to a sound world, and an import that is kept, leave it sound.
use Rattle.std.proofs.Common.{◌≡◌, ◌≢◌, ℕ, ◌+◌, ◌<◌, ◌≤◌, ◌==◌, Bool, true, false, List, [], ◌∷◌, ◌++◌, map, length, take, append_assoc, append-nil, Some, None, bytes_eq, refl, sym, ap, subst, ◌∙◌, inl, inr, arith}
use Rattle.std.proofs.lemmas.Bool.{cases_Bool, eq-eqb, ne_eqb, or_parts}
use Rattle.std.proofs.lemmas.List.Elements.{All-cons, All-head, All-nil, All-push, All-tail, All-weaker}
use Rattle.std.proofs.lemmas.List.Folds.{list_any-append}
use Rattle.std.proofs.lemmas.Option.{slice_get_past}
use Rattle.std.proofs.lemmas.Slice.Eq.{bytes_eq-Decides}
use Rattle.std.specs.List.{All, enumerate_from}
use Rattle.std.specs.Option.{option_map_or}
use Rattle.std.specs.Prelude.{◌&&◌, find, get_or, slice_get}
use Rattle.wu_core.specs.Codes.{import_kind_code}
use Rattle.wu_core.specs.Formed.{IsInstance, IsWorkunit}
use Rattle.wu_core.specs.Limits.{most_workunits}
use Rattle.wu_core.specs.Parameters.{IsParameters, Parameters}
use Rattle.wu_core.specs.World.{World, Import, is_import}
use Rattle.wu_core.specs.declared.workunit.Archived.{Archived}
use Rattle.wu_core.specs.declared.workunit.Grant.{Grant}
use Rattle.wu_core.specs.declared.workunit.Instance.{Instance}
use Rattle.wu_core.specs.declared.workunit.Workunit.{Workunit}
use Rattle.wu_feed.specs.Ranges.{IsJob}
use Rattle.wu_feed.specs.declared.jobs.Job.{Job}
use Rattle.wu_rules.specs.Consistent.{HostsApart, IsConsistent, IsPossible, is_valid_at, is_valid_verdict, one_if}
use Rattle.wu_core.specs.Storable.{AreVerdicts, IsName, IsStorable}
use Rattle.wu_machine.specs.Batches.{first_taken, is_one_of, job_names, new_workunit, taken_names, with_jobs}
use Rattle.wu_machine.proofs.BatchKeeps.{new_storable, news, with_kept}
use Rattle.wu_machine.specs.Sound.{IsGiven, IsRecorded, IsSound}
use Rattle.wu_machine_laws.proofs.Lasts.{Came, came_all, Lasts, lasts_beside, Leads, leads_same, leads_then, names_more, not_one_of}
use Rattle.wu_machine_laws.proofs.SoundLemmas.{sound_beside}
use Rattle.wu_machine_laws.proofs.Middles.{count_none, from_pairs, Pairs, pairs_append, pairs_around, pairs_of_one, to_pairs}
use Rattle.wu_machine_laws.proofs.SoundParts.{Differ, ImportsDiffer, IsGrantIn, IsIn, IsRowIn, Ordered}

-- ---- one job

-- with one more behind a list, that R holds of each and it
pairs_more : {X : Type 0} (R : X → X → Type 0) (xs : List X) (x : X) → Pairs R xs → All (λ y. R y x) xs → Pairs R (xs ++ x ∷ [])
pairs_more R xs x pairs all = pairs_append R xs (x ∷ []) pairs (pairs_of_one R (x ∷ []) (omega arith))
    (λ k d low. All-cons (R _) x [] (all k d low) (All-nil (R _)))

-- no instance is VALID where there is none
none_valid : (n : ℕ) → one_if (is_valid_at [] n) ≡ 0
none_valid n =
    let past : slice_get {X = Instance} [] n ≡ None = slice_get_past [] n (omega arith) in
    ap (λ found. one_if (option_map_or (λ (i : Instance). is_valid_verdict i.validate_state) found false)) past

module _ (world : World) (sound : IsSound world) (params : Parameters) (job : Job) (ranged : IsParameters params) (is : IsJob job)
    (low : world.next_number ≤ most_workunits) where
  -- the workunit of the job
  abbrev new : Workunit
  new = new_workunit params world.next_number job

  -- the world with it
  abbrev with_new : World
  with_new = record world { workunits = world.workunits ++ new ∷ []; next_number = world.next_number + 1 }

  -- it is well formed
  new_formed : IsWorkunit new
  new_formed = record {
    parameters = ranged;
    instances = All-nil IsInstance;
    within = omega arith;
    canonical = λ n e. cc;
    done = λ e. cc;
    done_only =
        λ e. cc;
  }

  -- and consistent
  new_consistent : IsConsistent new
  new_consistent = record {
    instances = All-nil IsPossible;
    deletable = λ e. cc;
    sendable = refl;
    decidable = refl;
    given_up_or_decided = λ e. refl;
    nothing_unsent = λ e. refl;
    undecided = λ e. refl;
    canonical = tt;
    classless = λ e. refl;
  }

  -- a number that was given stays so
  given_still : (number : ℕ) → IsGiven world number → IsGiven with_new number
  given_still number given = (given.0, (let below = given.1 in omega (arith, below)))

  -- nothing is recorded of it yet
  new_recorded : All (λ (row : Archived). row.name ≢ job.name) world.archived → IsRecorded with_new new
  new_recorded free = record {
    granted = λ n. count_none (λ (grant : Grant). grant.workunit == world.next_number && grant.n == n) world.grants
        (λ k d within. let below = (sound.grants k d within).0.1 in
        rw (ne_eqb (get_or world.grants k d).workunit world.next_number (λ same. absurd (omega (arith, below, same))))) ∙ sym (none_valid n);
    own = λ k d within same. let below = (sound.grants k d within).0.1 in absurd (omega (arith, below, same));
    archived = count_none (λ (row : Archived). row.number == world.next_number) world.archived
        (λ k d within. let below = (sound.archived k d within).1 in
        ne_eqb (get_or world.archived k d).number world.next_number (λ same. absurd (omega (arith, below, same))));
    as_archived = λ k d within same. let below = (sound.archived k d within).1 in absurd (omega (arith, below, same));
    named = λ k d within. let below = (sound.archived k d within).1 in (λ same. absurd (free k d within same), λ same. absurd (omega (arith, below, same)));
  }

  -- the world with it is sound
  sound_new : All (λ (w : Workunit). w.name ≢ job.name) world.workunits → All (λ (row : Archived). row.name ≢ job.name) world.archived → IsSound with_new
  sound_new apart free = record {
    next_number = (omega arith, omega (arith, low));
    formed = All-push IsWorkunit world.workunits new sound.formed new_formed;
    storable = All-push IsStorable world.workunits new sound.storable (new_storable params world.next_number job ranged is low);
    granted_to = sound.granted_to;
    archivable = sound.archivable;
    imports = sound.imports;
    consistent = All-push IsConsistent world.workunits new sound.consistent new_consistent;
    recorded = All-push (IsRecorded with_new) world.workunits new
        (All-weaker (IsRecorded world) (IsRecorded with_new) (λ w it. record { granted = it.granted; own = it.own; archived = it.archived; as_archived = it.as_archived; named = it.named })
        world.workunits sound.recorded) (new_recorded free);
    given = All-push (IsIn with_new) world.workunits new (All-weaker (IsIn world) (IsIn with_new) (λ w given. given_still w.number given) world.workunits
        sound.given)
        (sound.next_number.0, omega arith);
    ascending = from_pairs Ordered (world.workunits ++ new ∷ []) (pairs_more Ordered world.workunits new
        (to_pairs Ordered world.workunits sound.ascending) (λ k d within. (sound.given k d within).1));
    names = from_pairs Differ (world.workunits ++ new ∷ []) (pairs_more Differ world.workunits new (to_pairs Differ world.workunits sound.names) apart);
    archived = All-weaker (IsRowIn world) (IsRowIn with_new) (λ row given. given_still row.number given) world.archived sound.archived;
    archived_masks = sound.archived_masks;
    archived_once = sound.archived_once;
    archived_names = sound.archived_names;
    grants = All-weaker (IsGrantIn world) (IsGrantIn with_new)
        (λ grant given. (given_still grant.workunit given.0, given.1, given.2)) world.grants sound.grants;
    granted_once = sound.granted_once;
    imported_once = sound.imported_once;
    classed = sound.classed;
    classes_in_order = sound.classes_in_order;
    classes_in_time = λ old. (let none = sound.classes_in_time old in (none.0, All-push (λ (w : Workunit). w.class ≡ 0) world.workunits new none.1 refl));
  }

  -- and what is to last lasts
  lasts_new : Lasts world with_new
  lasts_new = record {
    next = omega arith;
    came = All-push (λ (v : Workunit). v.number < world.next_number → Came world v) world.workunits new (came_all world)
        (λ below. absurd (omega (arith, below)));
    names = λ name is. names_more name world.workunits (new ∷ []) world.archived is;
    apart = λ all. All-push HostsApart world.workunits new all (λ m n host one other. cc);
  }

-- ---- the jobs of a batch

module _ (params : Parameters) (ranged : IsParameters params) where
  -- jobs lead to a sound world, where their names differ from all others
  pub sound_jobs : (jobs : List Job) → All IsJob jobs → (world : World) → IsSound world → world.next_number + length jobs ≤ most_workunits + 1
      → Pairs Differ (world.workunits ++ news params (enumerate_from world.next_number jobs))
      → All (λ (job : Job). All (λ (row : Archived). row.name ≢ job.name) world.archived) jobs → Leads world (with_jobs world params jobs)
  sound_jobs [] each world sound few apart free =
      let none : world.next_number + 0 ≡ world.next_number = omega arith in
      rw (append-nil world.workunits, none) (leads_same world sound)
  sound_jobs (job ∷ jobs) each world sound few apart free =
      let low : world.next_number ≤ most_workunits = omega (arith, few) in
      let one : Workunit = new_workunit params world.next_number job in
      let more : List Workunit = news params (enumerate_from (world.next_number + 1) jobs) in
      let after : World = record world { workunits = world.workunits ++ one ∷ []; next_number = world.next_number + 1 } in
      let next : IsSound after =
      sound_new world sound params job ranged (All-head IsJob job jobs each) low (pairs_around Differ world.workunits one more apart).0
      (All-head (λ (it : Job). All (λ (row : Archived). row.name ≢ it.name) world.archived) job jobs free) in
      let rest : Leads after (with_jobs after params jobs) = sound_jobs jobs (All-tail IsJob job jobs each) after next (omega (arith, few))
      (subst (Pairs Differ) (sym (append_assoc world.workunits (one ∷ []) more)) apart)
      (All-tail (λ (it : Job). All (λ (row : Archived). row.name ≢ it.name) world.archived) job jobs free) in
      let both : Leads world (with_jobs after params jobs) =
      leads_then world after (with_jobs after params jobs) (next, lasts_new world sound params job ranged (All-head IsJob job jobs each) low) rest in
      let count : (world.next_number + 1) + length jobs ≡ world.next_number + length (job ∷ jobs) = omega arith in
      rw (append_assoc world.workunits (one ∷ []) more, count) at both

-- ---- names that are free

-- where no name is taken, by these or by an earlier job, none is one of these
none_taken : (names all : List (List ℕ)) (k : ℕ) (jobs : List Job) → find (λ p. is_one_of (names ++ take p.0 all) p.1)
    (enumerate_from k (job_names jobs)) ≡ None
    → All (λ (job : Job). is_one_of names job.name ≡ false) jobs
none_taken names all k [] free = All-nil (λ (job : Job). is_one_of names job.name ≡ false)
none_taken names all k (job ∷ jobs) free = elim (cases_Bool (is_one_of (names ++ take k all) job.name)) [
  | inl taken ↦ absurd (let some : Some (k, job.name) ≡ None = rw taken at free in cc)
  | inr not ↦
      All-cons (λ (it : Job). is_one_of names it.name ≡ false) job jobs
      (or_parts (is_one_of names job.name) (is_one_of (take k all) job.name) (sym (list_any-append (λ it. bytes_eq it job.name) names (take k all)) ∙ not)).0
      (none_taken names all (k + 1) jobs (rw not at free))
]

-- no job has the name of an archived row
pub free_of_archive : (world : World) (jobs : List Job) → first_taken world jobs ≡ None
    → All (λ (job : Job). All (λ (row : Archived). row.name ≢ job.name) world.archived) jobs
free_of_archive world jobs free =
    All-weaker (λ (job : Job). is_one_of (taken_names world) job.name ≡ false) (λ (job : Job). All (λ (row : Archived). row.name ≢ job.name) world.archived)
    (λ job off. not_one_of world.archived job.name (or_parts (is_one_of (map (λ w. w.name) world.workunits) job.name)
    (is_one_of (map (λ row. row.name) world.archived) job.name)
    (sym (list_any-append (λ it. bytes_eq it job.name) (map (λ w. w.name) world.workunits) (map (λ row. row.name) world.archived)) ∙ off)).1) jobs
    (none_taken (taken_names world) (job_names jobs) 0 jobs free)

-- ---- an import that is kept

-- what is not found is not there
pub not_found : {X : Type 0} (p : X → Bool) (xs : List X) → find p xs ≡ None → All (λ x. p x ≡ false) xs
not_found p [] none = All-nil (λ x. p x ≡ false)
not_found p (x ∷ xs) none = elim (cases_Bool (p x)) [
  | inl is ↦ absurd (let some : Some x ≡ None = rw is at none in cc)
  | inr not ↦ All-cons (λ y. p y ≡ false) x xs not (not_found p xs (rw not at none))
]

-- a new import leads to a sound world
pub sound_kept : (world : World) → IsSound world → (import : Import) → IsName import.name → AreVerdicts import.kind import.verdicts
    → find (is_import import.kind import.name) world.imports ≡ None
    → Leads world (with_kept import world)
sound_kept world sound import named told fresh =
    let imports = world.imports ++ import ∷ [] in (
      sound_beside world imports world.classes world.version sound
          (All-push (λ (i : Import). IsName i.name × AreVerdicts i.kind i.verdicts) world.imports import sound.imports (named, told))
          (from_pairs ImportsDiffer imports (pairs_more ImportsDiffer world.imports import (to_pairs ImportsDiffer world.imports sound.imported_once)
          (All-weaker (λ (i : Import). is_import import.kind import.name i ≡ false) (λ (i : Import). i.kind ≡ import.kind → i.name ≢ import.name) other
          world.imports (not_found (is_import import.kind import.name) world.imports fresh))))
          sound.classed sound.classes_in_order sound.classes_in_time,
      lasts_beside world imports world.classes world.version,
    )
  where
    other : (i : Import) → is_import import.kind import.name i ≡ false → i.kind ≡ import.kind → i.name ≢ import.name
    other i off same_kind same_name =
        let one : (import_kind_code i.kind == import_kind_code import.kind) ≡ true = eq-eqb (import_kind_code i.kind) (import_kind_code import.kind)
        (ap import_kind_code same_kind) in
        let two : bytes_eq i.name import.name ≡ true = (bytes_eq-Decides i.name import.name).1 same_name in
        let is : is_import import.kind import.name i ≡ true = rw (one, two) refl in
        let both : true ≡ false = sym is ∙ off in
        cc
