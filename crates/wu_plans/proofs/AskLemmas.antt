-- What is asked of the tables before a batch, as the machine asks it of a world.
use Rattle.std.proofs.Common.{◌≡◌, ℕ, ◌+◌, ◌<◌, ◌≤◌, Bool, true, false, List, [], ◌∷◌, ◌++◌, length, map, Some, None, Result, Ok, Err, refl, sym, ap, ap₂, subst, ◌∙◌, inl, inr, arith}
use Rattle.std.proofs.lemmas.Bool.{and_parts, cases_Bool, eqb-true, or_right}
use Rattle.std.proofs.lemmas.List.Folds.{list_any-append}
use Rattle.std.proofs.Common.{get_or, take, drop, length-take-le, take_all}
use Rattle.std.proofs.lemmas.List.{length-map, get_or-map, take_more, take-append-drop, take-map}
use Rattle.std.proofs.lemmas.List.Folds.{find-append}
use Rattle.std.specs.Bool.{OnFalse}
use Rattle.std.specs.Borrow.{Bor}
use Rattle.std.specs.List.{enumerate_from, list_any}
use Rattle.std.specs.List.Sorted.{IsPermutation}
use Rattle.std.proofs.lemmas.Cmp.{nat_list_eq_equiv}
use Rattle.std.proofs.lemmas.List.Sorted.{IsPermutation-append_right, IsPermutation-map, IsPermutation-push_more, list_any-IsPermutation}
use Rattle.std.specs.Prelude.{◌||◌, ◌==◌, All, IfErr, IfOk, IfSome, bytes_eq, find, MatchResult}
use Rattle.std.proofs.lemmas.List.Elements.{All-head, All-tail}
use Rattle.wu_core.specs.Codes.{import_kind_code}
use Rattle.wu_core.specs.declared.fault.Fault.{Fault}
use Rattle.wu_core.specs.declared.import.ImportKind.{ImportKind}
use Rattle.wu_core.specs.declared.workunit.Archived.{Archived}
use Rattle.wu_core.specs.declared.workunit.Workunit.{Workunit}
use Rattle.wu_core.specs.World.{World, Import, is_import}
use Rattle.wu_rules.proofs.Lists.{any-map, enumerate_from-append}
use Rattle.wu_store.specs.Answers.{has_name, was_archived}
use Rattle.wu_store.proofs.SameWorld.{kind_again, kind_of}
use Rattle.wu_core.specs.Storable.{AreVerdicts}
use Rattle.wu_feed.specs.declared.jobs.Job.{Job}
use Rattle.wu_machine.specs.Batches.{first_taken, is_one_of, job_names, taken_names}
use Rattle.wu_machine.specs.Sound.{HasVerdicts}
pub use Rattle.wu_store.proofs.AskLemmas.{asks_fault, asks_handed, asks_made, asks_none, asks_stands, asks_then, handed_on}
use Rattle.wu_store.specs.Loading.{IsStoreFault, LoadsImport}
use Rattle.wu_plans.specs.Planning.{texts_of}

-- a name is taken by a workunit that is present or by an archived one
pub taken_is : (world : World) (name : List ℕ) → is_one_of (taken_names world) name ≡ (has_name name world || was_archived name world)
taken_is world name =
    list_any-append (λ one. bytes_eq one name) (map (λ (w : Workunit). w.name) world.workunits) (map (λ (a : Archived). a.name) world.archived)
    ∙ ap₂ ◌||◌ (any-map (λ one. bytes_eq one name) (λ (w : Workunit). bytes_eq w.name name) (λ (w : Workunit). w.name) (λ w. refl) world.workunits)
    (any-map (λ one. bytes_eq one name) (λ (a : Archived). bytes_eq a.name name) (λ (a : Archived). a.name) (λ a. refl) world.archived)

pub kind_is : (one other : ImportKind) → (import_kind_code one == import_kind_code other) ≡ true → one ≡ other
kind_is one other is = sym (kind_again one) ∙ ap kind_of (eqb-true _ _ is) ∙ kind_again other

-- the verdicts of an import that is found are in range
pub found_in_range : (k : ImportKind) (name : List ℕ) (world : World) → HasVerdicts world → LoadsImport k name world
found_in_range k name world verdicts = among world.imports verdicts
  where
    among : (imports : List Import) → All (λ i. AreVerdicts i.kind i.verdicts) imports → IfSome (find (is_import k name) imports) (λ import. AreVerdicts k import.verdicts)
    among [] all = tt
    among (import ∷ more) all = elim (cases_Bool (is_import k name import)) [
      | inl is ↦ rw is (subst (λ of. AreVerdicts of import.verdicts) (kind_is import.kind k (and_parts _ (bytes_eq import.name name) is).0) (All-head (λ (i : Import). AreVerdicts i.kind i.verdicts) import more all))
      | inr not ↦ rw not (among more (All-tail (λ (i : Import). AreVerdicts i.kind i.verdicts) import more all))
    ]

-- used by a workunit, an archived row or one of these
pub used_is : (world : World) (names : List (List ℕ)) (name : List ℕ) → is_one_of (taken_names world ++ names) name ≡ (is_one_of (taken_names world) name || is_one_of names name)
used_is world names name = list_any-append (λ one. bytes_eq one name) (taken_names world) names

or_false : (b : Bool) → (b || false) ≡ b
or_false true = refl
or_false false = refl

-- it is one of these
pub used_by_name : (world : World) (names : List (List ℕ)) (name : List ℕ) → is_one_of names name ≡ true → true ≡ is_one_of (taken_names world ++ names) name
used_by_name world names name has = sym (used_is world names name ∙ or_right _ _ has)

-- it is none of these
pub used_by_world : (world : World) (names : List (List ℕ)) (name : List ℕ) (r : Result Bool Fault) → is_one_of names name ≡ false
    → MatchResult r (λ taken. taken ≡ is_one_of (taken_names world) name) IsStoreFault → MatchResult r (λ used. used ≡ is_one_of (taken_names world ++ names) name) IsStoreFault
used_by_world world names name (Ok taken) none is = is ∙ sym (used_is world names name ∙ ap (λ b. is_one_of (taken_names world) name || b) none ∙ or_false (is_one_of (taken_names world) name))
used_by_world world names name (Err fault) none is = is

-- ---- the texts that a set has

-- whether one has these bytes
pub among_is : (texts : List (Bor (List ℕ))) (text : Bor (List ℕ)) → is_one_of (texts_of texts) text.now ≡ list_any (λ (one : Bor (List ℕ)). bytes_eq text.now one.now) texts
among_is texts text = any-map (λ one. bytes_eq one text.now) (λ (one : Bor (List ℕ)). bytes_eq text.now one.now) (λ (one : Bor (List ℕ)). one.now) (λ one. nat_list_eq_equiv.symm one.now text.now) texts

-- one more
pub names_added : (texts more : List (Bor (List ℕ))) (text : Bor (List ℕ)) → IsPermutation (text ∷ texts) more → IsPermutation (text.now ∷ texts_of texts) (texts_of more)
names_added texts more text = IsPermutation-map (λ (one : Bor (List ℕ)). one.now) (text ∷ texts) more

pub unless_used : {P : Type 0} (r : Result Bool Fault) → P → IfOk r (λ used. OnFalse used P)
unless_used (Ok true) it = tt
unless_used (Ok false) it = it
unless_used (Err fault) it = tt

-- the names of a list in another order
pub among_same : (names others : List (List ℕ)) → IsPermutation names others → (world : World) (name : List ℕ) → is_one_of (taken_names world ++ names) name ≡ is_one_of (taken_names world ++ others) name
among_same names others same world name = list_any-IsPermutation (λ one. bytes_eq one name) (taken_names world ++ names) (taken_names world ++ others) (IsPermutation-append_right (taken_names world) names others same)

-- whether the name at a place is taken, by the world or by a job before it
abbrev pub is_used_at : World → List Job → ℕ × List ℕ → Bool
is_used_at world jobs p = is_one_of (taken_names world ++ take p.0 (job_names jobs)) p.1

-- none of the first so many names is taken
abbrev pub AreFree : World → List Job → ℕ → Type 0
AreFree world jobs count = find (is_used_at world jobs) (enumerate_from 0 (take count (job_names jobs))) ≡ None

used_here : (world : World) (jobs : List Job) (i : ℕ) (name : List ℕ) (used : Bool) → used ≡ is_one_of (taken_names world ++ take i (job_names jobs)) name → is_used_at world jobs (i, name) ≡ used
used_here world jobs i name used is = sym is

module _ (jobs : List Job) (i : ℕ) (job d : Job) (low : i < length jobs) (there : get_or jobs i d ≡ job) where
  within : i < length (job_names jobs)
  within = omega (arith, low, length-map jobs (λ (job : Job). job.name))

  names_next : take (i + 1) (job_names jobs) ≡ take i (job_names jobs) ++ job.name ∷ []
  names_next = take_more (job_names jobs) i [] within ∙ ap (λ name. take i (job_names jobs) ++ name ∷ []) (get_or-map (λ (job : Job). job.name) jobs i d [] low ∙ ap (λ (j : Job). j.name) there)

  -- the names of one job more, in any order
  pub names_more : (names others : List (List ℕ)) → IsPermutation (take i (job_names jobs)) names → IsPermutation (job.name ∷ names) others → IsPermutation (take (i + 1) (job_names jobs)) others
  names_more names others before added = subst (λ all. IsPermutation all others) (sym names_next) (IsPermutation-push_more (take i (job_names jobs)) names others job.name before added)

  enumerate_next : enumerate_from 0 (take (i + 1) (job_names jobs)) ≡ enumerate_from 0 (take i (job_names jobs)) ++ (i, job.name) ∷ []
  enumerate_next =
      let places : 0 + length (take i (job_names jobs)) ≡ i = omega (arith, length-take-le i (job_names jobs) (omega (arith, within))) in
      ap (λ names. enumerate_from 0 names) names_next
      ∙ enumerate_from-append 0 (take i (job_names jobs)) (job.name ∷ [])
      ∙ ap (λ k. enumerate_from 0 (take i (job_names jobs)) ++ (k, job.name) ∷ []) places

pub free_more : (world : World) (jobs : List Job) (i : ℕ) (job d : Job) → i < length jobs → get_or jobs i d ≡ job → false ≡ is_one_of (taken_names world ++ take i (job_names jobs)) job.name
    → AreFree world jobs i → AreFree world jobs (i + 1)
free_more world jobs i job d low there unused free =
    let test = is_used_at world jobs in
    let before = enumerate_from 0 (take i (job_names jobs)) in
    ap (λ ps. find test ps) (enumerate_next jobs i job d low there) ∙ find-append test before ((i, job.name) ∷ [])
    ∙ rw (free, used_here world jobs i job.name false unused) refl

pub taken_here : (world : World) (jobs : List Job) (i : ℕ) (job d : Job) → i < length jobs → get_or jobs i d ≡ job → true ≡ is_one_of (taken_names world ++ take i (job_names jobs)) job.name
    → AreFree world jobs i → first_taken world jobs ≡ Some (i, job.name)
taken_here world jobs i job d low there used free =
    let test = is_used_at world jobs in
    let names = job_names jobs in
    let next = enumerate_from 0 (take (i + 1) names) in
    let whole : enumerate_from 0 names ≡ next ++ enumerate_from (0 + length (take (i + 1) names)) (drop (i + 1) names) =
    ap (λ ns. enumerate_from 0 ns) (sym (take-append-drop (i + 1) names)) ∙ enumerate_from-append 0 (take (i + 1) names) (drop (i + 1) names) in
    let here : find test next ≡ Some (i, job.name) =
    ap (λ ps. find test ps) (enumerate_next jobs i job d low there) ∙ find-append test (enumerate_from 0 (take i names)) ((i, job.name) ∷ [])
    ∙ rw (free, used_here world jobs i job.name true used) refl in
    ap (λ ps. find test ps) whole ∙ find-append test next (enumerate_from (0 + length (take (i + 1) names)) (drop (i + 1) names)) ∙ rw here refl

pub all_free : (world : World) (jobs : List Job) (i : ℕ) → length jobs ≤ i → AreFree world jobs i → first_taken world jobs ≡ None
all_free world jobs i past free =
    let long : length (job_names jobs) ≤ i = omega (arith, past, length-map jobs (λ (job : Job). job.name)) in
    ap (λ names. find (is_used_at world jobs) (enumerate_from 0 names)) (sym (take_all _ _ long)) ∙ free

-- ---- from question to question

-- an answer that is this, or a fault of the store
pub told_or : {T : Type 0} (r : Result T Fault) (P : T → Type 0) → IfOk r P → IfErr r IsStoreFault → MatchResult r P IsStoreFault
told_or (Ok x) P is told = is
told_or (Err fault) P is told = told
