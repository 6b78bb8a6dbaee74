-- The workunits that the queue has for a pass, and how they are found by their numbers.
use Rattle.wu_schema.proofs.Words.{AllByRecursion, Bool, Database, Fault, IfErr, List, NotAProject, None, Ok, Option, Result, Row, Refines, Some, Workunit, World, [], ap, arith, column, cond, eq-eqb, false, filter, filter-map, find, get_or, inl, inr, length, length-map, map, map-map, nat_le, nat_tests, ne_eqb, number, refl, subst, sym, take, ℕ, ⊤, ◌+◌, ◌<◌, ◌==◌, ◌∙◌, ◌∷◌, ◌≡◌, ◌≢◌, ◌⊎◌}
use Rattle.std.specs.Prelude.{All, Err, IfSome, IsErrAnd, MatchResult}
use Rattle.wu_core.specs.declared.fault.Fault.TheVariants.{Memory}
use Rattle.std.specs.Option.{option_map_or}
use Rattle.std.proofs.lemmas.List.{get_or-map, take-map}
use Rattle.std.proofs.lemmas.List.Elements.{All-filter, All-from_recursion, All-take}
use Rattle.wu_core.specs.Storable.{AreStorable, IsStorable}
use Rattle.wu_core.specs.declared.marks.Marks.{Marks}
use Rattle.wu_rules.specs.Due.{changes, chosen}
use Rattle.wu_rules.specs.Marks.{marks, selects}
use Rattle.wu_rules.specs.declared.due.Pass.{Pass}
use Rattle.wu_rules.specs.declared.due.Pass.TheVariants.{Assimilate, Delete, Purge, Transition, Validate}
use Rattle.wu_rules.proofs.Marked.{selects-changes}
use Rattle.wu_schema.specs.Restoring.{Restores}
use Rattle.wu_schema.proofs.RowLemmas.{filter_same}
use Rattle.wu_store.specs.Answers.{numbered}
use Rattle.wu_store.specs.Due.{AreNumbersOf, IsNumberOf, IsRowOfStorable}
use Rattle.wu_store.specs.Loading.{IsLoadable, IsStoreFault, LoadsNumbered}
use Rattle.wu_store.specs.Queues.{first_marked, is_marked, waits_since}
use Rattle.wu_store.specs.StandsFor.{IsQueued, KnowsClasses, marked}
use Rattle.wu_store.proofs.LoadLemmas.{never_unread}
use Rattle.wu_store.proofs.MarkedLemmas.{tagged}
use Rattle.wu_store.proofs.PlacedLemmas.{Rises, world_rises}

-- the row of a number
abbrev pub number_row : Workunit → Row
number_row w = number w.number ∷ []

-- ---- the rows that a pass selects

-- marks that two tests pass alike
pub first_same : (limit : ℕ) (p q : Marks → Bool) (rows : List (ℕ × Marks)) → ((m : Marks) → p m ≡ q m) → first_marked limit p rows ≡ first_marked limit q rows
first_same limit p q rows same = ap (λ (ps : List (ℕ × Marks)). take limit (map (λ (x : ℕ × Marks). number x.0 ∷ []) ps)) (filter_same (λ (x : ℕ × Marks). p x.1) (λ (x : ℕ × Marks). q x.1) rows (λ x has. same x.1))

none_pass : (p : Marks → Bool) (rows : List (ℕ × Marks)) → ((m : Marks) → p m ≡ false) → filter (λ (x : ℕ × Marks). p x.1) rows ≡ []
none_pass p [] none = refl
none_pass p (x ∷ rows) none = ap (λ b. cond b (x ∷ filter (λ (y : ℕ × Marks). p y.1) rows) (filter (λ (y : ℕ × Marks). p y.1) rows)) (none x.1) ∙ none_pass p rows none

take_none : {X : Type 0} (limit : ℕ) → take {A = X} limit [] ≡ []
take_none limit = search (arith, Rattle.std.proofs.Common.rules)

pub first_none : (limit : ℕ) (p q : Marks → Bool) (rows : List (ℕ × Marks)) → ((m : Marks) → p m ≡ false) → first_marked 0 q rows ≡ first_marked limit p rows
first_none limit p q rows none = sym (ap (λ (ps : List (ℕ × Marks)). take limit (map (λ (x : ℕ × Marks). number x.0 ∷ []) ps)) (none_pass p rows none) ∙ take_none limit)

-- a purge selects those that wait since the moment so long before,
pub waits_so_long : (since age now : ℕ) → since + age ≡ now → (m : Marks) → waits_since since m ≡ selects Purge now age m
waits_so_long since age now is m = go m.purge_from
  where
    go : (o : Option ℕ) → option_map_or (λ from. nat_le from since) o false ≡ option_map_or (λ done_at. nat_le (done_at + age) now) o false
    go None = refl
    go (Some from) = grind (arith, nat_tests, is)

-- and none where there is no such moment
pub none_waits : (now age : ℕ) → now < age → (m : Marks) → selects Purge now age m ≡ false
none_waits now age low m = go m.purge_from
  where
    go : (o : Option ℕ) → option_map_or (λ done_at. nat_le (done_at + age) now) o false ≡ false
    go None = refl
    go (Some from) = grind (arith, nat_tests, low)

-- so a pass goes by a moment: a purge by the one so long before,
pub purge_due : (pass : Pass) (now age : ℕ) (r : Option ℕ) → pass ≡ Purge → IfSome r (λ since. since + age ≡ now) → IfSome r (λ by. (m : Marks) → is_marked pass by m ≡ selects pass now age m)
purge_due pass now age None is since = tt
purge_due pass now age (Some by) is since = λ m. subst (λ (p : Pass). is_marked p by m ≡ selects p now age m) (sym is) (waits_so_long by age now since m)

pub purge_never : (pass : Pass) (now age : ℕ) → pass ≡ Purge → now < age → (m : Marks) → selects pass now age m ≡ false
purge_never pass now age is low m = subst (λ (p : Pass). selects p now age m ≡ false) (sym is) (none_waits now age low m)

-- and each other by the present one
pub no_purge : (pass : Pass) → (pass ≡ Transition) ⊎ (pass ≡ Validate) ⊎ (pass ≡ Assimilate) ⊎ (pass ≡ Delete) → pass ≢ Purge
no_purge pass (inl it) is = let no : Transition ≡ Purge = sym it ∙ is in cc
no_purge pass (inr (inl it)) is = let no : Validate ≡ Purge = sym it ∙ is in cc
no_purge pass (inr (inr (inl it))) is = let no : Assimilate ≡ Purge = sym it ∙ is in cc
no_purge pass (inr (inr (inr it))) is = let no : Delete ≡ Purge = sym it ∙ is in cc

pub now_due : (pass : Pass) (now age : ℕ) → pass ≢ Purge → (m : Marks) → is_marked pass now m ≡ selects pass now age m
now_due Purge now age other m = absurd (other refl)
now_due _ now age other m = refl

-- by the marks of a world's workunits they are the numbers of those that the pass takes
pub numbers_chosen : (pass : Pass) (now age limit : ℕ) (world : World) → first_marked limit (selects pass now age) (marked world) ≡ map number_row (chosen pass now age limit world)
numbers_chosen pass now age limit world =
    let ws = world.workunits in
    let selected = filter (λ (w : Workunit). selects pass now age (marks w)) ws in
    ap (λ (ps : List (ℕ × Marks)). take limit (map (λ (x : ℕ × Marks). number x.0 ∷ []) ps)) (filter-map (λ (x : ℕ × Marks). selects pass now age x.1) tagged ws)
    ∙ ap (take limit) (map-map (λ (x : ℕ × Marks). number x.0 ∷ []) tagged selected)
    ∙ ap (λ vs. take limit (map number_row vs)) (filter_same (λ (w : Workunit). selects pass now age (marks w)) (changes pass now age) ws (λ w has. selects-changes pass now age w))
    ∙ take-map number_row limit (filter (changes pass now age) ws)

-- ---- each workunit is found by its number

found_behind : (v : Workunit) (vs us : List Workunit) → AllByRecursion (λ (u : Workunit). v.number < u.number) us → AllByRecursion (λ (w : Workunit). find (λ (x : Workunit). x.number == w.number) vs ≡ Some w) us
    → AllByRecursion (λ (w : Workunit). find (λ (x : Workunit). x.number == w.number) (v ∷ vs) ≡ Some w) us
found_behind v vs [] up all = tt
found_behind v vs (u ∷ us) up all = (rw (ne_eqb v.number u.number (λ e. omega (arith, e, up.0))) all.0, found_behind v vs us up.1 all.1)

found_each : (ws : List Workunit) → Rises ws → AllByRecursion (λ (w : Workunit). find (λ (x : Workunit). x.number == w.number) ws ≡ Some w) ws
found_each [] up = tt
found_each (v ∷ vs) up = (rw (eq-eqb v.number v.number refl) refl, found_behind v vs vs up.0 (found_each vs up.1))

module _ (db : Database) (world : World) (s : Refines db world) (pass : Pass) (now age limit : ℕ) where
  pub chosen_present : All (λ (w : Workunit). numbered w.number world ≡ Some w) (chosen pass now age limit world)
  chosen_present =
      let P : Workunit → Type 0 = λ w. numbered w.number world ≡ Some w in
      All-take P limit (filter (changes pass now age) world.workunits) (All-filter (changes pass now age) P world.workunits (All-from_recursion P world.workunits (found_each world.workunits (world_rises db world s))))

  -- so the rows of a queue with the world's marks are those of present workunits
  pub rows_chosen : (rows : List Row) → rows ≡ first_marked limit (selects pass now age) (marked world) → AreNumbersOf rows (chosen pass now age limit world) world
  rows_chosen rows are = record { present = chosen_present; rows_are = are ∙ numbers_chosen pass now age limit world }

  pub chosen_storable : AreStorable world → All IsStorable (chosen pass now age limit world)
  chosen_storable storable = All-take IsStorable limit (filter (changes pass now age) world.workunits) (All-filter (changes pass now age) IsStorable world.workunits storable)

-- ---- a row that was read

module _ (row : Row) (m : ℕ) (is : row ≡ number m ∷ []) where
  pub told_by_row : (n : ℕ) → Restores number (λ _. ⊤) (column row 0) (Ok n) → n ≡ m
  told_by_row n reads = let e : number n ≡ number m = sym reads.value.0 ∙ ap (λ (r : Row). column r 0) is in cc

  pub read_by_row : (r : Result ℕ Fault) → Restores number (λ _. ⊤) (column row 0) r → IfErr r (λ fault. fault ≢ NotAProject)
  read_by_row r reads = never_unread number (λ _. ⊤) (column row 0) r m reads tt (ap (λ (r : Row). column r 0) is)

module _ (row : Row) (w : Workunit) (world : World) (of : IsNumberOf row w world) where
  pub number_told : (n : ℕ) → Restores number (λ _. ⊤) (column row 0) (Ok n) → n ≡ w.number
  number_told = told_by_row row w.number of.row_is

  -- what is found at the number
  pub told_present : (n : ℕ) → n ≡ w.number → (found : Option Workunit) → found ≡ numbered n world → found ≡ Some w
  told_present n same found is = is ∙ ap (λ m. numbered m world) same ∙ of.present

  -- which can be read
  pub loads_there : (n : ℕ) → n ≡ w.number → KnowsClasses world → IsStorable w → LoadsNumbered n world
  loads_there n same known can = (known, omega (arith, same, can.number), subst IsLoadable (sym (ap (λ m. numbered m world) same ∙ of.present)) can)

-- ---- row by row

module _ (rows : List Row) (ws : List Workunit) (world : World) (are : AreNumbersOf rows ws world) where
  pub as_many : length rows ≡ length ws
  as_many = ap (λ rs. length rs) are.rows_are ∙ length-map ws number_row

  pub number_at : (i : ℕ) (row : Row) (d : Workunit) → i < length rows → get_or rows i row ≡ row → IsNumberOf row (get_or ws i d) world
  number_at i row d low at =
      let within : i < length ws = omega (arith, low, as_many) in
      record { present = are.present i d within; row_is = sym at ∙ ap (λ rs. get_or rs i row) are.rows_are ∙ get_or-map number_row ws i d row within }

  pub storable_at : KnowsClasses world → All IsStorable ws → (i : ℕ) (row : Row) → i < length rows → get_or rows i row ≡ row → IsRowOfStorable row world
  storable_at known storable i row low at =
      let it = some_at ws i (omega (arith, low, as_many)) in
      (known, get_or ws i it, number_at i row it low at, storable i it (omega (arith, low, as_many)))
    where
      some_at : (xs : List Workunit) (i : ℕ) → i < length xs → Workunit
      some_at [] i low = absurd (omega (arith, low))
      some_at (x ∷ xs) i low = x

-- rows that are numbers
module _ (rows : List Row) (numbers : List ℕ) (are : rows ≡ map (λ n. number n ∷ []) numbers) where
  pub as_many_numbers : length rows ≡ length numbers
  as_many_numbers = ap (λ rs. length rs) are ∙ length-map numbers (λ n. number n ∷ [])

  pub number_in : (i : ℕ) (row : Row) (d : ℕ) → i < length rows → get_or rows i row ≡ row → row ≡ number (get_or numbers i d) ∷ []
  number_in i row d low at =
      sym at ∙ ap (λ rs. get_or rs i row) are ∙ get_or-map (λ n. number n ∷ []) numbers i d row (omega (arith, low, as_many_numbers))

-- the numbers of the workunits that a pass takes are those of the rows
pub chosen_numbers : (pass : Pass) (now age limit : ℕ) (world : World) (rows : List Row) → rows ≡ first_marked limit (selects pass now age) (marked world)
    → rows ≡ map (λ n. number n ∷ []) (map (λ (w : Workunit). w.number) (chosen pass now age limit world))
chosen_numbers pass now age limit world rows are =
    are ∙ numbers_chosen pass now age limit world ∙ sym (map-map (λ n. number n ∷ []) (λ (w : Workunit). w.number) (chosen pass now age limit world))

-- what is found unless memory is wanted, is found unless the store has a fault
pub found_or_store : {T : Type 0} (P : T → Type 0) (r : Result T Fault) → MatchResult r P (λ fault. fault ≡ Memory) → MatchResult r P IsStoreFault
found_or_store P (Ok x) found = found
found_or_store P (Err fault) memory = inl memory

pub never_project : {T : Type 0} (P : T → Type 0) (r : Result T Fault) → MatchResult r P (λ fault. fault ≡ Memory) → IfErr r (λ fault. fault ≢ NotAProject)
never_project P (Ok x) found = tt
never_project P (Err fault) memory = λ refused. cc

pub memory_handed : {T : Type 0} (P : T → Type 0) (r : Result T Fault) (fault : Fault) → IsErrAnd r (λ other. other ≡ fault) → fault ≡ Memory → MatchResult r P (λ other. other ≡ Memory)
memory_handed P (Ok x) fault same is = absurd same
memory_handed P (Err other) fault same is = same ∙ is

-- where there are classes, there is a queue
pub queued : (world : World) → KnowsClasses world → IsQueued world
queued world known = omega (arith, known)
