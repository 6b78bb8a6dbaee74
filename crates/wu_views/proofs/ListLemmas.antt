-- What a question with no parameters lists, made of what its text compiles to and of the rows that it answers.
use Rattle.wu_schema.proofs.Words.{ap, length, Ghosts, Has, Held, IsUnchanged, List, Name, Parsed, Query, Refines, Row, Shown, State, World, [], contains_had, flat_map, inl, inr, map, refl, state, subst, sym, ℕ, ◌++◌, ◌∷◌, ◌≡◌}
use Rattle.std.specs.List.{AllZip}
use Rattle.sqlite.specs.Command.TheVariants.{Select}
use Rattle.sqlite.specs.Given.{HasGiven}
use Rattle.wu_schema.proofs.Parts.{parts_there}
use Rattle.wu_schema.specs.declared.table.ProjectTable.{ProjectTable}
use Rattle.wu_schema.specs.ProjectTables.{IsTableOf, table_name, table_at}
use Rattle.wu_schema.proofs.QueryLemmas.{alone}
use Rattle.wu_schema.proofs.SelectLemmas.{Asked, CompilesTo, Fits, IsTyped, compiles, names_of, parsed_of, query_of}
use Rattle.wu_schema.specs.Tables.{IsClassedVersion}
use Rattle.wu_store.specs.StandsFor.{KnowsClasses}
use Rattle.wu_store.specs.Reads.{WithClasses}
use Rattle.wu_store.proofs.AskLemmas.{IsQuestion}
use Rattle.wu_store.proofs.ClassAnswers.{class_question}
use Rattle.wu_views.specs.Listings.{IsRowOfMember, Lists}
use Rattle.wu_store.proofs.GivenLemmas.{given_front}

-- ---- lists side by side

pub zip_append : {X Y : Type 0} (R : X → Y → Type 0) (xs us : List X) (ys vs : List Y) → AllZip R xs ys → AllZip R us vs → AllZip R (xs ++ us) (ys ++ vs)
zip_append R [] us [] vs one two = two
zip_append R [] us (y ∷ ys) vs one two = absurd one
zip_append R (x ∷ xs) us [] vs one two = absurd one
zip_append R (x ∷ xs) us (y ∷ ys) vs one two = (one.0, zip_append R xs us ys vs one.1 two)

-- what is made of each of some things
module _ {X A B : Type 0} (R : A → B → Type 0) where
  pub zip_mapped : (f : X → A) (g : X → B) (xs : List X) → ((x : X) → Has xs x → R (f x) (g x)) → AllZip R (map f xs) (map g xs)
  zip_mapped f g [] each = tt
  zip_mapped f g (x ∷ xs) each = (each x (inl refl), zip_mapped f g xs (λ y later. each y (inr later)))

  pub zip_each : (f : X → List A) (g : X → List B) (xs : List X) → ((x : X) → Has xs x → AllZip R (f x) (g x)) → AllZip R (flat_map f xs) (flat_map g xs)
  zip_each f g [] each = tt
  zip_each f g (x ∷ xs) each = zip_append R (f x) (flat_map f xs) (g x) (flat_map g xs) (each x (inl refl)) (zip_each f g xs (λ y later. each y (inr later)))

-- the rows and the lines of the same things
pub zip_rows : {X T : Type 0} (row_of : X → Row) (line_of : X → T) (all : List X) → AllZip (IsRowOfMember row_of line_of all) (map row_of all) (map line_of all)
zip_rows row_of line_of all = zip_mapped (IsRowOfMember row_of line_of all) row_of line_of all (λ x has. record { shown = x; there = contains_had all x has; row_is = refl; line_is = refl })

-- ---- what is known of a question

-- over tables that stand for a world with classes it compiles to a query with no recursion, and answers with these rows
pub record AnswersAll (text : List ℕ) (rows_of : World → List Row) : Type 1 where
  pub question : IsQuestion text [] WithClasses
  pub compiles : (old : State) (world : World) → KnowsClasses world → Refines old.now world → (p : Parsed) × (q : Query) × (names : List Name) × CompilesTo old.now.schema text p (Select (alone q) names)
  pub found : (old new : State) (rows : List Row) → Shown text [] old new rows → (world : World) → KnowsClasses world → Refines old.now world → rows ≡ rows_of world

-- one over a table of the project
module _ (p : ProjectTable) (in_p : (version : ℕ) → IsClassedVersion version → IsTableOf p version) (q : Asked) (fits : (tree : ℕ) → Fits (table_name p) (table_at p tree) q) (none : q.parameters ≡ []) (typed : (tree : ℕ) → IsTyped (table_name p) (table_at p tree) q []) where
  pub answers_all : (rows_of : World → List Row) → ((old new : State) (rows : List Row) → Shown q.text [] old new rows → (world : World) → KnowsClasses world → Refines old.now world → rows ≡ rows_of world) → AnswersAll q.text rows_of
  answers_all rows_of found = record {
    question = class_question p in_p q fits [] (ap (λ (ps : List Name). length ps) (sym none)) typed;
    compiles = λ old world known s.
        let has = parts_there old.now world s p (in_p world.version known) in
        let table = table_at p (s.trees p) in
        (parsed_of (table_name p) table q, query_of (table_name p) table q, names_of (table_name p) table q, compiles old.now.schema (table_name p) has.0 table has.1 q (fits (s.trees p)));
    found = found;
  }

-- ---- what it lists

module _ {S T : Type 0} (g : Ghosts S) (text : List ℕ) (rows_of : World → List Row) (it : AnswersAll text rows_of) (IsRow : World → Row → T → Type 0) (lines_of : World → List T) (zips : (world : World) → AllZip (IsRow world) (rows_of world) (lines_of world)) where
  all_shown : (old new : Held S) (rows : List Row) → Shown text [] (state g old) (state g new) rows → (world : World) → KnowsClasses world → Refines (state g old).now world → AllZip (IsRow world) rows (lines_of world)
  all_shown old new rows h world known s = subst (λ rs. AllZip (IsRow world) rs (lines_of world)) (sym (it.found (state g old) (state g new) rows h world known s)) (zips world)

  first_shown : (old now : Held S) (given : List Row) → IsUnchanged (state g old) (state g now) → HasGiven g text [] now given → (world : World) → KnowsClasses world → Refines (state g old).now world
      → (more : List Row) × AllZip (IsRow world) (given ++ more) (lines_of world)
  first_shown old now given same has world known s =
      let compiled = it.compiles (state g old) world known s in
      let whole = given_front g text it.question.select [] old now given same has compiled.0 compiled.1 compiled.2 compiled.3 in
      (whole.0, all_shown old now (given ++ whole.0) whole.1 world known s)

  pub lists : Lists g text IsRow lines_of
  lists = record {
    select = it.question.select;
    answer = all_shown;
    front = first_shown;
    told = λ old new error fails world known s limit. it.question.told (state g old) (state g new) error fails world (known, s) limit;
  }
