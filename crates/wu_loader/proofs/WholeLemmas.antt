-- All rows of a table as values.
use Rattle.wu_schema.proofs.Words.{IfErr, IsErrAnd, Result, Contains-permutation, Err, Has, IsPermutation, IsPermutation-map, IsPermutation-sym, IsSorted, None, Option, all_has, contains_had, has_contained, has_mapped, List, Ok, Row, Some, [], ap, arith, enumerate_from, inl, inr, length, map, refl, slice_get, subst, suc, sym, take, ℕ, zero, ◌++◌, ◌+◌, ◌-◌, ◌<◌, ◌∙◌, ◌∷◌, ◌≡◌, ◌≢◌, ◌≤◌}
use Rattle.std.specs.Prelude.{All}
use Rattle.std.specs.Option.{option_map}
use Rattle.std.specs.declared.cmp.Ordering.{Ordering}
use Rattle.std.proofs.Common.{append-nil}
use Rattle.std.proofs.lemmas.List.{take-map, take_at}
use Rattle.std.proofs.lemmas.Option.{slice_get-map}
use Rattle.std.proofs.lemmas.List.Elements.{recursion_from_All}
use Rattle.std.proofs.lemmas.List.Sorted.{All-permutation}
use Rattle.wu_loader.specs.Rows.{project_row_of}
use Rattle.wu_loader.specs.Wrongs.{IsNoProject, LacksProjectRow}
use Rattle.wu_loader.specs.declared.rows.ProjectRow.{ProjectRow}
use Rattle.wu_loader.specs.Whole.{rows_of, AreSorted, DiffersAt, IsIn, IsNoRow, StartsWithNoRow, UnlessMemory}
use Rattle.wu_loader.specs.declared.finding.NoWorld.{NoWorld}
use Rattle.wu_loader.specs.declared.finding.NoWorld.TheVariants.{Memory, Wrong as told}
use Rattle.wu_schema.specs.declared.table.ProjectTable.{ProjectTable}
use Rattle.wu_loader.specs.declared.finding.WrongRow.{WrongRow}

pub got_behind : {X : Type 0} (xs ys : List X) → slice_get (xs ++ ys) (length xs) ≡ slice_get ys 0
got_behind [] ys = refl
got_behind (x ∷ xs) ys = got_behind xs ys

module _ {T : Type 0} (cells : ℕ → T → Row) where
  abbrev at : ℕ × T → Row
  at p = cells p.0 p.1

  later : (n : ℕ) (xs : List T) (x : T) → map at (enumerate_from n (xs ++ x ∷ [])) ≡ map at (enumerate_from n xs) ++ cells (n + length xs) x ∷ []
  later n [] x = let e : n ≡ n + 0 = omega arith in ap (λ k. cells k x ∷ []) e
  later n (y ∷ xs) x = let e : n + 1 + length xs ≡ n + suc (length xs) = omega arith in ap (λ rows. cells n y ∷ rows) (later (n + 1) xs x ∙ ap (λ k. map at (enumerate_from (n + 1) xs) ++ cells k x ∷ []) e)

  -- one row more is that of a value
  pub rows_more : (xs : List T) (x : T) (rest : List Row) (row : Row) (place : ℕ) → length rest ≡ 0 → place ≡ length xs + 1 → row ≡ cells place x → rows_of cells (xs ++ x ∷ []) ++ rest ≡ (rows_of cells xs ++ rest) ++ row ∷ []
  rows_more xs x (r ∷ rest) row place none here is = absurd cc
  rows_more xs x [] row place none here is =
      let e : 1 + length xs ≡ place = omega (arith, here) in
      append-nil _ ∙ later 1 xs x ∙ (λ k. rows_of cells xs ++ (ap (λ n. cells n x) e ∙ sym is) k ∷ []) ∙ ap (λ rs. rs ++ row ∷ []) (sym (append-nil (rows_of cells xs)))

  long : (n : ℕ) (xs : List T) → length (map at (enumerate_from n xs)) ≡ length xs
  long n [] = refl
  long n (x ∷ xs) = ap suc (long (n + 1) xs)

  module _ (IsValue : T → Type 0) where
    -- what is left, behind the rows of values, begins with the first row of no value
    pub no_row : (xs : List T) (rest rows : List Row) → rows_of cells xs ++ rest ≡ rows → All IsValue xs → StartsWithNoRow cells IsValue (length xs + 1) rest → 0 < length rest → IsNoRow cells IsValue rows (length xs + 1)
    no_row xs [] rows are each starts some = absurd (omega (arith, some))
    no_row xs (r ∷ rest) rows are each starts some =
        let e : length (rows_of cells xs) ≡ length xs + 1 - 1 = omega (arith, long 1 xs) in
        record {
          row = r;
          counted = omega arith;
          there = ap (λ rs. slice_get rs (length xs + 1 - 1)) (sym are) ∙ ap (slice_get (rows_of cells xs ++ r ∷ rest)) (sym e) ∙ got_behind (rows_of cells xs) (r ∷ rest);
          none = starts;
          before = record { values = xs; stored = each; same = ap (take (length xs + 1 - 1)) (sym are) ∙ take_at (rows_of cells xs) (r ∷ rest) (length xs + 1 - 1) e };
        }

pub none_left : (rows rest : List Row) → length rest ≡ 0 → rows ++ rest ≡ rows
none_left rows [] none = append-nil rows
none_left rows (r ∷ rest) none = absurd cc

-- ---- what keeps rows from being those of values

-- rows whose places are not told
pub rows_plain : {T : Type 0} (f : T → Row) (xs : List T) → rows_of (λ _. f) xs ≡ map f xs
rows_plain {T} f xs = go 1 xs
  where
    go : (n : ℕ) (xs : List T) → map (λ (p : ℕ × T). f p.1) (enumerate_from n xs) ≡ map f xs
    go n [] = refl
    go n (x ∷ xs) = ap (λ rows. f x ∷ rows) (go (n + 1) xs)

-- each row is that of a value, at its place
row_at : {T : Type 0} (cells : ℕ → T → Row) (n : ℕ) (xs : List T) (i : ℕ) (row : Row) → slice_get (map (λ (p : ℕ × T). cells p.0 p.1) (enumerate_from n xs)) i ≡ Some row → (x : T) × Has xs x × (row ≡ cells (n + i) x)
row_at cells n [] i row there = absurd cc
row_at cells n (x ∷ xs) zero row there = let e : n ≡ n + 0 = omega arith in (x, inl refl, same_row there ∙ ap (λ k. cells k x) e)
  where
    same_row : {a b : Row} → ◌≡◌ {A = Option Row} (Some a) (Some b) → b ≡ a
    same_row is = cc
row_at cells n (x ∷ xs) (suc i) row there = let it = row_at cells (n + 1) xs i row there in let e : n + 1 + i ≡ n + suc i = omega arith in (it.0, inr it.1, it.2 ∙ ap (λ k. cells k it.0) e)

-- a row that is that of no value stands in no such rows
pub no_rows : {T : Type 0} (cells : ℕ → T → Row) (IsValue : T → Type 0) (rows : List Row) (place : ℕ) → IsNoRow cells IsValue rows place → (xs : List T) → All IsValue xs → rows ≢ rows_of cells xs
no_rows cells IsValue rows place none xs each are =
    let it = row_at cells 1 xs (place - 1) none.row (sym (ap (λ rs. slice_get rs (place - 1)) are) ∙ none.there) in
    let low = none.counted in
    let e : 1 + (place - 1) ≡ place = omega (arith, low) in
    none.none it.0 (all_has IsValue xs it.0 (recursion_from_All IsValue xs each) it.1) (it.2 ∙ ap (λ k. cells k it.0) e)

-- nor in such rows in any order
pub none_permuted : {T : Type 0} (f : T → Row) (IsValue : T → Type 0) (rows : List Row) (place : ℕ) → IsNoRow (λ _. f) IsValue rows place → (xs : List T) → All IsValue xs → ¬ IsPermutation (map f xs) rows
none_permuted f IsValue rows place none xs each are =
    let here = has_contained (map f xs) none.row (Contains-permutation rows (map f xs) none.row (IsPermutation-sym _ _ are) (contains_had rows none.row (got_has rows (place - 1) none.row none.there))) in
    let it = has_mapped f xs none.row here in
    none.none it.0 (all_has IsValue xs it.0 (recursion_from_All IsValue xs each) it.1) it.2
  where
    got_has : (rows : List Row) (i : ℕ) (row : Row) → slice_get rows i ≡ Some row → Has rows row
    got_has [] i row there = absurd cc
    got_has (r ∷ rows) zero row there = inl (let same = there in cc)
    got_has (r ∷ rows) (suc i) row there = inr (got_has rows i row there)

-- sorted values have these rows
pub sorted_rows : {T : Type 0} (cells : T → Row) (IsValue : T → Type 0) (order : T → T → Ordering) (rows : List Row) (values sorted : List T) → rows ≡ rows_of (λ _. cells) values → All IsValue values → IsPermutation values sorted → IsSorted order sorted → AreSorted cells IsValue order rows sorted
sorted_rows cells IsValue order rows values sorted read each moved up = record {
  same = subst (IsPermutation (map cells sorted)) (sym (read ∙ rows_plain cells values)) (IsPermutation-map cells sorted values (IsPermutation-sym values sorted moved));
  stored = All-permutation IsValue values sorted moved each;
  sorted = up;
}

-- ---- places

-- lists that differ at a place are not the same
pub lists_differ : {X : Type 0} (wanted found : List X) (place : ℕ) → DiffersAt wanted found place → wanted ≢ found
lists_differ wanted found place it same = it.other (ap (λ xs. slice_get xs (place - 1)) (sym same))

-- what differs does so after a map that keeps what differs apart
pub differs_mapped : {X Y : Type 0} (f : X → Y) → ((a b : X) → f a ≡ f b → a ≡ b) → (wanted found : List X) (place : ℕ) → DiffersAt wanted found place → DiffersAt (map f wanted) (map f found) place
differs_mapped {X} f inj wanted found place it = record {
  counted = it.counted;
  before = take-map f (place - 1) found ∙ ap (map f) it.before ∙ sym (take-map f (place - 1) wanted);
  other = λ same. it.other (apart (slice_get found (place - 1)) (slice_get wanted (place - 1)) (sym (slice_get-map f found (place - 1)) ∙ same ∙ slice_get-map f wanted (place - 1)));
}
  where
    apart : (a b : Option X) → option_map f a ≡ option_map f b → a ≡ b
    apart None None same = refl
    apart None (Some b) same = absurd cc
    apart (Some a) None same = absurd cc
    apart (Some a) (Some b) same = let one : f a ≡ f b = cc in ap Some (inj a b one)

-- ---- through a refusal

-- what holds at a place of the table that is told holds of what is told
pub at_table : (At : ProjectTable → ℕ → Type 0) (table : ProjectTable) (wrong : WrongRow) → IsIn table (At table) wrong → At wrong.table wrong.place
at_table At table wrong it = subst (λ (t : ProjectTable). At t wrong.place) (sym it.0) it.1

pub unless_then : (reason : NoWorld) (P Q : WrongRow → Type 0) → ((wrong : WrongRow) → P wrong → Q wrong) → UnlessMemory reason P → UnlessMemory reason Q
unless_then Memory P Q f h = tt
unless_then (told wrong) P Q f h = f wrong h

pub refused : {T : Type 0} (r : Result T NoWorld) (P Q : WrongRow → Type 0) → ((wrong : WrongRow) → P wrong → Q wrong) → IfErr r (λ reason. UnlessMemory reason P) → IfErr r (λ reason. UnlessMemory reason Q)
refused (Ok x) P Q f h = tt
refused (Err reason) P Q f h = unless_then reason P Q f h

-- a refusal that is handed on
pub handed : {T : Type 0} (r : Result T NoWorld) (reason : NoWorld) (P Q : WrongRow → Type 0) → ((wrong : WrongRow) → P wrong → Q wrong) → IsErrAnd r (λ other. other ≡ reason) → UnlessMemory reason P → IfErr r (λ other. UnlessMemory other Q)
handed (Ok x) reason P Q f same h = tt
handed (Err other) reason P Q f same h = subst (λ k. UnlessMemory k Q) (sym same) (unless_then reason P Q f h)

-- want of memory is no refusal
pub handed_memory : {T : Type 0} (r : Result T NoWorld) (Q : WrongRow → Type 0) → IsErrAnd r (λ other. other ≡ Memory) → IfErr r (λ other. UnlessMemory other Q)
handed_memory r Q same = handed r Memory Q Q (λ wrong is. is) same tt

-- rows are those of one list of values alone, where each is that of one value
pub one_rows : {T : Type 0} (cells : ℕ → T → Row) → ((k : ℕ) (a b : T) → cells k a ≡ cells k b → a ≡ b) → (xs ys : List T) → rows_of cells xs ≡ rows_of cells ys → xs ≡ ys
one_rows {T} cells inj xs ys same = go 1 xs ys same
  where
    go : (n : ℕ) (xs ys : List T) → map (λ (p : ℕ × T). cells p.0 p.1) (enumerate_from n xs) ≡ map (λ (p : ℕ × T). cells p.0 p.1) (enumerate_from n ys) → xs ≡ ys
    go n [] [] same = refl
    go n [] (y ∷ ys) same = absurd cc
    go n (x ∷ xs) [] same = absurd cc
    go n (x ∷ xs) (y ∷ ys) same =
        let first : cells n x ≡ cells n y = cc in
        let rest : map (λ (p : ℕ × T). cells p.0 p.1) (enumerate_from (n + 1) xs) ≡ map (λ (p : ℕ × T). cells p.0 p.1) (enumerate_from (n + 1) ys) = cc in
        (λ i. inj n x y first i ∷ go (n + 1) xs ys rest i)

-- ---- the project

any_project : ProjectRow
any_project = record { version = 1; next_number = 1 }

-- a first row that is not that of a project is in the way
pub lacks_project : (rows : List Row) → LacksProjectRow rows → IsNoProject rows 1
unfolding any_project
lacks_project [] lacks = record { counted = omega arith; wanted = any_project; stored = record { version = omega arith; next_number = (omega arith, omega arith) }; before = refl; other = lacks }
lacks_project (row ∷ rows) lacks = record { counted = omega arith; wanted = any_project; stored = record { version = omega arith; next_number = (omega arith, omega arith) }; before = refl; other = lacks }

-- where there are no more, it is the one row
pub one_project : (rows : List Row) (project : ProjectRow) → slice_get rows 0 ≡ Some (project_row_of project) → length rows ≤ 1 → rows ≡ project_row_of project ∷ []
one_project [] project first few = absurd cc
one_project (r ∷ []) project first few = let same : r ≡ project_row_of project = cc in ap (λ (row : Row). row ∷ []) same
one_project (r ∷ q ∷ rows) project first few = absurd (omega (arith, few))
