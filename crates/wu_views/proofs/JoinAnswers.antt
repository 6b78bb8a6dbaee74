-- What the two SELECTs over two tables answer of the world that the tables stand for.
use Rattle.wu_schema.proofs.Words.{AllByRecursion, Binary, Bool, Database, Has, Instance, IsAnswerAs, IsAscending, IsPermutation, IsPermutation-refl, IsPermutation-trans, Less, List, Name, Null, Output, Parsed, Query, Refines, Row, Shown, State, Term, Workunit, World, [], all_from, all_has, ap, ap₂, arith, column, cond, drop, enumerate_from, equal, false, filter, flat_map, has_mapped, holds, if◌then◌else◌, inl, inr, instance_cells, instances_of, list_all, map, map-map, nat_le, number, output, overlay, refl, stored_class, stored_workunit, subst, sym, tied_itself, true, unary, value_cmp_total, ℕ, ◌&&◌, ◌++◌, ◌+◌, ◌<◌, ◌==◌, ◌^◌, ◌∙◌, ◌∷◌, ◌≡◌}
use Rattle.sqlite.specs.Query.{IsSureAnswer, output_cmp}
use Rattle.sqlite_sql.proofs.QueryLemmas.{output_cmp_total}
use Rattle.sqlite_sql.specs.declared.ops.UnaryOp.TheVariants.{Length}
use Rattle.sqlite_trees.proofs.ListLemmas.{IsPermutation-flat_map, all-append, ascending-append, ascending-map, ascending_weaker, flat_map-map, flat_map_same_on, map-flat_map}
use Rattle.sqlite_value.specs.declared.keys.Key.{Key}
use Rattle.sqlite.specs.Command.TheVariants.{Select}
use Rattle.wu_schema.proofs.AnswerLemmas.{shown_answers}
use Rattle.wu_schema.proofs.SelectLemmas.{CompilesTo}
use Rattle.wu_schema.proofs.PutLemmas.{number_less}
use Rattle.wu_schema.proofs.QueryLemmas.{alone}
use Rattle.wu_schema.proofs.RowLemmas.{one_test}
use Rattle.wu_store.proofs.EqualLemmas.{number_equal}
use Rattle.wu_store.proofs.OneOrder.{one_order}
use Rattle.wu_store.proofs.PlacedLemmas.{Rises, world_rises}
use Rattle.wu_store.proofs.ReadAnswers.{kept_mapped}
use Rattle.wu_store.proofs.SameWorld.{only_one}
use Rattle.wu_store.specs.StandsFor.{KnowsClasses}
use Rattle.wu_views.proofs.JoinTexts.{joined_query, results_order, results_query, results_shows, results_tests, results_text, workunits_order, workunits_query, workunits_shows, workunits_tests, workunits_text}
use Rattle.wu_views.specs.Listings.{all_results_shown, result_shown, results_shown, workunit_shown}
use Rattle.std.proofs.lemmas.List.Concat.{flat_map-append}
use Rattle.wu_schema.specs.declared.table.ProjectTable.TheVariants as the_table

-- ---- lists

-- what two functions give alike for each element
same_each : {X Y : Type 0} (f g : X → List Y) (xs : List X) → ((x : X) → Has xs x → f x ≡ g x) → flat_map f xs ≡ flat_map g xs
same_each f g [] same = refl
same_each f g (x ∷ xs) same = ap₂ ◌++◌ (same x (inl refl)) (same_each f g xs (λ y has. same y (inr has)))

-- one thing for each element
one_each : {X Y : Type 0} (f : X → List Y) (g : X → Y) (xs : List X) → ((x : X) → Has xs x → f x ≡ g x ∷ []) → flat_map f xs ≡ map g xs
one_each f g [] same = refl
one_each f g (x ∷ xs) same = ap₂ ◌++◌ (same x (inl refl)) (one_each f g xs (λ y has. same y (inr has)))

-- what is given for what is given
flat_map-flat_map : {X Y Z : Type 0} (g : Y → List Z) (f : X → List Y) (xs : List X) → flat_map g (flat_map f xs) ≡ flat_map (λ x. flat_map g (f x)) xs
flat_map-flat_map g f [] = refl
flat_map-flat_map g f (x ∷ xs) = flat_map-append g (f x) (flat_map f xs) ∙ ap (λ more. flat_map g (f x) ++ more) (flat_map-flat_map g f xs)

-- lists that rise, each above those before it, rise as one
module _ {X Y : Type 0} (R : Y → Y → Type 0) (S : X → X → Type 0) (f : X → List Y) (inside : (x : X) → IsAscending R (f x)) (across : (x z : X) → S x z → (a b : Y) → Has (f x) a → Has (f z) b → R a b) where
  -- what is below all that later lists have
  all_later : (a : Y) (zs : List X) → ((z : X) → Has zs z → (b : Y) → Has (f z) b → R a b) → AllByRecursion (R a) (flat_map f zs)
  all_later a [] above = tt
  all_later a (z ∷ zs) above = all-append (R a) (f z) (flat_map f zs) (all_from (R a) (f z) (above z (inl refl))) (all_later a zs (λ u has. above u (inr has)))

  ascending_each : (xs : List X) → IsAscending S xs → IsAscending R (flat_map f xs)
  ascending_each [] up = tt
  ascending_each (x ∷ xs) up =
      ascending-append R (f x) (flat_map f xs) (inside x) (ascending_each xs up.1)
      (all_from (λ a. AllByRecursion (R a) (flat_map f xs)) (f x) (λ a has_a. all_later a xs (λ z has_z b has_b. across x z (all_has (S x) xs z up.0 has_z) a b has_a has_b)))

-- the places of a list from a number on are above what is below that
numbers_above : {X : Type 0} (m k : ℕ) (xs : List X) → m < k → AllByRecursion (λ (p : ℕ × X). m < p.0) (enumerate_from k xs)
numbers_above m k [] low = tt
numbers_above m k (x ∷ xs) low = (low, numbers_above m (k + 1) xs (omega (arith, low)))

-- and so each is below all later ones
numbers_rise : {X : Type 0} (k : ℕ) (xs : List X) → IsAscending (λ (p q : ℕ × X). p.0 < q.0) (enumerate_from k xs)
numbers_rise k [] = tt
numbers_rise k (x ∷ xs) = (numbers_above k (k + 1) xs (omega arith), numbers_rise (k + 1) xs)

-- ---- two tables

module _ (one other : ℕ) (test shows : List Term) (order : List (Term × Key)) (params : Row) where
  -- their query
  abbrev joined : Query
  joined = joined_query one other test shows order

  -- whether a row of the one passes with a row of the other
  abbrev pub meets : Row → Row → Bool
  meets a b = list_all (holds (params ∷ a ∷ b ∷ [])) test

  -- what two rows are sorted by, and what is shown of them
  abbrev pub joined_pair : Row → Row → Output
  joined_pair a b = output joined (params ∷ a ∷ b ∷ [])

  -- of a row of the one table, with each row of the other that it meets
  abbrev pub met : List Row → Row → List Output
  met others a = map (joined_pair a) (filter (meets a) others)

  -- of one row it finds those pairs
  found_met : (a : Row) (others : List Row) → map (output joined) (flat_map (λ b. if meets a b then (params ∷ a ∷ b ∷ []) ∷ [] else []) others) ≡ met others a
  found_met a [] = refl
  found_met a (b ∷ others) = elim (meets a b) as
      (λ t. map (output joined) ((if t then (params ∷ a ∷ b ∷ []) ∷ [] else []) ++ flat_map (λ c. if meets a c then (params ∷ a ∷ c ∷ []) ∷ [] else []) others) ≡ map (joined_pair a) (cond t (b ∷ filter (meets a) others) (filter (meets a) others))) [
        | true ↦ ap (λ all. joined_pair a b ∷ all) (found_met a others)
        | false ↦ found_met a others
      ]

  -- and so of all rows
  found_all : (others rows : List Row) → map (output joined) (flat_map (λ a. flat_map (λ b. if meets a b then (params ∷ a ∷ b ∷ []) ∷ [] else []) others) rows) ≡ flat_map (met others) rows
  found_all others rows = map-flat_map (output joined) (λ a. flat_map (λ b. if meets a b then (params ∷ a ∷ b ∷ []) ∷ [] else []) others) rows ∙ flat_map_same_on _ (met others) (λ a. found_met a others) rows

  -- what is shown of the pairs that pass, in the order in which these rise
  pub sure_joined : (db : Database) (rows : List Row) (os : List Output) → nat_le (2 ^ 31) one ≡ false → nat_le (2 ^ 31) other ≡ false → IsAscending (λ a b. output_cmp joined a b ≡ Less) os
      → IsPermutation os (flat_map (met (db.trees other)) (db.trees one)) → IsSureAnswer joined (overlay db.trees []) params rows → rows ≡ map (λ (o : Output). o.1) os
  sure_joined db rows os low_one low_other up same h =
      let a : IsAnswerAs Null joined (overlay db.trees []) params rows = h Null in
      let first : overlay db.trees [] one ≡ db.trees one = rw low_one in
      let second : overlay db.trees [] other ≡ db.trees other = rw low_other in
      let kept : a.kept ≡ flat_map (met (db.trees other)) (db.trees one) = a.distinct ∙ ap (map (output joined)) a.grouped ∙ found_all (overlay db.trees [] other) (overlay db.trees [] one) ∙ (λ i. flat_map (met (second i)) (first i)) in
      let sorts : a.ordered ≡ os = one_order (output_cmp joined) (output_cmp_total joined) os a.ordered up a.sorted (IsPermutation-trans _ _ _ same (subst (λ k. IsPermutation k a.ordered) kept a.same)) in
      a.shown ∙ ap (map (λ (o : Output). o.1)) sorts

-- ---- the workunits, with their classes

-- in order of number, and shown with its class
abbrev workunit_pair : Workunit → Output
workunit_pair w = (number w.number ∷ [], workunit_shown w)

module _ (work class : ℕ) where
  -- a row of a workunit with those of the classes that it meets
  abbrev with_classes : List Row → Row → List Output
  with_classes = met work class workunits_tests workunits_shows workunits_order []

  -- a workunit meets its class alone
  workunit_met : (ws : List Workunit) → Rises ws → (w : Workunit) → Has ws w → with_classes (map stored_class ws) (stored_workunit w) ≡ workunit_pair w ∷ []
  unfolding unary
  workunit_met ws up w has =
      ap (map (joined_pair work class workunits_tests workunits_shows workunits_order [] (stored_workunit w)))
      (kept_mapped _ (λ (v : Workunit). v.number == w.number) stored_class ws (λ v. one_test _ ∙ number_equal v.number w.number) ∙ ap (map stored_class) (only_one w ws up has))

  -- one comes before another
  abbrev WorkunitBefore : Output → Output → Type 0
  WorkunitBefore a b = output_cmp (workunits_query work class) a b ≡ Less

  -- they rise as their numbers do
  workunits_rise : (ws : List Workunit) → Rises ws → IsAscending WorkunitBefore (map workunit_pair ws)
  workunits_rise ws up =
      ascending-map WorkunitBefore workunit_pair ws (ascending_weaker (λ (a b : Workunit). a.number < b.number) (λ a b. WorkunitBefore (workunit_pair a) (workunit_pair b)) (λ a b low. rw (number_less a.number b.number low) refl) ws up)

module _ (old : State) (world : World) (known : KnowsClasses world) (s : Refines old.now world) (rows : List Row) where
  -- the answer lists each workunit once, in order of number
  pub workunits_listed : IsSureAnswer (workunits_query (s.trees the_table.Workunit) (s.trees the_table.WorkunitClass)) (overlay old.now.trees []) [] rows → rows ≡ map workunit_shown world.workunits
  workunits_listed h =
      let work = (s.trees the_table.Workunit) in
      let class = (s.trees the_table.WorkunitClass) in
      let ws = world.workunits in
      let up = world_rises old.now world s in
      let pairs : flat_map (with_classes work class (old.now.trees class)) (old.now.trees work) ≡ map workunit_pair ws =
      (λ i. flat_map (with_classes work class ((s.rows.classes known).workunits.same i)) (s.rows.workunits.same i)) ∙ flat_map-map (with_classes work class (map stored_class ws)) stored_workunit ws
      ∙ one_each (λ w. with_classes work class (map stored_class ws) (stored_workunit w)) workunit_pair ws (workunit_met work class ws up) in
      sure_joined work class workunits_tests workunits_shows workunits_order [] old.now rows (map workunit_pair ws) (s.tables.each the_table.Workunit tt).1.low (s.tables.each the_table.WorkunitClass known).1.low (workunits_rise work class ws up)
      (subst (IsPermutation (map workunit_pair ws)) (sym pairs) (IsPermutation-refl (map workunit_pair ws))) h
      ∙ map-map (λ (o : Output). o.1) workunit_pair ws

  -- once the text compiles to it
  module _ (p : Parsed) (names : List Name) (it : CompilesTo old.now.schema workunits_text p (Select (alone (workunits_query (s.trees the_table.Workunit) (s.trees the_table.WorkunitClass))) names)) (new : State) where
    pub workunits_found : Shown workunits_text [] old new rows → rows ≡ map workunit_shown world.workunits
    workunits_found h = workunits_listed (shown_answers workunits_text [] old new p (workunits_query (s.trees the_table.Workunit) (s.trees the_table.WorkunitClass)) names it rows h).answer

-- ---- the instances, with the names of their workunits

-- of the cells of an instance and the row of a workunit
abbrev cells_meet : Row → Row → Bool
cells_meet c b = equal Binary (column b 0) (column c 0) && true

-- what these are sorted by, and what is shown of them
abbrev cell_pair : Row → Row → Output
cell_pair c b = (
  column c 0 ∷ column c 1 ∷ [],
  column c 2 ∷ column c 3 ∷ column c 4 ∷ column c 5 ∷ column c 6 ∷ column c 7 ∷ column c 8 ∷ column c 9 ∷ column c 1 ∷ column b 2 ∷ unary Length (column c 10) ∷ [],
)

-- of the cells of an instance, with each workunit that they meet
abbrev cells_met : List Row → Row → List Output
cells_met others c = map (cell_pair c) (filter (cells_meet c) others)

-- in order of its workunit and its number, and shown with the name of its workunit
abbrev result_pair : Workunit → ℕ × Instance → Output
result_pair w p = (number w.number ∷ number p.0 ∷ [], result_shown w.name p)

-- those of a workunit
abbrev result_pairs : Workunit → List Output
result_pairs w = map (result_pair w) (enumerate_from 0 w.instances)

-- an instance meets its workunit alone
module _ (ws : List Workunit) (up : Rises ws) where
  result_met : (w : Workunit) → Has ws w → (p : ℕ × Instance) → cells_met (map stored_workunit ws) (instance_cells w.number p.0 p.1) ≡ result_pair w p ∷ []
  unfolding unary
  result_met w has p =
      ap (map (cell_pair (instance_cells w.number p.0 p.1)))
      (kept_mapped (cells_meet (instance_cells w.number p.0 p.1)) (λ (v : Workunit). v.number == w.number) stored_workunit ws (λ v. one_test _ ∙ number_equal v.number w.number) ∙ ap (map stored_workunit) (only_one w ws up has))

  -- so do all instances of a workunit
  results_met : (w : Workunit) → Has ws w → flat_map (cells_met (map stored_workunit ws)) (instances_of w) ≡ result_pairs w
  results_met w has =
      flat_map-map (cells_met (map stored_workunit ws)) (λ (p : ℕ × Instance). instance_cells w.number p.0 p.1) (enumerate_from 0 w.instances)
      ∙ one_each (λ (p : ℕ × Instance). cells_met (map stored_workunit ws) (instance_cells w.number p.0 p.1)) (result_pair w) (enumerate_from 0 w.instances) (λ p there. result_met w has p)

  -- so those of all workunits meet these
  all_results_met : flat_map (cells_met (map stored_workunit ws)) (flat_map instances_of ws) ≡ flat_map result_pairs ws
  all_results_met = flat_map-flat_map (cells_met (map stored_workunit ws)) instances_of ws ∙ same_each (λ w. flat_map (cells_met (map stored_workunit ws)) (instances_of w)) result_pairs ws results_met

module _ (result work : ℕ) where
  -- a row of an instance with those of the workunits that it meets
  abbrev with_names : List Row → Row → List Output
  with_names = met result work results_tests results_shows results_order []

  -- it looks at what is behind the rowid alone
  behind : (others : List Row) (r : Row) → with_names others r ≡ cells_met others (drop 1 r)
  behind others [] = refl
  behind others (v ∷ r) = refl

  -- and so do all
  all_behind : (others rows : List Row) → flat_map (with_names others) rows ≡ flat_map (cells_met others) (map (drop 1) rows)
  all_behind others rows = flat_map_same_on (with_names others) (λ r. cells_met others (drop 1 r)) (behind others) rows ∙ sym (flat_map-map (cells_met others) (drop 1) rows)

  -- one comes before another
  abbrev ResultBefore : Output → Output → Type 0
  ResultBefore a b = output_cmp (results_query result work) a b ≡ Less

  -- that of a lower workunit comes first
  higher_work : (w v : Workunit) (p q : ℕ × Instance) → w.number < v.number → ResultBefore (result_pair w p) (result_pair v q)
  higher_work w v p q low = rw (number_less w.number v.number low) refl

  -- of one workunit that of the lower number
  higher_number : (w : Workunit) (p q : ℕ × Instance) → p.0 < q.0 → ResultBefore (result_pair w p) (result_pair w q)
  higher_number w p q low = rw (tied_itself value_cmp_total (number w.number), number_less p.0 q.0 low) refl

  -- those of one workunit rise
  inside : (w : Workunit) → IsAscending ResultBefore (result_pairs w)
  inside w =
      ascending-map ResultBefore (result_pair w) (enumerate_from 0 w.instances)
      (ascending_weaker (λ (p q : ℕ × Instance). p.0 < q.0) (λ p q. ResultBefore (result_pair w p) (result_pair w q)) (higher_number w) (enumerate_from 0 w.instances) (numbers_rise 0 w.instances))

  -- those of two workunits rise
  across : (w v : Workunit) → w.number < v.number → (a b : Output) → Has (result_pairs w) a → Has (result_pairs v) b → ResultBefore a b
  across w v low a b has_a has_b =
      let one = has_mapped (result_pair w) (enumerate_from 0 w.instances) a has_a in
      let other = has_mapped (result_pair v) (enumerate_from 0 v.instances) b has_b in
      subst (λ x. ResultBefore x b) (sym one.2) (subst (ResultBefore (result_pair w one.0)) (sym other.2) (higher_work w v one.0 other.0 low))

  -- so all rise
  results_rise : (ws : List Workunit) → Rises ws → IsAscending ResultBefore (flat_map result_pairs ws)
  results_rise = ascending_each ResultBefore (λ (a b : Workunit). a.number < b.number) result_pairs inside across

-- what is shown of them is what the view lists
results_seen : (ws : List Workunit) → map (λ (o : Output). o.1) (flat_map result_pairs ws) ≡ flat_map results_shown ws
results_seen ws =
    map-flat_map (λ (o : Output). o.1) result_pairs ws
    ∙ flat_map_same_on (λ w. map (λ (o : Output). o.1) (result_pairs w)) results_shown (λ w. map-map (λ (o : Output). o.1) (result_pair w) (enumerate_from 0 w.instances)) ws

module _ (old : State) (world : World) (known : KnowsClasses world) (s : Refines old.now world) (rows : List Row) where
  -- the answer lists each instance once, in order of workunit and number
  pub results_listed : IsSureAnswer (results_query (s.trees the_table.Result) (s.trees the_table.Workunit)) (overlay old.now.trees []) [] rows → rows ≡ all_results_shown world
  results_listed h =
      let result = (s.trees the_table.Result) in
      let work = (s.trees the_table.Workunit) in
      let ws = world.workunits in
      let up = world_rises old.now world s in
      let stored = old.now.trees result in
      let cells : IsPermutation (flat_map result_pairs ws) (flat_map (cells_met (map stored_workunit ws)) (map (drop 1) stored)) =
      subst (λ os. IsPermutation os (flat_map (cells_met (map stored_workunit ws)) (map (drop 1) stored))) (all_results_met ws up) (IsPermutation-flat_map (cells_met (map stored_workunit ws)) (flat_map instances_of ws) (map (drop 1) stored) s.rows.instances.same) in
      let found : flat_map (with_names result work (old.now.trees work)) stored ≡ flat_map (cells_met (map stored_workunit ws)) (map (drop 1) stored) =
      (λ i. flat_map (with_names result work (s.rows.workunits.same i)) stored) ∙ all_behind result work (map stored_workunit ws) stored in
      sure_joined result work results_tests results_shows results_order [] old.now rows (flat_map result_pairs ws) (s.tables.each the_table.Result tt).1.low (s.tables.each the_table.Workunit tt).1.low (results_rise result work ws up)
      (subst (IsPermutation (flat_map result_pairs ws)) (sym found) cells) h
      ∙ results_seen ws

  -- once the text compiles to it
  module _ (p : Parsed) (names : List Name) (it : CompilesTo old.now.schema results_text p (Select (alone (results_query (s.trees the_table.Result) (s.trees the_table.Workunit))) names)) (new : State) where
    pub results_found : Shown results_text [] old new rows → rows ≡ all_results_shown world
    results_found h = results_listed (shown_answers results_text [] old new p (results_query (s.trees the_table.Result) (s.trees the_table.Workunit)) names it rows h).answer
