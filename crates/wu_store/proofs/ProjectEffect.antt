-- What an UPDATE of one column of the project does, over any schema.
use Rattle.wu_schema.proofs.Words.{Executes, HasNamed, Int, Null, Ok, Row, State, [], ap, cast_row, codes, col, everything, lit, one_permutation, pos, project_at, put_all, refl, subst, tied_itself, value_cmp_total, without_all, ℕ, ℤ, ◌∙◌, ◌∷◌, ◌≡◌, arith, IsPermutation}
use Rattle.sqlite_trees.specs.Tree.{rowid}
use Rattle.wu_schema.proofs.AnswerLemmas.{meeting, showing}
use Rattle.wu_schema.proofs.CalmLemmas.{calm_bare}
use Rattle.wu_schema.proofs.InsertEffect.{cast_null, cast_int, also, no_more}
use Rattle.wu_schema.proofs.SetTexts.{SetBy, SetFits, set_tests}
use Rattle.wu_schema.proofs.StandsLemmas.{is_there}
use Rattle.wu_store.proofs.SetEffect.{sets_by}
use Rattle.wu_store.proofs.UpdateEffect.{Sets, resets}
use Rattle.wu_store.specs.declared.texts.TheConstants.{UPDATE_NEXT_NUMBER, UPDATE_VERSION}

-- ---- the two UPDATEs

abbrev pub next_set : SetBy
next_set = record { text = UPDATE_NEXT_NUMBER.now; parameters = codes "?1" ∷ []; columns = 2 ∷ []; tests = []; made = col 1 0 ∷ col 1 0 ∷ lit Null ∷ col 1 2 ∷ col 0 0 ∷ [] }

abbrev pub version_set : SetBy
version_set = record { text = UPDATE_VERSION.now; parameters = codes "?1" ∷ []; columns = 1 ∷ []; tests = []; made = col 1 0 ∷ col 1 0 ∷ lit Null ∷ col 0 0 ∷ col 1 3 ∷ [] }

abbrev pub SetsProject : SetBy → Type 0
SetsProject q = (tree : ℕ) → SetFits (project_at tree) 0 q

pub next_fits : SetsProject next_set
unfolding everything
next_fits tree = record { read = refl; placed = (refl, tt); row_is = refl; tests = refl; strict = refl; height = (0, tt); few = omega arith; typed = refl }

pub version_fits : SetsProject version_set
unfolding everything
version_fits tree = record { read = refl; placed = (refl, tt); row_is = refl; tests = refl; strict = refl; height = (0, tt); few = omega arith; typed = refl }

-- ---- what they do

-- a row takes the place of the only one
put_one : (id : ℤ) (x new : Row) → rowid x ≡ Int id → put_all (without_all (x ∷ []) (id ∷ [])) (new ∷ []) ≡ new ∷ []
put_one id x new is = rw (is, tied_itself value_cmp_total (Int id)) refl

abbrev pub project_row : ℤ → ℤ → Row
project_row version next = Int (pos 1) ∷ Null ∷ Int version ∷ Int next ∷ []

module _ (old new : State) (tree : ℕ) (has : HasNamed old.now.schema (codes "project") (project_at tree)) (n : ℤ) (count : ℕ) where
  module _ (q : SetBy) (fits : SetsProject q) (ran : Executes q.text (Int n ∷ []) old new (Ok count)) where
    pub updates_project : Sets old.now new.now (project_at tree) (set_tests (project_at tree) 0 q) q.made (Int n ∷ [])
    updates_project = sets_by old new (project_at tree) has.0 has.1 (is_there old.now.schema _ _ has) 0 q (fits tree) (Int n ∷ []) count ran

    -- the one row is as it was set
    sets_row : (before found after : Row) → showing q.made (Int n ∷ []) (meeting (set_tests (project_at tree) 0 q) (Int n ∷ []) (before ∷ [])) ≡ (Int (pos 1) ∷ found) ∷ [] → cast_row (project_at tree) found ≡ after → rowid before ≡ Int (pos 1)
        → old.now.trees tree ≡ before ∷ [] → new.now.trees tree ≡ after ∷ []
    sets_row before found after shows kept key is =
        let it = updates_project in
        let one : it.found ≡ (Int (pos 1) ∷ found) ∷ [] = one_permutation _ it.found (subst (λ rows. IsPermutation rows it.found) shows (subst (λ rows. IsPermutation (showing q.made (Int n ∷ []) (meeting (set_tests (project_at tree) 0 q) (Int n ∷ []) rows)) it.found) is it.shown)) in
        it.rows (calm_bare old.now.schema (project_at tree) tree has.2 refl) ∙ ap (λ rows. resets (project_at tree) rows it.found) is ∙ ap (resets (project_at tree) (before ∷ [])) one
        ∙ ap (λ r. put_all (without_all (before ∷ []) (pos 1 ∷ [])) (r ∷ [])) kept ∙ put_one (pos 1) before after key

  -- it has the new number,
  pub sets_next : (version next : ℤ) → Executes next_set.text (Int n ∷ []) old new (Ok count) → old.now.trees tree ≡ project_row version next ∷ [] → new.now.trees tree ≡ project_row version n ∷ []
  sets_next version next ran =
      sets_row next_set next_fits ran (project_row version next) (project_row version n) (project_row version n) refl (also (cast_int (pos 1)) (also cast_null (also (cast_int version) (also (cast_int n) no_more)))) refl

  -- or the new version
  pub sets_version : (version next : ℤ) → Executes version_set.text (Int n ∷ []) old new (Ok count) → old.now.trees tree ≡ project_row version next ∷ [] → new.now.trees tree ≡ project_row n next ∷ []
  sets_version version next ran =
      sets_row version_set version_fits ran (project_row version next) (project_row n next) (project_row n next) refl (also (cast_int (pos 1)) (also cast_null (also (cast_int n) (also (cast_int next) no_more)))) refl
