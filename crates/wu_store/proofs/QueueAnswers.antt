-- What the selections of the passes answer of the queue.
use Rattle.wu_schema.proofs.Words.{Binary, Bool, Fault, FailsToQuery, Ghosts, Held, IfErr, List, Name, None, NotAProject, Option, Result, Row, Shown, Some, State, Term, Vec, [], ap, arith, binary, col, codes, column, equal, filter, fault_of, holds, inl, inr, is_true, length, list_all, map, map-map, nat_le, nat_tests, number, number_or_null, refl, state, subst, sym, take, true, false, ℕ, ⊤, ◌&&◌, ◌∙◌, ◌∷◌, ◌≡◌, ◌≢◌, ◌⊎◌}
use Rattle.std.specs.Option.{option_map_or}
use Rattle.sqlite_sql.specs.declared.ops.BinaryOp.TheVariants as by
use Rattle.sqlite_sql.specs.declared.ops.CompareOp.TheVariants as compare
use Rattle.wu_core.specs.declared.marks.Marks.{Marks}
use Rattle.wu_rules.specs.declared.due.Pass.{Pass}
use Rattle.wu_rules.specs.declared.due.Pass.TheVariants.{Transition, Validate, Assimilate, Delete, Purge}
use Rattle.wu_schema.proofs.RowLemmas.{one_test}
use Rattle.wu_schema.specs.Asking.{Asks, FailsAll, IsSelect, ServesUnlessFailed, ShowsAll, TellsQuery}
use Rattle.wu_schema.specs.Queue.{HasQueue}
use Rattle.wu_schema.specs.Stored.{flag, stored_marks}
use Rattle.wu_schema.specs.Tables.{queue_at}
use Rattle.sqlite.specs.Query.{page}
use Rattle.wu_schema.proofs.AnswerLemmas.{shown_answers}
use Rattle.wu_schema.proofs.ReadLemmas.{if_ok, if_err}
use Rattle.wu_schema.proofs.SelectLemmas.{Asked, Fits, IsTyped, Test, compiles, parsed_of, select_of, tests_of}
use Rattle.wu_schema.proofs.ToldLemmas.{asked_told}
use Rattle.wu_store.specs.Loading.{IsStoreFault}
use Rattle.wu_store.specs.Queues.{first_marked, is_marked, marked_text, AnswersQueueIf}
use Rattle.wu_store.proofs.AskLemmas.{never_refused}
use Rattle.wu_store.proofs.EqualLemmas.{number_at_least, number_at_most, number_equal}
use Rattle.wu_store.proofs.OrderAnswers.{sorted, sure_in_order}
use Rattle.wu_store.proofs.ReadAnswers.{kept_mapped}
use Rattle.wu_store.proofs.SelectTexts.{limit_place, mark_parameters, mark_tests, marked_asked, pass_asked, pass_fits}

module _ (asked : Asked) (fits : (tree : ℕ) → Fits (codes "queue") (queue_at tree) asked) (params : Row) where
  abbrev passing : ℕ → Row → Bool
  passing tree r = list_all (holds (params ∷ r ∷ [])) (tests_of (codes "queue") (queue_at tree) asked)

  module _ {S : Type 0} (g : Ghosts S) (old new : Held S) (given : Row) (same : given ≡ params) (few : length params ≡ length asked.parameters) (typed : (tree : ℕ) → IsTyped (codes "queue") (queue_at tree) asked params) where
    selects : IsSelect asked.text
    selects = record { parsed = parsed_of (codes "queue") (queue_at 0) asked; select = select_of (codes "queue") (queue_at 0) asked; read = (fits 0).read; is = refl }

    never_told : (marked : List (ℕ × Marks)) → HasQueue (state g old).now marked → old.step_limit ≡ None → (fault : Fault) → TellsQuery asked.text given (state g old) (state g new) fault → fault ≢ NotAProject
    never_told marked q limit fault h is =
        never_refused (fault_of h.0)
        (asked_told (codes "queue") q.table.0 (queue_at q.tree) asked (fits q.tree) (state g old) (state g new) q.table.1 params h.0 few (typed q.tree) limit (subst (λ ps. FailsToQuery asked.text ps (state g old) (state g new) h.0) same h.2))
        (sym h.1 ∙ is)

    pub asked_queue : {A : Type 0} (answer : List (ℕ × Marks) → List Row) → ((rows : List Row) → Shown asked.text params (state g old) (state g new) rows → (marked : List (ℕ × Marks)) → HasQueue (state g old).now marked → rows ≡ answer marked) → (r : Result (Vec Row A) Fault)
        → (IsSelect asked.text → Asks g old new r) → (IsSelect asked.text → ServesUnlessFailed g new r) → ShowsAll g old new r asked.text given → FailsAll g old new r asked.text given → IfErr r IsStoreFault → AnswersQueueIf g old new r ⊤ answer
    asked_queue answer found r asks opens shows fails told = record {
      asks = asks selects;
      opens = λ asked. opens selects;
      fault = told;
      found = λ clean marked q. if_ok r _ _ (λ rows h. found rows.items (subst (λ ps. Shown asked.text ps (state g old) (state g new) rows.items) same h) marked q) (shows clean);
      unrefused = λ clean marked q any limit. if_err r _ _ (never_told marked q limit) (fails clean);
    }

-- ---- by the marks of a workunit, up to a limit

module _ (text : List ℕ) (parameters : List Name) (tests : List Test) (place : ℕ) (fits : (tree : ℕ) → Fits (codes "queue") (queue_at tree) (marked_asked text parameters tests place)) (given : Row) (n : ℕ) (passes : Marks → Bool)
    (ends : (tree : ℕ) (ts : List Term) (rows : List Row) → page (sorted tree ts (col 1 0 ∷ []) 0 false (col 0 place) given) given rows ≡ take n rows)
    (same : (tree : ℕ) (p : ℕ × Marks) → passing (marked_asked text parameters tests place) fits given tree (stored_marks p) ≡ passes p.1) where
  pub marks_found : (old new : State) (rows : List Row) → Shown text given old new rows → (marked : List (ℕ × Marks)) → HasQueue old.now marked → rows ≡ first_marked n passes marked
  marks_found old new rows h marked q =
      let asked = marked_asked text parameters tests place in
      let read = shown_answers text given old new _ _ _ (compiles old.now.schema (codes "queue") q.table.0 (queue_at q.tree) q.table.1 asked (fits q.tree)) rows h in
      let kept = passing asked fits given q.tree in
      sure_in_order q.tree (tests_of (codes "queue") (queue_at q.tree) asked) (col 1 0 ∷ []) (col 0 place) given old.now rows q.table.1.low q.rows.shaped.0 read.answer
      ∙ ends q.tree (tests_of (codes "queue") (queue_at q.tree) asked) _
      ∙ ap (λ rs. take n (map (λ (r : Row). column r 0 ∷ []) (filter kept rs))) q.rows.same
      ∙ ap (λ rs. take n (map (λ (r : Row). column r 0 ∷ []) rs)) (kept_mapped kept (λ (p : ℕ × Marks). passes p.1) stored_marks marked (same q.tree))
      ∙ ap (take n) (map-map (λ (r : Row). column r 0 ∷ []) stored_marks (filter (λ (p : ℕ × Marks). passes p.1) marked))

-- a mark that is set
pub is_flag : (b : Bool) → equal Binary (flag b) (number 1) ≡ b
is_flag true = number_equal 1 1
is_flag false = number_equal 0 1

lowest : (n : ℕ) → nat_le 0 n ≡ true
lowest n = grind (arith, nat_tests)

-- a moment that has come, of those from the first one on
pub has_come : (o : Option ℕ) (now : ℕ) → (is_true (binary (by.Compare compare.Ge Binary) (number_or_null o) (number 0)) && (is_true (binary (by.Compare compare.Le Binary) (number_or_null o) (number now)) && true)) ≡ option_map_or (λ moment. nat_le moment now) o false
unfolding binary
has_come None now = refl
has_come (Some n) now = ap (λ b. b && (is_true (binary (by.Compare compare.Le Binary) (number n) (number now)) && true)) (number_at_least n 0 ∙ lowest n) ∙ one_test _ ∙ number_at_most n now

-- ---- the question of a pass

module _ (by n : ℕ) where
  abbrev pub given_of : Pass → Row
  given_of Transition = number 0 ∷ number by ∷ number n ∷ []
  given_of Purge = number 0 ∷ number by ∷ number n ∷ []
  given_of _ = number 1 ∷ number n ∷ []

  -- of a pass that goes by moments
  pub moments_given : (pass : Pass) → (pass ≡ Transition) ⊎ (pass ≡ Purge) → number 0 ∷ number by ∷ number n ∷ [] ≡ given_of pass
  moments_given pass (inl is) = ap given_of (sym is)
  moments_given pass (inr is) = ap given_of (sym is)

  -- and of one that does not
  pub flags_given : (pass : Pass) → (pass ≡ Validate) ⊎ (pass ≡ Assimilate) ⊎ (pass ≡ Delete) → number 1 ∷ number n ∷ [] ≡ given_of pass
  flags_given pass (inl is) = ap given_of (sym is)
  flags_given pass (inr (inl is)) = ap given_of (sym is)
  flags_given pass (inr (inr is)) = ap given_of (sym is)

  few_as : (pass : Pass) → length (given_of pass) ≡ length (mark_parameters pass)
  few_as Transition = refl
  few_as _ = refl

  typed_as : (pass : Pass) (tree : ℕ) → IsTyped (codes "queue") (queue_at tree) (pass_asked pass) (given_of pass)
  typed_as Transition tree = refl
  typed_as _ tree = refl

  ends_as : (pass : Pass) (tree : ℕ) (ts : List Term) (rows : List Row) → page (sorted tree ts (col 1 0 ∷ []) 0 false (col 0 (limit_place pass)) (given_of pass)) (given_of pass) rows ≡ take n rows
  ends_as Transition tree ts rows = refl
  ends_as _ tree ts rows = refl

  passes_as : (pass : Pass) (tree : ℕ) (p : ℕ × Marks) → passing (pass_asked pass) (pass_fits pass) (given_of pass) tree (stored_marks p) ≡ is_marked pass by p.1
  passes_as Transition tree p = has_come p.1.wake by
  passes_as Validate tree p = one_test _ ∙ is_flag p.1.to_validate
  passes_as Assimilate tree p = one_test _ ∙ is_flag p.1.to_assimilate
  passes_as Delete tree p = one_test _ ∙ is_flag p.1.to_delete
  passes_as Purge tree p = has_come p.1.purge_from by

  module _ {S A : Type 0} (g : Ghosts S) (old new : Held S) (r : Result (Vec Row A) Fault) (pass : Pass) where
    pub pass_asks : (text : List ℕ) → text ≡ marked_text pass → (given : Row) → given ≡ given_of pass
        → (IsSelect text → Asks g old new r) → (IsSelect text → ServesUnlessFailed g new r) → ShowsAll g old new r text given → FailsAll g old new r text given → IfErr r IsStoreFault → AnswersQueueIf g old new r ⊤ (first_marked n (is_marked pass by))
    pass_asks text is given same asks opens shows fails told =
        let there = subst (λ (t : List ℕ). (IsSelect t → Asks g old new r) × (IsSelect t → ServesUnlessFailed g new r) × ShowsAll g old new r t given × FailsAll g old new r t given) is (asks, opens, shows, fails) in
        asked_queue (pass_asked pass) (pass_fits pass) (given_of pass) g old new given same (few_as pass) (typed_as pass) (first_marked n (is_marked pass by))
        (λ rows h marked s. marks_found (marked_text pass) (mark_parameters pass) (mark_tests pass) (limit_place pass) (pass_fits pass) (given_of pass) n (is_marked pass by) (ends_as pass) (passes_as pass) (state g old) (state g new) rows h marked s) r there.0 there.1 there.2 there.3 told
