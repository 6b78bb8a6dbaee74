-- What walks that count make of the lines of a world.
use Rattle.std.proofs.Common.{◌≡◌, ◌≢◌, ◌⊎◌, ◌∙◌, ℕ, ◌+◌, Bool, true, false, not, ◌&&◌, if◌then◌else◌, cond, fold, List, [], ◌∷◌, ◌++◌, map, flat_map, filter_map, min, Option, Some, None, Result, Ok, Err, inl, inr, refl, sym, ap, arith}
use Rattle.std.specs.Prelude.{nat_lt}
use Rattle.std.specs.Option.{option_map_or}
use Rattle.std.specs.List.{cons_option, enumerate_from, reduce}
use Rattle.sqlite.specs.Held.{Held}
use Rattle.sqlite.specs.Store.{Ghosts}
use Rattle.wu_core.specs.declared.fault.Fault.{Fault}
use Rattle.wu_core.specs.declared.fault.Fault.TheVariants.{Broken, Memory, NotAProject, Output}
use Rattle.wu_core.specs.declared.workunit.Instance.{Instance}
use Rattle.wu_core.specs.declared.workunit.Workunit.{Workunit}
use Rattle.wu_core.specs.World.{World}
use Rattle.wu_rules.specs.Counts.{is_undecided}
use Rattle.wu_rules.specs.Instances.{is_in_progress_state, is_overdue}
use Rattle.wu_schema.specs.Faults.{IsFailure}
use Rattle.wu_store.specs.Loading.{Asks, IsStoreFault}
use Rattle.wu_store.specs.Reads.{ReadsClassed}
use Rattle.wu_store.proofs.AskLemmas.{asks_made, never_err}
use Rattle.wu_views.specs.Counting.{all_instances}
use Rattle.wu_views.specs.Lines.{line_of, result_line_of, result_lines, result_lines_of, workunit_lines}
use Rattle.wu_views.specs.Tallies.{awaited, deadlines_of, decisions_of, earlier, fault_of_count, is_given_up, one_more, with_deadline, with_result, with_line}
use Rattle.wu_views.specs.Walking.{IsWalkFault, TakesAll, Walked}
use Rattle.wu_views.specs.declared.tallies.Deadlines.{Deadlines}
use Rattle.wu_views.specs.declared.tallies.Decisions.{Decisions}

-- ---- lists of lines

pub takes_split : {K T : Type 0} (Takes : K → K → T → Type 0) (old new : K) (xs ys : List T) → TakesAll Takes old new (xs ++ ys) → (mid : K) × TakesAll Takes old mid xs × TakesAll Takes mid new ys
takes_split Takes old new [] ys all = (old, refl, all)
takes_split Takes old new (x ∷ xs) ys (next, one, rest) = let it = takes_split Takes next new xs ys rest in (it.0, (next, one, it.1), it.2)

fold_both : {A B : Type 0} (f : B → A → B) (b : B) (xs ys : List A) → fold f b (xs ++ ys) ≡ fold f (fold f b xs) ys
fold_both f b [] ys = refl
fold_both f b (x ∷ xs) ys = fold_both f (f b x) xs ys

-- ---- workunits

more_is : (n : ℕ) (counts : Bool) → one_more n counts ≡ n + cond counts 1 0
more_is n true = refl
more_is n false = omega arith

-- the numbers of these, counted on
abbrev counted_on : Decisions → List Workunit → Decisions
counted_on it ws =
    record { undecided = fold (λ n w. n + cond (is_undecided w) 1 0) it.undecided ws; given_up = fold (λ n w. n + cond (is_given_up w) 1 0) it.given_up ws }

decisions_taken : (first last : Decisions) (ws : List Workunit) → TakesAll (λ old new line. new ≡ with_line old line) first last (map line_of ws) → last ≡ counted_on first ws
decisions_taken first last [] all = all
decisions_taken first last (w ∷ ws) (next, one, rest) =
    let undecided = λ (n : ℕ). fold (λ n w. n + cond (is_undecided w) 1 0) n ws in
    let given_up = λ (n : ℕ). fold (λ n w. n + cond (is_given_up w) 1 0) n ws in
    decisions_taken next last ws rest ∙ ap (λ it. counted_on it ws) one
    ∙ ap (λ n. record { undecided = undecided n; given_up = given_up (one_more first.given_up (is_given_up w)) }) (more_is first.undecided (is_undecided w))
    ∙ ap (λ n. record { undecided = undecided (first.undecided + cond (is_undecided w) 1 0); given_up = given_up n }) (more_is first.given_up (is_given_up w))

-- ---- instances

-- the numbers with an instance
abbrev with_instance : Deadlines → Instance → Deadlines
with_instance it i = with_deadline it (if is_in_progress_state i.server_state then i.deadline else None)

-- instances of one workunit, from this number on
instances_taken : (first last : Deadlines) (name : List ℕ) (k : ℕ) (is : List Instance) → TakesAll (λ old new line. new ≡ with_result old line) first last (map (result_line_of name) (enumerate_from k is)) → last ≡ fold with_instance first is
instances_taken first last name k [] all = all
instances_taken first last name k (i ∷ is) (next, one, rest) =
    instances_taken next last name (k + 1) is rest ∙ ap (λ it. fold with_instance it is) one

-- and of workunits, one after another
results_taken : (first last : Deadlines) (ws : List Workunit) → TakesAll (λ old new line. new ≡ with_result old line) first last (flat_map result_lines_of ws) → last ≡ fold with_instance first (flat_map (λ (w : Workunit). w.instances) ws)
results_taken first last [] all = all
results_taken first last (w ∷ ws) all =
    let it = takes_split (λ old new line. new ≡ with_result old line) first last (result_lines_of w) (flat_map result_lines_of ws) all in
    let rest = flat_map (λ (w : Workunit). w.instances) ws in
    results_taken it.0 last ws it.2 ∙ ap (λ d. fold with_instance d rest) (instances_taken first it.0 w.name 0 w.instances it.1)
    ∙ sym (fold_both with_instance first w.instances rest)

-- the earliest of these and of one that may be missing
abbrev next_of : Option ℕ → List ℕ → Option ℕ
next_of None ds = reduce min ds
next_of (Some first) ds = Some (fold min first ds)

earliest_on : (first : Option ℕ) (d : ℕ) (ds : List ℕ) → next_of (Some (earlier first d)) ds ≡ next_of first (d ∷ ds)
earliest_on None d ds = refl
earliest_on (Some first) d ds = refl

-- the numbers of these, counted on
abbrev awaited_on : Deadlines → List Instance → Deadlines
awaited_on it is =
    record { now = it.now; overdue = fold (λ n i. n + cond (is_overdue it.now i) 1 0) it.overdue is; next = next_of it.next (filter_map (awaited it.now) is) }

none_on : (first : Option ℕ) → next_of first [] ≡ first
none_on None = refl
none_on (Some first) = refl

-- the deadline that is awaited of an instance, by whether it is in progress and by whether it is late
abbrev awaited_if : Bool → Option ℕ → Bool → Option ℕ
awaited_if going deadline late = if going && not (going && late) then deadline else None

module _ (it : Deadlines) (is : List Instance) where
  -- the numbers counted on with one more, that is late or not, and is awaited or not
  abbrev on_with : Bool → Option ℕ → Deadlines
  on_with late next =
      record {
        now = it.now;
        overdue = fold (λ n i. n + cond (is_overdue it.now i) 1 0) (it.overdue + cond late 1 0) is;
        next = next_of it.next (cons_option next (filter_map (awaited it.now) is));
      }

  still : ◌≡◌ {A = ℕ} it.overdue (it.overdue + 0)
  still = omega arith

  none_more : awaited_on it is ≡ on_with false None
  none_more = ap (λ n. record { now = it.now; overdue = fold (λ n i. n + cond (is_overdue it.now i) 1 0) n is; next = next_of it.next (filter_map (awaited it.now) is) }) still

  late_on : (deadline : ℕ) (late : Bool)
      → awaited_on (if late then record it { overdue = it.overdue + 1 } else record it { next = Some (earlier it.next deadline) }) is ≡ on_with late (awaited_if true (Some deadline) late)
  late_on deadline true = refl
  late_on deadline false =
      ap (λ n. record { now = it.now; overdue = fold (λ n i. n + cond (is_overdue it.now i) 1 0) n is; next = next_of (Some (earlier it.next deadline)) (filter_map (awaited it.now) is) }) still
      ∙ ap (λ next. record { now = it.now; overdue = fold (λ n i. n + cond (is_overdue it.now i) 1 0) (it.overdue + 0) is; next = next }) (earliest_on it.next deadline (filter_map (awaited it.now) is))

  one_on : (going : Bool) (deadline : Option ℕ)
      → awaited_on (with_deadline it (if going then deadline else None)) is
      ≡ on_with (going && option_map_or (λ d. nat_lt d it.now) deadline false) (awaited_if going deadline (option_map_or (λ d. nat_lt d it.now) deadline false))
  one_on false deadline = none_more
  one_on true None = none_more
  one_on true (Some deadline) = late_on deadline (nat_lt deadline it.now)

deadlines_on : (it : Deadlines) (is : List Instance) → fold with_instance it is ≡ awaited_on it is
deadlines_on it [] = ap (λ next. record { now = it.now; overdue = it.overdue; next = next }) (sym (none_on it.next))
deadlines_on it (i ∷ is) = deadlines_on (with_instance it i) is ∙ one_on it is (is_in_progress_state i.server_state) i.deadline

-- ---- what is read

-- from none on the numbers are those of the world
pub decisions_are : (world : World) (last : Decisions) → TakesAll (λ old new line. new ≡ with_line old line) (record { undecided = 0; given_up = 0 }) last (workunit_lines world) → last ≡ decisions_of world
decisions_are world last all = decisions_taken (record { undecided = 0; given_up = 0 }) last world.workunits all

pub deadlines_are : (now : ℕ) (world : World) (last : Deadlines) → TakesAll (λ old new line. new ≡ with_result old line) (record { now = now; overdue = 0; next = None }) last (result_lines world) → last ≡ deadlines_of now world
deadlines_are now world last all =
    results_taken (record { now = now; overdue = 0; next = None }) last world.workunits all ∙ deadlines_on (record { now = now; overdue = 0; next = None }) (all_instances world)

counted_fault : (fault : Fault) → IsWalkFault fault → IsStoreFault (fault_of_count fault)
counted_fault Output told = inl refl
counted_fault Memory told = inl refl
counted_fault Broken told = inr (inl refl)
counted_fault NotAProject told = inr (inr refl)
counted_fault fault (inl is) = absurd cc
counted_fault fault (inr (inl is)) = absurd cc
counted_fault fault (inr (inr (inl is))) = absurd cc
counted_fault fault (inr (inr (inr is))) = absurd cc

counted_refused : (fault : Fault) → fault ≢ NotAProject → fault_of_count fault ≢ NotAProject
counted_refused Output other is = absurd cc
counted_refused fault other is = other is

counted_failed : {Q : Type 0} (fault : Fault) → IsFailure fault ⊎ Q → IsFailure (fault_of_count fault) ⊎ Q
counted_failed Output failed = inl (inl refl)
counted_failed fault failed = failed

module _ {S R U : Type 0} (g : Ghosts S) (old new : Held S) where
  -- what is told of questions that failed
  counted_asks : (fault : Fault) → Asks {T = R} g old new (Err fault) → Asks {T = U} g old new (Err (fault_of_count fault))
  counted_asks Output it = record { mode = it.mode; crash = it.crash; answered = λ clean. tt; refused = λ clean. inl (inl refl); back = it.back; broken = λ clean is. absurd cc }
  counted_asks Memory it = record { mode = it.mode; crash = it.crash; answered = λ clean. tt; refused = it.refused; back = it.back; broken = λ clean is. absurd cc }
  counted_asks Broken it = record { mode = it.mode; crash = it.crash; answered = λ clean. tt; refused = it.refused; back = it.back; broken = λ clean is. it.broken clean refl }
  counted_asks fault it = record { mode = it.mode; crash = it.crash; answered = λ clean. tt; refused = it.refused; back = it.back; broken = λ clean is. absurd cc }

module _ {S T K R U : Type 0} (g : Ghosts S) {lines_of : World → List T} {IsReadable : World → Type 0} {Takes Refuses : K → K → T → Type 0} (old new : Held S) (first last : K) where
  -- what is made of all lines
  pub walk_made : (x : R) (y : U) (Finds : Result U Fault → World → Type 0) → Walked g lines_of IsReadable Takes Refuses old new first last (Ok x) → ((world : World) → TakesAll Takes first last (lines_of world) → Finds (Ok y) world)
      → ReadsClassed g old new (Ok y) Finds IsReadable
  walk_made x y Finds it made = record {
    asks = asks_made g old new x (Ok y) (never_err y) it.asks;
    opens = λ asked. it.opens;
    fault = tt;
    found = λ clean world stood. made world (it.lines clean world stood.0 stood.1);
    unrefused = λ clean world stood can limit. tt;
  }

  pub walk_failed : (fault : Fault) (Finds : Result U Fault → World → Type 0) → Walked {R = R} g lines_of IsReadable Takes Refuses old new first last (Err fault) → ((world : World) → Finds (Err (fault_of_count fault)) world)
      → ReadsClassed g old new (Err (fault_of_count fault)) Finds IsReadable
  walk_failed fault Finds it none = record {
    asks = counted_asks {R = R} g old new fault it.asks;
    opens = λ asked clean. counted_failed fault (it.opens clean);
    fault = counted_fault fault it.fault;
    found = λ clean world stood. none world;
    unrefused = λ clean world stood can limit. counted_refused fault (it.unrefused clean world stood.0 stood.1 can limit);
  }
