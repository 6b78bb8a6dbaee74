-- The walks of the summary over the states of instances and over the credit of grants, whole.
use Rattle.wu_schema.proofs.Words.{Err, Error, Fault, Ghosts, HasCleanDisk, Held, IsErrAnd, List, None, NotAProject, Ok, Option, Refines, Result, Row, Some, State, Survives, World, [], arith, column, false, fault_of, inr, length, map, number, refl, state, subst, sym, ℕ, ⊤, ◌++◌, ◌+◌, ◌<◌, ◌^◌, ◌∙◌, ◌∷◌, ◌≡◌, ◌≢◌, ◌≤◌, IsUnchanged}
use Rattle.std.specs.Prelude.{IfOk, sum}
use Rattle.std.proofs.lemmas.List.{length-append}
use Rattle.sqlite.specs.Given.{Advances, FailsToAdvance, HasBegun, IsRefused}
use Rattle.sqlite.specs.State.{CommitsShowing}
use Rattle.wu_core.specs.declared.states.ServerState.{ServerState}
use Rattle.wu_schema.specs.Restoring.{Restores}
use Rattle.wu_schema.proofs.AskingLemmas.{fault_told}
use Rattle.wu_schema.specs.declared.table.ProjectTable.TheVariants as the_table
use Rattle.wu_store.specs.Loading.{IsStoreFault}
use Rattle.wu_store.specs.Reads.{FindsAt, ReadsWorld}
use Rattle.wu_schema.specs.Reading.{IsReadFault, server_state_cell}
use Rattle.wu_store.proofs.AskLemmas.{IsQuestion, never_broken, read_told}
use Rattle.wu_store.proofs.LoadLemmas.{never_unread}
use Rattle.wu_views.specs.Counting.{all_states}
use Rattle.wu_views.specs.Summaries.{AddsState, CountsResults, CountsCredit, CountsGrants, CountsStates, HasRoom, IsCreditCountable, counts_of, granted_of, results_of}
use Rattle.wu_views.specs.declared.counts.Granted.{Granted}
use Rattle.wu_views.specs.declared.counts.Results.{Results}
use Rattle.wu_views.proofs.CountLemmas.{cells_long, cells_more, credit_summed, first_cells, grants_counted, has_room, next_credit, next_state, numbers_more, numbers_summed, states_counted, sum_within}
use Rattle.wu_views.proofs.CountedAnswers.{credit_asked, credit_fits, credit_found, credit_question, states_asked, states_fit, states_found, states_question}
use Rattle.wu_store.proofs.GivenLemmas.{IsWalked, end_asks, end_opens, failed_asks, failed_opens, failed_told, refused_asks, refused_opens, refused_told, shown_since, shown_until, walk_asks, walk_begins, walk_ends, walk_front, walk_on, walk_opens}

-- what a walk does and finds, and that it is not refused
pub record HasWalked {S T : Type 0} (g : Ghosts S) (of : World → T) (Can : World → Type 0) (Counts : State → State → T → Type 0) (old new : Held S) (result : Result T Fault) : Type 0 where
  pub counted : HasCleanDisk (state g new) → IfOk result (Counts (state g old) (state g new))
  pub reads : ReadsWorld g old new result (FindsAt of) Can

module _ {S T : Type 0} (g : Ghosts S) (of : World → T) (Can : World → Type 0) (Counts : State → State → T → Type 0) where
  abbrev Walks : Held S → Held S → Result T Fault → Type 0
  Walks = HasWalked g of Can Counts

  -- a fault that `?` hands on
  pub walked_handed : (old new : Held S) (fault : Fault) (r : Result T Fault) → IsErrAnd r (λ other. other ≡ fault) → Walks old new (Err fault) → Walks old new r
  walked_handed old new fault (Ok x) same it = absurd same
  walked_handed old new fault (Err other) same it = subst (λ f. Walks old new (Err f)) (sym same) it

  module _ {text : List ℕ} (it : IsQuestion text [] Refines) where
    -- where the question is refused
    pub walked_refused : (old new : Held S) {X : Type 0} (e : Error) (fault : Fault) → fault ≡ fault_of e → IsRefused g {X = X} text [] old (Err e) new → Walks old new (Err fault)
    walked_refused old new {X} e fault is none = record {
      counted = λ clean. tt;
      reads = record {
        asks = refused_asks g text it.select [] old new {X = X} e fault is none;
        opens = λ asked. refused_opens g text it.select [] old new {X = X} e fault is none;
        fault = subst IsStoreFault (sym is) (fault_told e);
        found = λ clean world stands. tt;
        unrefused = λ clean world stands can unlimited. refused_told g old world stands unlimited e fault is new {X = X} none clean it;
      };
    }

    module _ (old now : Held S) (given : List Row) (walk : IsWalked g text [] old now given) where
      -- where it is left with a fault
      pub walked_left : (fault : Fault) → IsReadFault fault → (HasCleanDisk (state g now) → (world : World) → Refines (state g old).now world → Can world → fault ≢ NotAProject) → Walks old now (Err fault)
      walked_left fault told unread = record {
        counted = λ clean. tt;
        reads = record {
          asks = walk_asks g text it.select [] old now given walk (Err fault) (never_broken {U = T} (Err fault) told);
          opens = λ asked. walk_opens g text it.select [] old now given walk {T = T} (Err fault);
          fault = read_told fault told;
          found = λ clean world stands. tt;
          unrefused = λ clean world stands can unlimited. unread clean world stands can;
        };
      }

      module _ (new : Held S) (mode : now.in_transaction ≡ false → new.in_transaction ≡ false) (survives : Survives (state g now) (state g new) (λ _. ⊥)) where
        -- where a row is not read
        pub walked_failed : (e : Error) (fault : Fault) → fault ≡ fault_of e → (HasCleanDisk (state g new) → FailsToAdvance g now new e) → Walks old new (Err fault)
        walked_failed e fault is fails = record {
          counted = λ clean. tt;
          reads = record {
            asks = failed_asks g text it.select [] old now given walk new mode survives e fault is fails;
            opens = λ asked. failed_opens g text it.select [] old now given walk new mode survives e fault is fails;
            fault = subst IsStoreFault (sym is) (fault_told e);
            found = λ clean world stands. tt;
            unrefused = λ clean world stands can unlimited. failed_told g old world stands unlimited e fault is now given walk new survives fails clean it;
          };
        }

        -- where it comes to its end
        pub walked_whole : (next : Option Row) (gives : HasCleanDisk (state g new) → Advances g now new next) (same : HasCleanDisk (state g new) → IsUnchanged (state g now) (state g new)) → (x : T) → (HasCleanDisk (state g new) → Counts (state g old) (state g new) x)
            → (HasCleanDisk (state g new) → (world : World) → Refines (state g old).now world → FindsAt of (Ok x) world) → Walks old new (Ok x)
        walked_whole next gives same x counted found = record {
          counted = counted;
          reads = record {
            asks = end_asks g text it.select [] old now given walk new mode survives next gives same (Ok x) (λ is. absurd cc);
            opens = λ asked. end_opens g text it.select [] old now given walk new mode survives next gives same {T = T} (Ok x);
            fault = tt;
            found = found;
            unrefused = λ clean world stands can unlimited. tt;
          };
        }

-- ---- the states of instances

-- these are counted so far
pub record HasCounted {S : Type 0} (g : Ghosts S) (old now : Held S) (counter : ℕ) (found : Results) : Type 0 where
  pub given : List Row
  pub walk : IsWalked g states_asked.text [] old now given
  pub states : List ServerState
  pub read : first_cells given ≡ map server_state_cell states
  pub counted : found ≡ counts_of states
  pub many : length states ≡ counter

abbrev pub WalksStates : {S : Type 0} → Ghosts S → Held S → Held S → Result Results Fault → Type 0
WalksStates g = HasWalked g results_of (λ _. ⊤) CountsStates

-- what is answered, once the rows are let go
pub states_at : {S : Type 0} (g : Ghosts S) (old now new : Held S) (r : Result Results Fault) → now ≡ new → WalksStates g old now r → record {
  counted : CountsResults g old new r;
  reads : ReadsWorld g old new r (FindsAt results_of) (λ _. ⊤);
}
states_at g old now new r same it = let at = subst (λ h. WalksStates g old h r) same it in record { counted = at.counted; reads = at.reads }

module _ {S : Type 0} (g : Ghosts S) (old : Held S) where
  pub none_counted : (new : Held S) → (old.in_transaction ≡ false → new.in_transaction ≡ false) → Survives (state g old) (state g new) (CommitsShowing states_asked.text [] (state g old)) → (HasCleanDisk (state g new) → HasBegun g states_asked.text [] old new)
      → HasCounted g old new 0 (record { all = 0; unsent = 0; in_progress = 0; over = 0 })
  none_counted new mode survives begun = record { given = []; walk = walk_begins g states_asked.text states_question.select [] old new mode survives begun; states = []; read = refl; counted = refl; many = refl }

  module _ (now : Held S) (counter : ℕ) (found : Results) (has : HasCounted g old now counter found) where
    pub room : counter + 1 < 2 ^ 64 → HasRoom found
    room low = has_room has.states found has.counted (omega (arith, has.many, low))

    module _ (new : Held S) (mode : now.in_transaction ≡ false → new.in_transaction ≡ false) (survives : Survives (state g now) (state g new) (λ _. ⊥)) (next : Option Row) (gives : HasCleanDisk (state g new) → Advances g now new next)
        (same : HasCleanDisk (state g new) → IsUnchanged (state g now) (state g new)) where
      pub states_whole : next ≡ None → WalksStates g old new (Ok found)
      states_whole none =
          let ends = walk_ends g states_asked.text states_question.select [] old now has.given has.walk new mode survives next gives same none in
          walked_whole g results_of (λ _. ⊤) CountsStates states_question old now has.given has.walk new mode survives next gives same found
          (λ clean. record { rows = has.given; shown = ends clean; states = has.states; read = has.read; counted = has.counted })
          (λ clean world stands. has.counted ∙ states_counted (all_states world) has.states (first_cells has.given) (states_found (state g old) (state g new) world stands has.given (ends clean)) has.read)

      module _ (row : Row) (is : next ≡ Some row) where
        further : IsWalked g states_asked.text [] old new (has.given ++ row ∷ [])
        further = walk_on g states_asked.text states_question.select [] old now has.given has.walk new mode survives next gives same row is

        pub one_counted : (s : ServerState) (more : Results) → column row 0 ≡ server_state_cell s → AddsState found s more → HasCounted g old new (counter + 1) more
        one_counted s more reads adds = record {
          given = has.given ++ row ∷ [];
          walk = further;
          states = has.states ++ s ∷ [];
          read = cells_more server_state_cell has.given row has.states s has.read reads;
          counted = adds has.states has.counted;
          many = omega (arith, length-append has.states (s ∷ []), has.many);
        }

        -- a row that has no state
        pub state_unread : (fault : Fault) → Restores server_state_cell (λ _. ⊤) (column row 0) (Err fault) → WalksStates g old new (Err fault)
        state_unread fault unread = walked_left g results_of (λ _. ⊤) CountsStates states_question old new (has.given ++ row ∷ []) further fault unread.refused (λ clean world stands can.
            let front = walk_front the_table.Result states_asked states_fit g states_question.select [] old new (has.given ++ row ∷ []) further world tt stands clean in
            let has_state = next_state (all_states world) has.given row front.0 (states_found (state g old) (state g new) world stands ((has.given ++ row ∷ []) ++ front.0) front.1) in
            never_unread server_state_cell (λ _. ⊤) (column row 0) (Err fault) has_state.0 unread tt has_state.1)

-- they are counted over what was there before, unchanged, and is there after it
pub counted_between : (first old new last : State) (results : Results) → IsUnchanged first old → CountsStates old new results → IsUnchanged new last → CountsStates first last results
counted_between first old new last results before it after = record {
  rows = it.rows;
  shown = shown_until states_asked.text states_question.select [] it.rows first new last (shown_since states_asked.text states_question.select [] it.rows first old new before it.shown) after;
  states = it.states;
  read = it.read;
  counted = it.counted;
}

-- ---- the credit of grants

-- so many are counted, with this credit
pub record HasSummed {S : Type 0} (g : Ghosts S) (old now : Held S) (counter grants credit : ℕ) : Type 0 where
  pub given : List Row
  pub walk : IsWalked g credit_asked.text [] old now given
  pub credits : List ℕ
  pub read : first_cells given ≡ map number credits
  pub counted : grants ≡ length credits
  pub many : counter ≡ grants
  pub summed : credit ≡ sum credits

abbrev pub WalksGrants : {S : Type 0} → Ghosts S → Held S → Held S → Result Granted Fault → Type 0
WalksGrants g = HasWalked g granted_of IsCreditCountable CountsCredit

pub grants_at : {S : Type 0} (g : Ghosts S) (old now new : Held S) (r : Result Granted Fault) → now ≡ new → WalksGrants g old now r → record {
  counted : CountsGrants g old new r;
  reads : ReadsWorld g old new r (FindsAt granted_of) IsCreditCountable;
}
grants_at g old now new r same it = let at = subst (λ h. WalksGrants g old h r) same it in record { counted = at.counted; reads = at.reads }

-- they are summed over what was there before, unchanged
pub summed_since : (first old new : State) (granted : Granted) → IsUnchanged first old → CountsCredit old new granted → CountsCredit first new granted
summed_since first old new granted before it = record { rows = it.rows; shown = shown_since credit_asked.text credit_question.select [] it.rows first old new before it.shown; credits = it.credits; read = it.read; counted = it.counted }

module _ {S : Type 0} (g : Ghosts S) (old : Held S) where
  pub none_summed : (new : Held S) → (old.in_transaction ≡ false → new.in_transaction ≡ false) → Survives (state g old) (state g new) (CommitsShowing credit_asked.text [] (state g old)) → (HasCleanDisk (state g new) → HasBegun g credit_asked.text [] old new)
      → HasSummed g old new 0 0 0
  none_summed new mode survives begun = record { given = []; walk = walk_begins g credit_asked.text credit_question.select [] old new mode survives begun; credits = []; read = refl; counted = refl; many = refl; summed = refl }

  module _ (now : Held S) (counter grants credit : ℕ) (has : HasSummed g old now counter grants credit) (new : Held S) (mode : now.in_transaction ≡ false → new.in_transaction ≡ false) (survives : Survives (state g now) (state g new) (λ _. ⊥)) (next : Option Row)
      (gives : HasCleanDisk (state g new) → Advances g now new next) (same : HasCleanDisk (state g new) → IsUnchanged (state g now) (state g new)) where
    pub grants_whole : next ≡ None → WalksGrants g old new (Ok (record { grants = grants; credit = credit }))
    grants_whole none =
        let ends = walk_ends g credit_asked.text credit_question.select [] old now has.given has.walk new mode survives next gives same none in
        let counted : ◌≡◌ {A = Granted} (record { grants = grants; credit = credit }) (record { grants = length has.credits; credit = sum has.credits }) = (λ i. record { grants = has.counted i; credit = has.summed i }) in
        walked_whole g granted_of IsCreditCountable CountsCredit credit_question old now has.given has.walk new mode survives next gives same _
        (λ clean. record { rows = has.given; shown = ends clean; credits = has.credits; read = has.read; counted = counted })
        (λ clean world stands.
        let all = credit_found (state g old) (state g new) world stands has.given (ends clean) in
        let first = has.counted ∙ sym (cells_long number has.given has.credits has.read) ∙ grants_counted world.grants has.given all in
        let second = has.summed ∙ sym (numbers_summed has.given has.credits has.read) ∙ credit_summed world.grants has.given all in
        (λ i. record { grants = first i; credit = second i }))

    module _ (row : Row) (is : next ≡ Some row) where
      further_on : IsWalked g credit_asked.text [] old new (has.given ++ row ∷ [])
      further_on = walk_on g credit_asked.text credit_question.select [] old now has.given has.walk new mode survives next gives same row is

      -- a row that has no number, and a sum that is too great
      pub credit_unread : (fault : Fault) → Restores number (λ _. ⊤) (column row 0) (Err fault) → WalksGrants g old new (Err fault)
      credit_unread fault unread = walked_left g granted_of IsCreditCountable CountsCredit credit_question old new (has.given ++ row ∷ []) further_on fault unread.refused (λ clean world stands can.
          let front = walk_front the_table.Grant credit_asked credit_fits g credit_question.select [] old new (has.given ++ row ∷ []) further_on world tt stands clean in
          let has_credit = next_credit world.grants has.given row front.0 (credit_found (state g old) (state g new) world stands ((has.given ++ row ∷ []) ++ front.0) front.1) in
          never_unread number (λ _. ⊤) (column row 0) (Err fault) has_credit.0 unread tt has_credit.1)

      module _ (n : ℕ) (reads : column row 0 ≡ number n) where
        pub one_summed : (more total : ℕ) → more ≡ grants + 1 → total ≡ credit + n → HasSummed g old new (counter + 1) more total
        one_summed more total next_one adds = record {
          given = has.given ++ row ∷ [];
          walk = further_on;
          credits = has.credits ++ n ∷ [];
          read = cells_more number has.given row has.credits n has.read reads;
          counted = omega (arith, length-append has.credits (n ∷ []), has.counted, next_one);
          many = omega (arith, has.many, next_one);
          summed = omega (arith, adds, has.summed, numbers_more has.credits n);
        }

        pub credit_past : 2 ^ 64 ≤ credit + n → WalksGrants g old new (Err NotAProject)
        credit_past past = walked_left g granted_of IsCreditCountable CountsCredit credit_question old new (has.given ++ row ∷ []) further_on NotAProject (inr refl) (λ clean world stands can.
            let front = walk_front the_table.Grant credit_asked credit_fits g credit_question.select [] old new (has.given ++ row ∷ []) further_on world tt stands clean in
            let all = credit_summed world.grants ((has.given ++ row ∷ []) ++ front.0) (credit_found (state g old) (state g new) world stands ((has.given ++ row ∷ []) ++ front.0) front.1) in
            absurd (omega (arith, past, can, all, has.summed, numbers_summed has.given has.credits has.read, sum_within has.given row front.0 n reads)))
