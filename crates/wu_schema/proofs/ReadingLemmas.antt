-- How columns and rows read as values, step by step.
use Rattle.wu_schema.proofs.Words.{IsErrAnd, Blob, Err, Fault, IsOrWantsMemory, IfErr, IfOk, ImportKind, Instance, Int, List, None, NotAProject, Null, Ok, Option, Result, Row, Some, Text, Value, Workunit, [], add-one, ap, arith, column, drop, get_or, inl, inr, instance_row, last_skip, length, length-map, map, map-append, number, number_or_null, pos, refl, subst, suc, sym, take, text_or_null, verdict_digits, workunit_row, zero, ℕ, ⊤, ◌++◌, ◌+◌, ◌-◌, ◌<◌, ◌^◌, ◌∙◌, ◌∷◌, ◌≡◌, ◌≢◌, ◌≤◌, ◌⊎◌}
use Rattle.wu_core.specs.Formed.{IsInstance}
use Rattle.wu_core.specs.Storable.{IsStoredInstance, AreVerdicts, IsClass, IsDeadline, IsMoment, IsHost, IsInput, IsName, IsPlace, IsStoredWorkunit, IsOutput, IsStoredArchived}
use Rattle.wu_core.specs.declared.mask.ErrorMask.{ErrorMask}
use Rattle.wu_core.specs.declared.workunit.Archived.{Archived}
use Rattle.wu_core.specs.declared.workunit.HostClass.{HostClass}
use Rattle.wu_schema.specs.Stored.{archived_cells, class_cells}
use Rattle.std.specs.Option.{ok_or}
use Rattle.std.specs.Prelude.{MatchOption}
use Rattle.wu_core.specs.Codes.{Decodes}
use Rattle.std.proofs.lemmas.List.{take_more, get_or-map}
use Rattle.std.proofs.lemmas.List.FromFn.{get_or-map-range_with_len}
use Rattle.std.specs.List.{range_with_len}
use Rattle.wu_core.specs.declared.fault.Fault.TheVariants.{Memory}
use Rattle.wu_core.specs.Parameters.{Parameters, IsParameters}
use Rattle.wu_core.specs.Limits.{last_moment}
use Rattle.wu_schema.specs.declared.rows.Moments.{Moments}
use Rattle.wu_schema.specs.declared.rows.Progress.{Progress}
use Rattle.wu_schema.specs.declared.rows.States.{States}
use Rattle.wu_schema.specs.declared.rows.StoredImport.{StoredImport}
use Rattle.wu_core.specs.declared.states.FileDelete.{FileDelete}
use Rattle.wu_core.specs.declared.states.Outcome.{Outcome}
use Rattle.wu_core.specs.declared.states.ServerState.{ServerState}
use Rattle.wu_core.specs.declared.states.ValidateState.{ValidateState}
use Rattle.wu_schema.specs.Stored.{parameter_cells}
use Rattle.wu_schema.specs.Restoring.{Restores}
use Rattle.wu_schema.specs.Reading.{bare_instance_row, IsBareInstance, HasStoredVerdicts, file_delete_cell, outcome_cell, server_state_cell, stored_import_row, validate_state_cell, verdicts_cell, moment_cells, state_cells, columns, progress_cells, IsProgress, mask_cell, HasMoments, host_row, IsStoredHost, IsStoredHostClass}

-- a value that can't be read is none that is stored so
pub unread : {T C : Type 0} (stored_as : T → C) (IsValue : T → Type 0) (stored : C) (fault : Fault)
    → (fault ≡ Memory) ⊎ ((fault ≡ NotAProject) × ((value : T) → IsValue value → stored ≢ stored_as value))
    → Restores stored_as IsValue stored (Err fault)
unread stored_as IsValue stored fault (inl memory) = record { value = tt; found = λ value is same. inr (ap (λ f. Err f) memory); refused = inl memory }
unread stored_as IsValue stored fault (inr none) = record { value = tt; found = λ value is same. absurd (none.1 value is same); refused = inr none.0 }

-- what is stored as one value alone is read as it
pub read_as : {T C : Type 0} {stored_as : T → C} {IsValue : T → Type 0} {stored : C} {read : T} → (stored ≡ stored_as read) × IsValue read → ((value : T) → IsValue value → stored ≡ stored_as value → read ≡ value) → Restores stored_as IsValue stored (Ok read)
read_as value only = record { value = value; found = λ other is same. inl (ap (λ v. Ok v) (only other is same)); refused = tt }

-- the number of a code is that of what it is decoded as, and else of nothing
pub code_restored : {T : Type 0} (code_of : T → ℕ) (v : Value) (n : ℕ) → v ≡ number n → (o : Option T) → Decodes code_of n o → (r : Result T Fault) → r ≡ ok_or o NotAProject → Restores (λ (t : T). number (code_of t)) (λ _. ⊤) v r
code_restored {T} code_of v n is (Some t) decodes r read = subst (λ q. Restores (λ (t : T). number (code_of t)) (λ _. ⊤) v q) (sym read) (record {
  value = (is ∙ ap number (sym decodes.coded), tt);
  found = λ u any same. inl (let code : n ≡ code_of u = let e : number n ≡ number (code_of u) = sym is ∙ same in cc in let found : Some t ≡ Some u = decodes.found u (sym code) in cc);
  refused = tt;
})
code_restored {T} code_of v n is None decodes r read = subst (λ q. Restores (λ (t : T). number (code_of t)) (λ _. ⊤) v q) (sym read) (record {
  value = tt;
  found = λ u any same. absurd (let code : n ≡ code_of u = let e : number n ≡ number (code_of u) = sym is ∙ same in cc in let found : None ≡ Some u = decodes.found u (sym code) in cc);
  refused = inr refl;
})

pub place_restores : (P : Type 0) → P → (v : Value) (r : Result (Option ℕ) Fault)
    → IfOk r (λ o. MatchOption o (v ≡ Null) (λ n. (v ≢ Null) × (v ≡ Int (pos n))))
    → IfErr r (λ f. (f ≡ Memory) ⊎ ((f ≡ NotAProject) × (P → ¬ ((v ≡ Null) ⊎ ((n : ℕ) × (v ≡ Int (pos n)) × (n < 2 ^ 32))))))
    → IfOk r IsPlace → Restores number_or_null IsPlace v r
place_restores P p v (Ok None) ok err fits = record { value = (ok, tt); found = none; refused = tt }
  where
    none : (o : Option ℕ) → IsPlace o → v ≡ number_or_null o → IsOrWantsMemory (Ok None) (Ok o)
    none None is same = inl refl
    none (Some n) is same = absurd cc
place_restores P p v (Ok (Some n)) ok err fits = record { value = (ok.1, fits); found = some; refused = tt }
  where
    some : (o : Option ℕ) → IsPlace o → v ≡ number_or_null o → IsOrWantsMemory (Ok (Some n)) (Ok o)
    some None is same = absurd (ok.0 same)
    some (Some m) is same = inl cc
place_restores P p v (Err f) ok err fits = unread number_or_null IsPlace v f (elim err [ inl memory ↦ inl memory | inr unreadable ↦ inr (unreadable.0, λ o is same. unreadable.1 p (readable o is same)) ])
  where
    readable : (o : Option ℕ) → IsPlace o → v ≡ number_or_null o → (v ≡ Null) ⊎ ((n : ℕ) × (v ≡ Int (pos n)) × (n < 2 ^ 32))
    readable None is same = inl same
    readable (Some n) is same = inr (n, same, is)

-- a host's class has cells of its own
pub same_class : (a b : HostClass) → class_cells a ≡ class_cells b → a ≡ b
same_class a b is =
    let host : a.host ≡ b.host = cc in
    let class : a.class ≡ b.class = cc in
    (λ i. record { host = host i; class = class i })

next_column : (v : Value) (row : Row) (a : ℕ) → column (v ∷ row) (a + 1) ≡ column row a
next_column v row a = rw add-one refl

pub shifted : (v : Value) (row : Row) (a n : ℕ) → map (column (v ∷ row)) (range_with_len (a + 1) n) ≡ map (column row) (range_with_len a n)
shifted v row a zero = refl
shifted v row a (suc n) = rw (next_column v row a, shifted v row (a + 1) n) refl

-- a row is its columns
pub as_columns : (row : Row) → map (column row) (range_with_len 0 (length row)) ≡ row
as_columns [] = refl
as_columns (v ∷ row) = ap (λ rest. v ∷ rest) (shifted v row 0 (length row) ∙ as_columns row)

pub whole_row : (n : ℕ) (row : Row) → length row ≡ n → columns row 0 n ≡ row
whole_row n row long = subst (λ k. map (column row) (range_with_len 0 k) ≡ row) long (as_columns row)

-- some of some columns are columns of the row
pub column_of : (row : Row) (from count at : ℕ) → at < count → column (columns row from count) at ≡ column row (from + at)
column_of row from count at low = get_or-map-range_with_len (column row) from count at (from + at) Null low refl

pub columns_of : (row : Row) (from count at few : ℕ) → at + few ≤ count → columns (columns row from count) at few ≡ columns row (from + at) few
columns_of row from count at zero within = refl
columns_of row from count at (suc few) within =
    let here = column_of row from count at (omega (arith, within)) in
    let rest = columns_of row from count (at + 1) few (omega (arith, within)) in
    let next : from + (at + 1) ≡ (from + at) + 1 = omega arith in
    (λ i. here i ∷ (rest ∙ ap (λ n. columns row n few) next) i)

module _ {T : Type 0} {stored_as : T → Value} {IsValue : T → Type 0} {r : Result T Fault} where
  -- what a column of the row reads as, it reads as among them
  pub read_of : (row : Row) (from count at : ℕ) → at < count → Restores stored_as IsValue (column row (from + at)) r → Restores stored_as IsValue (column (columns row from count) at) r
  read_of row from count at low = subst (λ v. Restores stored_as IsValue v r) (sym (column_of row from count at low))

module _ {T : Type 0} {stored_as : T → Row} {IsValue : T → Type 0} {r : Result T Fault} where
  -- and so some columns
  pub read_part : (row : Row) (from count at few : ℕ) → at + few ≤ count → Restores stored_as IsValue (columns row (from + at) few) r → Restores stored_as IsValue (columns (columns row from count) at few) r
  read_part row from count at few within = subst (λ cs. Restores stored_as IsValue cs r) (sym (columns_of row from count at few within))

-- the progress of a workunit
abbrev progress_of : Workunit → Progress
progress_of w = record { error_mask = w.error_mask; canonical = w.canonical; assimilate = w.assimilate; file_delete = w.file_delete; done_at = w.done_at }

pub not_ok : {T U : Type 0} (f : Fault) (t : T) (u : U) → IsOrWantsMemory (Err f) (Ok t) → IsOrWantsMemory (Err f) (Ok u)
not_ok f t u (inl ok) = absurd cc
not_ok f t u (inr memory) = let is : f ≡ Memory = cc in inr (ap (λ g. Err g) is)

pub ok_is : {T : Type 0} (a b : T) → IsOrWantsMemory (Ok a) (Ok b) → a ≡ b
ok_is a b (inl is) = cc
ok_is a b (inr memory) = absurd cc

-- a row with a part that can't be read is stored of nothing
part_unread : {T U : Type 0} (part : T → U) (row : Row) (from count : ℕ) (stored_as : T → Row) (cells : U → Row) (IsValue : T → Type 0) (IsPart : U → Type 0)
    → ((t : T) → IsValue t → IsPart (part t)) → ((t : T) → columns (stored_as t) from count ≡ cells (part t)) → (f : Fault) → Restores cells IsPart (columns row from count) (Err f) → Restores stored_as IsValue row (Err f)
part_unread part row from count stored_as cells IsValue IsPart are shown f unread = record {
  value = tt;
  found = λ t is same. not_ok f (part t) t (unread.found (part t) (are t is) (ap (λ r. columns r from count) same ∙ shown t));
  refused = unread.refused;
}

-- so is one with a column that can't be read, whatever hands the fault on
pub column_unread : {T U : Type 0} (part : T → U) (stored_as : T → Row) (cell : U → Value) (IsValue : T → Type 0) (IsPart : U → Type 0) (row : Row) (at : ℕ) → ((t : T) → IsValue t → IsPart (part t)) → ((t : T) → column (stored_as t) at ≡ cell (part t))
    → (fault : Fault) → Restores cell IsPart (column row at) (Err fault) → (r : Result T Fault) → IsErrAnd r (λ other. other ≡ fault) → Restores stored_as IsValue row r
column_unread part stored_as cell IsValue IsPart row at are shown fault unread (Ok t) same = absurd same
column_unread part stored_as cell IsValue IsPart row at are shown fault unread (Err other) same = subst (λ f. Restores stored_as IsValue row (Err f)) (sym same) (record {
  value = tt;
  found = λ t is stored. not_ok fault (part t) t (unread.found (part t) (are t is) (ap (λ r. column r at) stored ∙ shown t));
  refused = unread.refused;
})

pub workunit_unread : (row : Row) (f : Fault) → Restores progress_cells IsProgress (columns row 10 5) (Err f) → Restores workunit_row IsStoredWorkunit row (Err f)
workunit_unread row = part_unread progress_of row 10 5 workunit_row progress_cells IsStoredWorkunit IsProgress (λ w is. record { canonical = is.canonical; stamped = is.stamped }) (λ w. refl)

joined : (a b c d : Value) (ps qs rs ts : Row) (e g : Value) → a ≡ b → c ≡ d → ps ≡ qs → e ≡ g → rs ≡ ts → a ∷ c ∷ ps ++ (e ∷ rs) ≡ b ∷ d ∷ qs ++ (g ∷ ts)
joined a b c d ps qs rs ts e g first second third fourth fifth = rw (first, second, third, fourth, fifth) refl

module _ (row : Row) (n : ℕ) (name : List ℕ) (params : Parameters) (input : List ℕ) (progress : Progress) where
  abbrev read : Workunit
  read = record {
    number = n;
    name = name;
    params = params;
    input = input;
    error_mask = progress.error_mask;
    canonical = progress.canonical;
    assimilate = progress.assimilate;
    file_delete = progress.file_delete;
    done_at = progress.done_at;
    class = 0;
    instances = [];
  }

  -- a row whose columns read as these is that of this workunit alone
  pub workunit_read : length row ≡ 15 → Restores number (λ _. ⊤) (column row 0) (Ok n) → Restores Text IsName (column row 1) (Ok name)
      → Restores parameter_cells IsParameters (columns row 2 7) (Ok params) → Restores Blob IsInput (column row 9) (Ok input)
      → Restores progress_cells IsProgress (columns row 10 5) (Ok progress)
      → Restores workunit_row IsStoredWorkunit row (Ok read)
  workunit_read long number_is name_is params_are input_is progress_is =
      read_as (stored, record { name = name_is.value.1; parameters = params_are.value.1; input = input_is.value.1; canonical = progress_is.value.1.canonical; stamped = progress_is.value.1.stamped; bare = refl; classless = refl }) only
    where
      whole : column row 0 ∷ column row 1 ∷ columns row 2 7 ++ (column row 9 ∷ columns row 10 5) ≡ row
      whole = subst (λ k. map (column row) (range_with_len 0 k) ≡ row) long (as_columns row)

      stored : row ≡ workunit_row read
      stored = sym whole ∙ joined _ _ _ _ _ _ _ _ _ _ number_is.value.0 name_is.value.0 params_are.value.0 input_is.value.0 progress_is.value.0

      only : (w : Workunit) → IsStoredWorkunit w → row ≡ workunit_row w → read ≡ w
      only w is same =
          let a = ok_is n w.number (number_is.found w.number tt (ap (λ r. column r 0) same)) in
          let b = ok_is name w.name (name_is.found w.name is.name (ap (λ r. column r 1) same)) in
          let d = ok_is params w.params (params_are.found w.params is.parameters (ap (λ r. columns r 2 7) same)) in
          let e = ok_is input w.input (input_is.found w.input is.input (ap (λ r. column r 9) same)) in
          let g = ok_is progress (progress_of w) (progress_is.found (progress_of w) (record { canonical = is.canonical; stamped = is.stamped }) (ap (λ r. columns r 10 5) same)) in
          rw (a, b, d, e, g, ← is.bare, ← is.classless) refl

-- a digit that is no verdict of the kind stands in no text of verdicts
pub no_digit : (kind : ImportKind) (digits : List ℕ) (i : ℕ) → i < length digits → ((48 ≤ get_or digits i 0) × (get_or digits i 0 - 48 ≤ last_skip kind) → ⊥)
    → (verdicts : List ℕ) → AreVerdicts kind verdicts → digits ≢ verdict_digits verdicts
no_digit kind digits i low not verdicts are is =
    let within : i < length verdicts = subst (λ n. i < n) (ap (λ ds. length ds) is ∙ length-map verdicts (λ v. 48 + v)) low in
    let at : get_or digits i 0 ≡ 48 + get_or verdicts i 0 = ap (λ ds. get_or ds i 0) is ∙ get_or-map (λ v. 48 + v) verdicts i 0 0 within in
    let bound : get_or verdicts i 0 ≤ last_skip kind = are i 0 within in
    not (omega (arith, at), omega (arith, at, bound))

-- one more digit is one more verdict
pub verdicts_more : (verdicts digits : List ℕ) (i verdict : ℕ) → verdict_digits verdicts ≡ take i digits → i < length digits → 48 ≤ get_or digits i 0 → verdict ≡ get_or digits i 0 - 48
    → verdict_digits (verdicts ++ verdict ∷ []) ≡ take (i + 1) digits
verdicts_more verdicts digits i verdict so_far low digit is =
    let same : 48 + verdict ≡ get_or digits i 0 = omega (arith, digit, is) in
    map-append (λ v. 48 + v) verdicts (verdict ∷ []) ∙ ap (λ ds. ds ++ (48 + verdict) ∷ []) so_far ∙ ap (λ d. take i digits ++ d ∷ []) same ∙ sym (take_more digits i 0 low)

-- the verdicts of a text are unique
pub same_verdicts : (a b : List ℕ) → verdict_digits a ≡ verdict_digits b → a ≡ b
same_verdicts [] [] is = refl
same_verdicts [] (v ∷ b) is = absurd cc
same_verdicts (u ∷ a) [] is = absurd cc
same_verdicts (u ∷ a) (v ∷ b) is =
    let first : 48 + u ≡ 48 + v = ap (λ ds. get_or ds 0 0) is in
    let rest : verdict_digits a ≡ verdict_digits b = ap (λ ds. drop 1 ds) is in
    let same : u ≡ v = omega (arith, first) in
    rw (same, same_verdicts a b rest) refl

pub verdicts_restored : (kind : ImportKind) (digits verdicts : List ℕ) → verdict_digits verdicts ≡ digits → AreVerdicts kind verdicts → Restores verdict_digits (AreVerdicts kind) digits (Ok verdicts)
verdicts_restored kind digits verdicts is are = read_as (sym is, are) (λ others of_kind same. same_verdicts verdicts others (is ∙ same))

-- the states and the moments of an instance
abbrev states_of : Instance → States
states_of i = record { server_state = i.server_state; outcome = i.outcome; validate_state = i.validate_state; file_delete = i.file_delete }

abbrev moments_of : Instance → Moments
moments_of i = record { sent_at = i.sent_at; deadline = i.deadline; received_at = i.received_at }

pub states_unread : (row : Row) (f : Fault) → Restores state_cells (λ _. ⊤) (columns row 0 4) (Err f) → Restores bare_instance_row IsBareInstance row (Err f)
states_unread row = part_unread states_of row 0 4 bare_instance_row state_cells IsBareInstance (λ _. ⊤) (λ i is. tt) (λ i. refl)

pub moments_unread : (row : Row) (f : Fault) → Restores moment_cells HasMoments (columns row 5 3) (Err f) → Restores bare_instance_row IsBareInstance row (Err f)
moments_unread row = part_unread moments_of row 5 3 bare_instance_row moment_cells IsBareInstance HasMoments (λ i is. is.stored.values.moments) (λ i. refl)

-- four columns that read as these are those of these states alone
pub states_read : (row : Row) (a : ServerState) (b : Outcome) (d : ValidateState) (e : FileDelete) → Restores server_state_cell (λ _. ⊤) (column row 0) (Ok a) → Restores outcome_cell (λ _. ⊤) (column row 1) (Ok b)
    → Restores validate_state_cell (λ _. ⊤) (column row 2) (Ok d) → Restores file_delete_cell (λ _. ⊤) (column row 3) (Ok e)
    → Restores state_cells (λ _. ⊤) (columns row 0 4) (Ok (record { server_state = a; outcome = b; validate_state = d; file_delete = e }))
states_read row a b d e first second third fourth = read_as ((λ i. first.value.0 i ∷ second.value.0 i ∷ third.value.0 i ∷ fourth.value.0 i ∷ []), tt) (λ s is. only s)
  where
    only : (s : States) → columns row 0 4 ≡ state_cells s → ◌≡◌ {A = States} (record { server_state = a; outcome = b; validate_state = d; file_delete = e }) s
    only s same =
        let p = ok_is a s.server_state (first.found s.server_state tt (ap (λ r. column r 0) same)) in
        let q = ok_is b s.outcome (second.found s.outcome tt (ap (λ r. column r 1) same)) in
        let u = ok_is d s.validate_state (third.found s.validate_state tt (ap (λ r. column r 2) same)) in
        let v = ok_is e s.file_delete (fourth.found s.file_delete tt (ap (λ r. column r 3) same)) in
        (λ i. record { server_state = p i; outcome = q i; validate_state = u i; file_delete = v i })

-- and three those of these moments
pub moments_read : (row : Row) (a : Option ℕ) (b : Option ℕ) (d : Option ℕ) → Restores number_or_null IsMoment (column row 0) (Ok a) → Restores number_or_null IsDeadline (column row 1) (Ok b) → Restores number_or_null IsMoment (column row 2) (Ok d)
    → Restores moment_cells HasMoments (columns row 0 3) (Ok (record { sent_at = a; deadline = b; received_at = d }))
moments_read row a b d first second third =
    read_as ((λ i. first.value.0 i ∷ second.value.0 i ∷ third.value.0 i ∷ []), record { sent_at = first.value.1; deadline = second.value.1; received_at = third.value.1 }) (λ m is same.
    let p = ok_is a m.sent_at (first.found m.sent_at is.sent_at (ap (λ r. column r 0) same)) in
    let q = ok_is b m.deadline (second.found m.deadline is.deadline (ap (λ r. column r 1) same)) in
    let u = ok_is d m.received_at (third.found m.received_at is.received_at (ap (λ r. column r 2) same)) in
    (λ i. record { sent_at = p i; deadline = q i; received_at = u i }))

joined_three : (b : Value) (ps qs rs ts : Row) (d : Value) → ps ≡ qs → b ≡ d → rs ≡ ts → ps ++ (b ∷ rs) ≡ qs ++ (d ∷ ts)
joined_three b ps qs rs ts d first second third = rw (first, second, third) refl

module _ (row : Row) (states : States) (host : Option (List ℕ)) (moments : Moments) (output : List ℕ) (empty : output ≡ []) where
  abbrev read_instance : Instance
  read_instance = record {
    server_state = states.server_state;
    outcome = states.outcome;
    validate_state = states.validate_state;
    file_delete = states.file_delete;
    host = host;
    sent_at = moments.sent_at;
    deadline = moments.deadline;
    received_at = moments.received_at;
    output = output;
  }

  module _ (states_are : Restores state_cells (λ _. ⊤) (columns row 0 4) (Ok states)) (host_is : Restores text_or_null IsHost (column row 4) (Ok host)) (moments_are : Restores moment_cells HasMoments (columns row 5 3) (Ok moments)) where
    only_read : (i : Instance) → IsBareInstance i → columns row 0 8 ≡ bare_instance_row i → read_instance ≡ i
    only_read i is same =
        let a = ok_is states (states_of i) (states_are.found (states_of i) tt (ap (λ r. columns r 0 4) same)) in
        let b = ok_is host i.host (host_is.found i.host is.stored.values.host (ap (λ r. column r 4) same)) in
        let d = ok_is moments (moments_of i) (moments_are.found (moments_of i) is.stored.values.moments (ap (λ r. columns r 5 3) same)) in
        rw (a, b, d, empty, ← is.bare) refl

    -- eight columns that read as these are those of this instance alone, where it is well formed
    pub formed_read : IsInstance read_instance → Restores bare_instance_row IsBareInstance (columns row 0 8) (Ok read_instance)
    formed_read formed = read_as (
      joined_three _ _ _ _ _ _ states_are.value.0 host_is.value.0 moments_are.value.0,
      record { stored = record { values = record { host = host_is.value.1; moments = moments_are.value.1; output = subst IsOutput (sym empty) (omega arith) }; formed = formed }; bare = empty },
    ) only_read

    -- and where it is not, those of none
    pub unformed_read : (IsInstance read_instance → ⊥) → Restores bare_instance_row IsBareInstance (columns row 0 8) (Err NotAProject)
    unformed_read unformed = record {
      value = tt;
      found = λ i is same. absurd (unformed (subst IsInstance (sym (only_read i is same)) is.stored.formed));
      refused = inr refl;
    }

-- an instance with an output, and without it
abbrev with_output : Instance → List ℕ → Instance
with_output i output = record i { output = output }

same_formed : (i : Instance) (output : List ℕ) → IsInstance i → IsInstance (with_output i output)
same_formed i output is = record { sent_with_host = is.sent_with_host; due_with_host = is.due_with_host; unsent = is.unsent; in_progress = is.in_progress; success = is.success }

pub is_bare : (i : Instance) → IsStoredInstance i → IsBareInstance (with_output i [])
is_bare i is = record { stored = record { values = record { host = is.values.host; moments = is.values.moments; output = omega arith }; formed = same_formed i [] is.formed }; bare = refl }

module _ (row : Row) where
  pub instance_unread : (f : Fault) → Restores bare_instance_row IsBareInstance (columns row 0 8) (Err f) → Restores instance_row IsStoredInstance row (Err f)
  instance_unread = part_unread (λ i. with_output i []) row 0 8 instance_row bare_instance_row IsStoredInstance IsBareInstance is_bare (λ i. refl)

  -- a row whose columns read as these is that of this instance alone
  pub instance_read : (i : Instance) (output : List ℕ) → length row ≡ 9 → Restores bare_instance_row IsBareInstance (columns row 0 8) (Ok i) → Restores Blob IsOutput (column row 8) (Ok output) → Restores instance_row IsStoredInstance row (Ok (with_output i output))
  instance_read i output long instance_is output_is = read_as (
    sym (whole_row 9 row long) ∙ (λ k. instance_is.value.0 k ++ output_is.value.0 k ∷ []),
    let is = instance_is.value.1.stored in record { values = record { host = is.values.host; moments = is.values.moments; output = output_is.value.1 }; formed = same_formed i output is.formed },
  ) only
    where
      only : (j : Instance) → IsStoredInstance j → row ≡ instance_row j → with_output i output ≡ j
      only j is same =
          let a = ok_is i (with_output j []) (instance_is.found (with_output j []) (is_bare j is) (ap (λ r. columns r 0 8) same)) in
          let b = ok_is output j.output (output_is.found j.output is.values.output (ap (λ r. column r 8) same)) in
          (λ k. with_output (a k) (b k))

-- ---- hosts

-- a row whose columns read as these is that of this host's sum alone
module _ (row : Row) (name : List ℕ) (total grants : ℕ) where
  pub host_read : length row ≡ 3 → Restores Text IsName (column row 0) (Ok name) → Restores number (λ _. ⊤) (column row 1) (Ok total) → Restores number (λ _. ⊤) (column row 2) (Ok grants) → Restores host_row IsStoredHost row (Ok (record { name = name; total = total; grants = grants }))
  host_read long name_is total_is grants_are =
      read_as (sym (whole_row 3 row long) ∙ (λ i. name_is.value.0 i ∷ total_is.value.0 i ∷ grants_are.value.0 i ∷ []), name_is.value.1) (λ h is same.
      let a = ok_is name h.name (name_is.found h.name is (ap (λ r. column r 0) same)) in
      let b = ok_is total h.total (total_is.found h.total tt (ap (λ r. column r 1) same)) in
      let d = ok_is grants h.grants (grants_are.found h.grants tt (ap (λ r. column r 2) same)) in
      (λ i. record { name = a i; total = b i; grants = d i }))

-- and one with a class is that of this host and class
module _ (row : Row) (host : List ℕ) (class : ℕ) where
  pub host_class_read : length row ≡ 2 → Restores Text IsName (column row 0) (Ok host) → Restores number IsClass (column row 1) (Ok class) → Restores class_cells IsStoredHostClass row (Ok (record { host = host; class = class }))
  host_class_read long host_is class_is =
      read_as (sym (whole_row 2 row long) ∙ (λ i. host_is.value.0 i ∷ class_is.value.0 i ∷ []), record { host = host_is.value.1; class = class_is.value.1 }) (λ it is same.
      let a = ok_is host it.host (host_is.found it.host is.host (ap (λ r. column r 0) same)) in
      let b = ok_is class it.class (class_is.found it.class is.class (ap (λ r. column r 1) same)) in
      (λ i. record { host = a i; class = b i }))

-- ---- an archived workunit

module _ (n : ℕ) (name : List ℕ) (mask : ErrorMask) (canonical : Option ℕ) (output : List ℕ) (done_at : ℕ) where
  abbrev read_archived : Archived
  read_archived = record { number = n; name = name; error_mask = mask; canonical = canonical; output = output; done_at = done_at }

  -- cells that read as these are those of this archived workunit alone
  pub archived_cells_read : (u v w x y z : Value) → Restores number (λ _. ⊤) u (Ok n) → Restores Text IsName v (Ok name) → Restores mask_cell (λ _. ⊤) w (Ok mask) → Restores number_or_null IsPlace x (Ok canonical)
      → Restores Blob IsOutput y (Ok output) → Restores number (λ seconds. seconds ≤ last_moment) z (Ok done_at)
      → Restores archived_cells IsStoredArchived (u ∷ v ∷ w ∷ x ∷ y ∷ z ∷ []) (Ok read_archived)
  archived_cells_read u v w x y z number_is name_is mask_is canonical_is output_is done_is =
      read_as (stored, record { name = name_is.value.1; canonical = canonical_is.value.1; output = output_is.value.1; done_at = done_is.value.1 }) only
    where
      stored : u ∷ v ∷ w ∷ x ∷ y ∷ z ∷ [] ≡ archived_cells read_archived
      stored = λ i. number_is.value.0 i ∷ name_is.value.0 i ∷ mask_is.value.0 i ∷ canonical_is.value.0 i ∷ output_is.value.0 i ∷ done_is.value.0 i ∷ []

      only : (a : Archived) → IsStoredArchived a → u ∷ v ∷ w ∷ x ∷ y ∷ z ∷ [] ≡ archived_cells a → read_archived ≡ a
      only a is same =
          let b = ok_is n a.number (number_is.found a.number tt (ap (λ r. column r 0) same)) in
          let d = ok_is name a.name (name_is.found a.name is.name (ap (λ r. column r 1) same)) in
          let e = ok_is mask a.error_mask (mask_is.found a.error_mask tt (ap (λ r. column r 2) same)) in
          let g = ok_is canonical a.canonical (canonical_is.found a.canonical is.canonical (ap (λ r. column r 3) same)) in
          let h = ok_is output a.output (output_is.found a.output is.output (ap (λ r. column r 4) same)) in
          let k = ok_is done_at a.done_at (done_is.found a.done_at is.done_at (ap (λ r. column r 5) same)) in
          rw (b, d, e, g, h, k) refl

-- ---- what is kept of an import

-- a row whose columns read as these is that of this import alone
pub import_row_read : (kind : ImportKind) (row : Row) (template content verdicts : List ℕ) (first : ℕ) → length row ≡ 4 → Restores Blob (λ _. ⊤) (column row 0) (Ok template) → Restores Blob (λ _. ⊤) (column row 1) (Ok content)
    → Restores number (λ _. ⊤) (column row 2) (Ok first) → Restores verdicts_cell (AreVerdicts kind) (column row 3) (Ok verdicts)
    → Restores stored_import_row (HasStoredVerdicts kind) row (Ok (record { template = template; content = content; first_number = first; verdicts = verdicts }))
import_row_read kind row template content verdicts first long template_is content_is first_is verdicts_are =
    read_as (sym whole ∙ (λ i. template_is.value.0 i ∷ content_is.value.0 i ∷ first_is.value.0 i ∷ verdicts_are.value.0 i ∷ []), verdicts_are.value.1) only
  where
    whole : column row 0 ∷ column row 1 ∷ column row 2 ∷ column row 3 ∷ [] ≡ row
    whole = subst (λ k. map (column row) (range_with_len 0 k) ≡ row) long (as_columns row)

    only : (s : StoredImport) → HasStoredVerdicts kind s → row ≡ stored_import_row s → ◌≡◌ {A = StoredImport} (record { template = template; content = content; first_number = first; verdicts = verdicts }) s
    only s is same =
        let p = ok_is template s.template (template_is.found s.template tt (ap (λ r. column r 0) same)) in
        let q = ok_is content s.content (content_is.found s.content tt (ap (λ r. column r 1) same)) in
        let u = ok_is first s.first_number (first_is.found s.first_number tt (ap (λ r. column r 2) same)) in
        let v = ok_is verdicts s.verdicts (verdicts_are.found s.verdicts is (ap (λ r. column r 3) same)) in
        (λ i. record { template = p i; content = q i; first_number = u i; verdicts = v i })
