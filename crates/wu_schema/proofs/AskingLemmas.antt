-- From question to question.
use Rattle.wu_schema.proofs.Words.{IsTrue, Command, CommitsShowing, CompileError, Database, FailsToShow, Option, Program, Shown, Vec, Err, Error, FailsToQuery, Fault, Ghosts, HasCleanDisk, Held, IfErr, IsBack, IsNotRun, IsUnchanged, List, Ok, Refines, OnOk, Result, Row, State, StoreError, Survives, World, ap, arith, false, fault_of, inl, inr, refl, state, store_error, subst, sym, ℕ, ◌∙◌, ◌≡◌, ◌≢◌, ◌≤◌, ◌⊎◌}
use Rattle.wu_core.specs.declared.fault.Fault.TheVariants.{Broken, NotAProject}
use Rattle.sqlite.proofs.StateLemmas.{survives_then}
use Rattle.sqlite.specs.Command.TheVariants as command
use Rattle.sqlite.specs.declared.error.Error.TheVariants.{SqlInputError, SqliteFailure}
use Rattle.sqlite.specs.declared.error.ErrorCode.{ErrorCode}
use Rattle.sqlite.specs.declared.error.ErrorCode.TheVariants as code
use Rattle.sqlite_resolve.specs.declared.error.CompileError.TheVariants as compile
use Rattle.sqlite_syntax.specs.declared.error.ParseError.TheVariants as parse
use Rattle.sqlite.specs.State.{HasCause, IsNoStatement}
use Rattle.sqlite.specs.Effect.{RefusesQuery, RefusesToRead}
use Rattle.sqlite.specs.Clock.{timed}
use Rattle.sqlite_disk.specs.Disk.{MoreFaults}
use Rattle.sqlite_trees.specs.declared.error.StoreError.TheVariants as kind
use Rattle.wu_schema.specs.Asking.{Asks, IsAsBefore, IsSelect, ServesUnlessFailed}
use Rattle.wu_schema.specs.Calls.{BreaksBetween, HasBroken}
use Rattle.wu_schema.specs.Faults.{IsFailure, IsStoreFault}
use Rattle.wu_schema.proofs.CallLemmas.{back_none, back_unchanged}
use Rattle.wu_schema.proofs.ReadLemmas.{failed_back, reads_survive, shown_unchanged, shows_none}
use Rattle.wu_schema.proofs.VersionLemmas.{query_serves}

-- ---- nothing asked

pub survives_none : (s : State) → Survives s s (λ _. ⊥)
survives_none s = record { clean = omega arith; shield = λ h. h; counts = omega arith; limit = refl; closes = λ _ still. inl still; crash = λ _ db h. inl h }

-- what is answered or refused before anything is asked
pub asks_none : {S T : Type 0} (g : Ghosts S) (h : Held S) (r : Result T Fault) → r ≢ Err Broken → Asks g h h r
asks_none g h (Ok x) other = record { mode = λ idle. idle; crash = survives_none (state g h); answered = λ clean. inl refl; refused = λ clean. tt; back = λ clean. back_none (state g h); broken = λ clean is. absurd (other is) }
asks_none g h (Err fault) other = record { mode = λ idle. idle; crash = survives_none (state g h); answered = λ clean. tt; refused = λ clean. inr (inl refl); back = λ clean. back_none (state g h); broken = λ clean is. absurd (other is) }

-- ---- one after another

pub back_then : (a b c : State) → IsBack a b → IsBack b c → IsBack a c
back_then a b c one two = record {
  was_open = λ is_open. one.was_open (two.was_open is_open);
  now = λ is_open. elim (two.now is_open) [
    | inl same ↦ elim (one.now (two.was_open is_open)) [ inl was ↦ inl (same ∙ was) | inr last ↦ inr (same ∙ last) ]
    | inr last ↦ inr (last ∙ one.committed (two.was_open is_open))
  ];
  committed = λ is_open. two.committed is_open ∙ one.committed (two.was_open is_open);
}

pub unchanged_then : (a b c : State) → IsUnchanged a b → IsUnchanged b c → IsUnchanged a c
unchanged_then a b c one two = (
  record {
    was_open = one.0.was_open;
    is_open = two.0.is_open;
    now_is = two.0.now_is ∙ one.0.now_is;
    committed_is = two.0.committed_is ∙ one.0.committed_is;
    mode = two.0.mode ∙ one.0.mode;
  },
  record { changes = two.1.changes ∙ one.1.changes; last_rowid = two.1.last_rowid ∙ one.1.last_rowid },
  two.2 ∙ one.2,
)

-- what is counted of faults only rises
more_later : (a b c : ℕ) → a ≤ b → MoreFaults b c → MoreFaults a c
more_later a b c rises more = omega (arith, rises, more)

module _ {S : Type 0} (g : Ghosts S) (a b c : Held S) where
  as_before_then : IsAsBefore g a b → IsAsBefore g b c → IsAsBefore g a c
  as_before_then one (inl same) = subst (λ h. IsAsBefore g a h) (sym same) one
  as_before_then (inl same) (inr two) = inr (subst (λ h. IsUnchanged (state g h) (state g c)) same two)
  as_before_then (inr one) (inr two) = inr (unchanged_then (state g a) (state g b) (state g c) one two)

  -- what broke after an answer broke over what was before it
  broke_then : (state g a).faults ≤ (state g b).faults → IsAsBefore g a b → HasBroken g b c → HasBroken g a c
  broke_then rises one (inl more) = inl (more_later (state g a).faults (state g b).faults (state g c).faults rises more)
  broke_then rises (inl same) (inr shut) = inr (subst (λ h. (state g h).is_open ≡ false) same shut)
  broke_then rises (inr one) (inr shut) = absurd (let still = one.0.is_open in cc)

  -- a question that was answered, and what was asked then
  pub asks_then : {T U : Type 0} (x : T) → Asks g a b (Ok x) → (r : Result U Fault) → Asks g b c r → Asks g a c r
  asks_then {T} {U} x one r two = record {
    mode = λ idle. two.mode (one.mode idle);
    crash = survives_then (state g a) (state g b) (state g c) _ _ (λ _. ⊥) (λ _ db none. none) (λ _ db none. none) one.crash two.crash;
    answered = λ clean. ok_with r _ _ (λ h. as_before_then (one.answered (before clean)) h) (two.answered clean);
    refused = λ clean. err_with r _ _ (λ fault h. elim h [ inl failed ↦ inl failed | inr same ↦ inr (as_before_then (one.answered (before clean)) same) ]) (two.refused clean);
    back = λ clean. back_then (state g a) (state g b) (state g c) (one.back (before clean)) (two.back clean);
    broken = λ clean is. broke_then one.crash.counts (one.answered (before clean)) (two.broken clean is);
  }
    where
      before : HasCleanDisk (state g c) → HasCleanDisk (state g b)
      before clean = omega (arith, two.crash.clean)

      ok_with : (r : Result U Fault) (P Q : Type 0) → (P → Q) → OnOk r P → OnOk r Q
      ok_with (Ok y) P Q f h = f h
      ok_with (Err e) P Q f h = tt

      err_with : (r : Result U Fault) (P Q : Fault → Type 0) → ((e : Fault) → P e → Q e) → IfErr r P → IfErr r Q
      err_with (Ok y) P Q f h = tt
      err_with (Err e) P Q f h = f e h

-- after an answer the tables are what they were
pub asks_now : {S T : Type 0} (g : Ghosts S) (old new : Held S) (x : T) → Asks g old new (Ok x) → HasCleanDisk (state g new) → (state g new).now ≡ (state g old).now
asks_now g old new x it clean = elim (it.answered clean) [ inl same ↦ ap (λ h. (state g h).now) same | inr same ↦ same.0.now_is ]

pub asks_stands : {S T : Type 0} (g : Ghosts S) (old new : Held S) (x : T) → Asks g old new (Ok x) → HasCleanDisk (state g new) → (world : World) → Refines (state g old).now world → Refines (state g new).now world
asks_stands g old new x it clean world stands = subst (λ (d : Database). Refines d world) (sym (asks_now g old new x it clean)) stands

-- where the connection is open after a question it was asked, and all is as it was
as_before_open : {S : Type 0} (g : Ghosts S) (old new : Held S) → IsAsBefore g old new → IsTrue (state g new).is_open → IsUnchanged (state g old) (state g new)
as_before_open g old new (inl same) is_open =
    subst (λ h. IsUnchanged (state g h) (state g new)) same (record { was_open = is_open; is_open = is_open; now_is = refl; committed_is = refl; mode = refl }, record { changes = refl; last_rowid = refl }, refl)
as_before_open g old new (inr same) is_open = same

pub asks_unchanged : {S T : Type 0} (g : Ghosts S) (old new : Held S) (x : T) → Asks g old new (Ok x) → ServesUnlessFailed g new (Ok x) → HasCleanDisk (state g new) → IsUnchanged (state g old) (state g new)
asks_unchanged g old new x it opens clean = as_before_open g old new (it.answered clean) (opens clean)

pub never_failed : (fault : Fault) → fault ≡ NotAProject → ¬ IsFailure fault
never_failed fault is (inl memory) = absurd (let no = sym is ∙ memory in cc)
never_failed fault is (inr broken) = absurd (let no = sym is ∙ broken in cc)

pub asks_refused : {S T : Type 0} (g : Ghosts S) (old new : Held S) (fault : Fault) → Asks {T = T} g old new (Err fault) → (HasCleanDisk (state g new) → IsFailure fault ⊎ IsTrue (state g new).is_open) → HasCleanDisk (state g new)
    → fault ≡ NotAProject → IsUnchanged (state g old) (state g new)
asks_refused g old new fault it opens clean is = elim (it.refused clean) [
  | inl failed ↦ absurd (never_failed fault is failed)
  | inr same ↦ as_before_open g old new same (elim (opens clean) [ inl failed ↦ absurd (never_failed fault is failed) | inr still ↦ still ])
]

module _ {S T U : Type 0} (g : Ghosts S) (a b : Held S) where
  -- a fault that is handed on
  pub asks_fault : (fault : Fault) → Asks {T = T} g a b (Err fault) → Asks {T = U} g a b (Err fault)
  asks_fault fault it = record { mode = it.mode; crash = it.crash; answered = λ clean. tt; refused = it.refused; back = it.back; broken = λ clean is. it.broken clean (ap Err (let same = is in cc)) }

  -- what is made of an answer with no further question, but for a failure of the disk
  pub asks_made : (x : T) (r : Result U Fault) → r ≢ Err Broken → Asks g a b (Ok x) → Asks g a b r
  asks_made x (Ok y) other it = record { mode = it.mode; crash = it.crash; answered = it.answered; refused = λ clean. tt; back = it.back; broken = λ clean is. absurd (other is) }
  asks_made x (Err fault) other it = record { mode = it.mode; crash = it.crash; answered = λ clean. tt; refused = λ clean. inr (it.answered clean); back = it.back; broken = λ clean is. absurd (other is) }

-- ---- one question

pub input_other : (fault : CompileError) → fault_of (SqlInputError fault) ≢ Broken
input_other compile.OutOfMemory is = absurd cc
input_other (compile.Parse parse.OutOfMemory) is = absurd cc
input_other (compile.Parse _) is = absurd cc
input_other _ is = absurd cc

pub told_other : (e f : Error) → e ≡ f → fault_of f ≢ Broken → fault_of e ≢ Broken
told_other e f same other is = other (ap fault_of (sym same) ∙ is)

query_other : (limit : Option ℕ) (db : Database) (p : Program) (params : Row) (e : Error) → RefusesQuery limit db p params e → fault_of e ≢ Broken
query_other limit db p params e (inl typed) = told_other e _ typed.0 (λ is. absurd cc)
query_other limit db p params e (inr (inl over)) = told_other e _ over.0 (λ is. absurd cc)
query_other limit db p params e (inr (inr stopped)) = told_other e _ stopped.0 (λ is. absurd cc)

read_other : (limit : Option ℕ) (command : Command) (db : Database) (params : Row) (e : Error) → RefusesToRead limit command db params e → fault_of e ≢ Broken
read_other limit (command.Select q names) db params e h = query_other limit db q params e h
read_other limit (command.Rows values width names) db params e h = told_other e _ h.0 (λ is. absurd cc)
read_other limit _ db params e h = told_other e _ h (λ is. absurd cc)

module _ (old new : State) (e : Error) where
  no_statement_other : (sql : List ℕ) (params : Row) → IsNoStatement old sql params e → fault_of e ≢ Broken
  no_statement_other sql params (inl input) = told_other e _ input.2 (input_other input.0)
  no_statement_other sql params (inr (c, read, inl many)) = told_other e _ many.1 (λ is. absurd cc)
  no_statement_other sql params (inr (c, read, inr (inl given))) = told_other e _ given.1 (λ is. absurd cc)
  no_statement_other sql params (inr (c, read, inr (inr timed))) = told_other e _ timed.1 (λ is. absurd cc)

  pub caused : {big : Type 0} → ¬ big → (cause : StoreError) → HasCause old new big cause → fault_of (store_error cause) ≡ Broken → BreaksBetween old new
  caused never kind.OutOfMemory has is = absurd cc
  caused never kind.Broken has is = inr has
  caused never kind.Unstorable has is = absurd (never has)
  caused never _ has is = inl has

  pub not_run_broke : (sql : List ℕ) (params : Row) → IsNotRun old new sql params e → fault_of e ≡ Broken → BreaksBetween old new
  unfolding IsNotRun
  not_run_broke sql params (inl refused) is = absurd (no_statement_other sql params refused.0 is)
  not_run_broke sql params (inr failed) is = caused (λ none. none) failed.0 failed.2 (ap fault_of (sym failed.1) ∙ is)

  -- a question fails so where the disk failed, or the connection was not open
  pub query_broke : (text : List ℕ) → IsSelect text → (params : Row) → FailsToQuery text params old new e → fault_of e ≡ Broken → BreaksBetween old new
  unfolding FailsToQuery
  query_broke text it params (inl h) is = not_run_broke text params h is
  query_broke text it params (inr h) is =
      let none = shows_none old.now.schema text it h.0 h.1.is in
      let failed = subst (λ r. FailsToShow old new text h.0 (timed params h.0.formats h.1.now) e r) none h.2 in
      absurd (read_other old.step_limit h.0.command failed.0 (timed params h.0.formats h.1.now) e failed.2 is)

input_told : (fault : CompileError) → IsStoreFault (fault_of (SqlInputError fault))
input_told compile.OutOfMemory = inl refl
input_told (compile.Parse parse.OutOfMemory) = inl refl
input_told (compile.Parse _) = inr (inr refl)
input_told _ = inr (inr refl)

code_told : (c : ErrorCode) → IsStoreFault (fault_of (SqliteFailure c))
code_told code.OutOfMemory = inl refl
code_told code.SystemIoFailure = inr (inl refl)
code_told code.DatabaseCorrupt = inr (inl refl)
code_told code.DiskFull = inr (inl refl)
code_told code.Closed = inr (inl refl)
code_told code.TooBig = inr (inl refl)
code_told _ = inr (inr refl)

pub fault_told : (e : Error) → IsStoreFault (fault_of e)
fault_told (SqliteFailure c) = code_told c
fault_told (SqlInputError fault) = input_told fault
fault_told _ = inr (inr refl)

-- an error that is told so leaves all as it was, or memory or the disk failed
unless_failed : (fault : Fault) → IsStoreFault fault → (P : Type 0) → (fault ≡ NotAProject → P) → IsFailure fault ⊎ P
unless_failed fault (inl memory) P f = inl (inl memory)
unless_failed fault (inr (inl broken)) P f = inl (inr broken)
unless_failed fault (inr (inr refused)) P f = inr (f refused)

module _ {S : Type 0} (g : Ghosts S) (text : List ℕ) (it : IsSelect text) (params : Row) (old new : Held S) (mode : old.in_transaction ≡ false → new.in_transaction ≡ false)
    (survives : Survives (state g old) (state g new) (CommitsShowing text params (state g old))) where
  -- a SELECT that is answered
  pub asks_shown : {A : Type 0} (rows : Vec Row A) → (HasCleanDisk (state g new) → Shown text params (state g old) (state g new) rows.items) → Asks g old new (Ok rows)
  asks_shown rows ok = record {
    mode = mode;
    crash = reads_survive text it params (state g old) (state g new) survives;
    answered = λ clean. inr (shown_unchanged text it params (state g old) (state g new) rows.items (ok clean));
    refused = λ clean. tt;
    back = λ clean. back_unchanged (state g old) (state g new) (shown_unchanged text it params (state g old) (state g new) rows.items (ok clean));
    broken = λ clean is. absurd cc;
  }

  -- and one that is not
  pub asks_failed : {T : Type 0} (e : Error) (fault : Fault) → fault ≡ fault_of e → (HasCleanDisk (state g new) → FailsToQuery text params (state g old) (state g new) e) → Asks {T = T} g old new (Err fault)
  asks_failed e fault same err = record {
    mode = mode;
    crash = reads_survive text it params (state g old) (state g new) survives;
    answered = λ clean. tt;
    refused = λ clean. unless_failed fault (subst IsStoreFault (sym same) (fault_told e)) _ (λ refused. inr (query_serves text it params (state g old) (state g new) e (err clean) (sym same ∙ refused)));
    back = λ clean. failed_back text it params (state g old) (state g new) e (err clean);
    broken = λ clean is. query_broke (state g old) (state g new) e text it params (err clean) (sym same ∙ (let broke = is in cc));
  }

  -- the connection is open after either, but where memory or the disk failed
  pub opens_shown : {A : Type 0} (rows : Vec Row A) → (HasCleanDisk (state g new) → Shown text params (state g old) (state g new) rows.items) → ServesUnlessFailed g new (Ok rows)
  opens_shown rows ok clean = (shown_unchanged text it params (state g old) (state g new) rows.items (ok clean)).0.is_open

  pub opens_failed : (e : Error) (fault : Fault) → fault ≡ fault_of e → (HasCleanDisk (state g new) → FailsToQuery text params (state g old) (state g new) e) → HasCleanDisk (state g new) → IsFailure fault ⊎ IsTrue (state g new).is_open
  opens_failed e fault same err clean = unless_failed fault (subst IsStoreFault (sym same) (fault_told e)) _ (λ refused. (query_serves text it params (state g old) (state g new) e (err clean) (sym same ∙ refused)).0.is_open)

-- ---- what is made of one question's answer, or of its error

module _ {S T : Type 0} (g : Ghosts S) (old new : Held S) (mode : old.in_transaction ≡ false → new.in_transaction ≡ false) (crash : Survives (state g old) (state g new) (λ _. ⊥)) where
  module _ (same : HasCleanDisk (state g new) → IsUnchanged (state g old) (state g new)) where
    -- with no further question, but for a failure of the disk
    pub asks_read : (r : Result T Fault) → r ≢ Err Broken → Asks g old new r
    asks_read (Ok x) other = record { mode = mode; crash = crash; answered = λ clean. inr (same clean); refused = λ clean. tt; back = λ clean. back_unchanged (state g old) (state g new) (same clean); broken = λ clean is. absurd (other is) }
    asks_read (Err fault) other = record { mode = mode; crash = crash; answered = λ clean. tt; refused = λ clean. inr (inr (same clean)); back = λ clean. back_unchanged (state g old) (state g new) (same clean); broken = λ clean is. absurd (other is) }

    pub opens_read : (r : Result T Fault) → ServesUnlessFailed g new r
    opens_read (Ok x) clean = (same clean).0.is_open
    opens_read (Err fault) clean = inr (same clean).0.is_open

  module _ (e : Error) (serves : HasCleanDisk (state g new) → fault_of e ≡ NotAProject → IsUnchanged (state g old) (state g new)) where
    -- an answer is made of a refusal alone, and a fault is the error's own
    pub asks_error : (HasCleanDisk (state g new) → IsBack (state g old) (state g new)) → (HasCleanDisk (state g new) → fault_of e ≡ Broken → HasBroken g old new) → (r : Result T Fault) → OnOk r (fault_of e ≡ NotAProject) → IfErr r (λ fault. fault ≡ fault_of e)
        → Asks g old new r
    asks_error back breaks (Ok x) refused told = record { mode = mode; crash = crash; answered = λ clean. inr (serves clean refused); refused = λ clean. tt; back = back; broken = λ clean is. absurd cc }
    asks_error back breaks (Err fault) refused told = record {
      mode = mode;
      crash = crash;
      answered = λ clean. tt;
      refused = λ clean. unless_failed fault (subst IsStoreFault (sym told) (fault_told e)) _ (λ is. inr (serves clean (sym told ∙ is)));
      back = back;
      broken = λ clean is. breaks clean (sym told ∙ (let broke = is in cc));
    }

    pub opens_error : (r : Result T Fault) → OnOk r (fault_of e ≡ NotAProject) → IfErr r (λ fault. fault ≡ fault_of e) → ServesUnlessFailed g new r
    opens_error (Ok x) refused told clean = (serves clean refused).0.is_open
    opens_error (Err fault) refused told clean = unless_failed fault (subst IsStoreFault (sym told) (fault_told e)) _ (λ is. (serves clean (sym told ∙ is)).0.is_open)

pub error_told : {T : Type 0} (r : Result T Fault) (e : Error) → IfErr r (λ fault. fault ≡ fault_of e) → IfErr r IsStoreFault
error_told (Ok x) e told = tt
error_told (Err fault) e told = subst IsStoreFault (sym told) (fault_told e)
