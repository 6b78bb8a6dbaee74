-- What a SELECT does to a connection, whatever the schema.
use Rattle.wu_schema.proofs.Words.{Bool, Checked, Command, CommitsShowing, CompileError, Compiled, Err, Error, FailsToQuery, FailsToShow, Ghosts, HasCleanDisk, Held, IfErr, IfOk, IsBack, IsSome, IsUnchanged, List, Name, NoSuchTable, None, Ok, OnOk, Parsed, AsksOnly, Result, Row, Schema, Shown, State, Survives, Vec, [], and_then, ap, cases_Bool, compiled, false, if_select, if◌then◌else◌, inl, inr, is_select, meaning, planned, reads_listing, returning, state, subst, sym, true, understood, with_command, ℕ, ◌≡◌}
pub use Rattle.wu_schema.specs.Asking.{IsSelect}
use Rattle.sqlite.specs.Clock.{timed}
use Rattle.sqlite.specs.State.{ShowsRows}
use Rattle.wu_schema.proofs.CallLemmas.{back_not_run, back_unchanged, err_on}

pub same_ok : {X E : Type 0} {a b : X} → ◌≡◌ {A = Result X E} (Ok a) (Ok b) → a ≡ b
same_ok e = cc

none_shown : (p : Parsed) (r : Checked Command) (formats : List Name) (c : Compiled) → and_then (and_then (and_then r (λ k. Ok (k, None))) (λ found. Ok (formats, found))) (λ plan. Ok (with_command p plan)) ≡ Ok c → c.returning ≡ None
none_shown p (Ok k) formats c h = ap (λ (d : Compiled). d.returning) (sym (same_ok h))
none_shown p (Err e) formats c h = absurd (cc)

compiled_shows_none : (schema : Schema) (text : List ℕ) (it : IsSelect text) (c : Compiled) → compiled schema text ≡ Ok c → c.returning ≡ None
unfolding compiled planned meaning returning
compiled_shows_none schema text it c h = none_shown it.parsed _ _ c (rw (it.read, it.is) at h)

if_same : (r : Result Compiled CompileError) (c : Compiled) → if_select r ≡ Ok c → r ≡ Ok c
if_same (Ok d) c h = go (is_select d.command) h
  where
    go : (b : Bool) → ◌≡◌ {A = Result Compiled CompileError} (if b then Ok d else Err NoSuchTable) (Ok c) → ◌≡◌ {A = Result Compiled CompileError} (Ok d) (Ok c)
    go true e = e
    go false e = absurd (cc)
if_same (Err e) c h = absurd (cc)

pub shows_none : (schema : Schema) (text : List ℕ) → IsSelect text → (c : Compiled) → understood schema text ≡ Ok c → c.returning ≡ None
unfolding understood
shows_none schema text it c h = elim (cases_Bool (reads_listing schema text)) [
  | inl lists ↦ compiled_shows_none _ text it c (if_same _ c (rw lists at h))
  | inr other ↦ compiled_shows_none schema text it c (rw other at h)
]

module _ (text : List ℕ) (it : IsSelect text) (params : Row) (old new : State) where
  pub shown_unchanged : (rows : List Row) → Shown text params old new rows → IsUnchanged old new
  unfolding Shown
  shown_unchanged rows h =
      let none = shows_none old.now.schema text it h.0 h.1.is in
      let read = subst (λ r. ShowsRows old new text h.0 (timed params h.0.formats h.1.now) rows r) none h.2 in
      read.3

  pub failed_back : (e : Error) → FailsToQuery text params old new e → IsBack old new
  unfolding FailsToQuery
  failed_back e (inl h) = back_not_run old new text params e h
  failed_back e (inr h) =
      let none = shows_none old.now.schema text it h.0 h.1.is in
      let failed = subst (λ r. FailsToShow old new text h.0 (timed params h.0.formats h.1.now) e r) none h.2 in
      back_unchanged old new failed.3

  -- nothing is committed
  pub reads_survive : Survives old new (CommitsShowing text params old) → Survives old new (λ _. ⊥)
  unfolding CommitsShowing
  reads_survive s = record {
    clean = s.clean;
    shield = s.shield;
    counts = s.counts;
    limit = s.limit;
    closes = s.closes;
    crash = λ clean db may. elim (s.crash clean db may) [ inl before ↦ inl before | inr made ↦ absurd (let none = shows_none old.now.schema text it made.0 made.1.is in let some = subst IsSome none made.2 in cc) ];
  }

-- ---- through a result

pub if_ok : {T E : Type 0} (r : Result T E) (P Q : T → Type 0) → ((x : T) → P x → Q x) → IfOk r P → IfOk r Q
if_ok (Ok x) P Q f h = f x h
if_ok (Err e) P Q f h = tt

pub on_ok : {T E : Type 0} (r : Result T E) (P : T → Type 0) (Q : Type 0) → ((x : T) → P x → Q) → IfOk r P → OnOk r Q
on_ok (Ok x) P Q f h = f x h
on_ok (Err e) P Q f h = tt

pub if_err : {T E : Type 0} (r : Result T E) (P Q : E → Type 0) → ((e : E) → P e → Q e) → IfErr r P → IfErr r Q
if_err (Ok x) P Q f h = tt
if_err (Err e) P Q f h = f e h

-- what a SELECT of all rows does to the connection
pub all_read : {S A : Type 0} (g : Ghosts S) (text : List ℕ) → IsSelect text → (params : Row) (old new : Held S) → (old.in_transaction ≡ false → new.in_transaction ≡ false) → Survives (state g old) (state g new) (CommitsShowing text params (state g old)) → (r : Result (Vec Row A) Error)
    → (HasCleanDisk (state g new) → IfOk r (λ rows. Shown text params (state g old) (state g new) rows.items)) → (HasCleanDisk (state g new) → IfErr r (FailsToQuery text params (state g old) (state g new))) → AsksOnly g old new r
all_read g text it params old new mode survives r ok err = record {
  mode = mode;
  unchanged = λ clean. on_ok r _ _ (λ rows h. shown_unchanged text it params (state g old) (state g new) rows.items h) (ok clean);
  back = λ clean. err_on r _ _ (λ e h. failed_back text it params (state g old) (state g new) e h) (err clean);
  crash = reads_survive text it params (state g old) (state g new) survives;
}
