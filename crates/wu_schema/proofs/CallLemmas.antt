-- From call to call inside a transaction.
use Rattle.wu_schema.proofs.Words.{Database, Err, Error, Executes, Ghosts, HasCleanDisk, HasRun, Held, IfErr, IsBack, IsErrAnd, IsNotRun, IsPart, IsTrue, IsUnchanged, IsUndone, List, NotAProject, Ok, OnErr, OnOk, Result, Row, State, StoreError, Survives, Transaction, Trees, ap, arith, cases_Bool, false, fault_of, inl, inr, refl, state, store_error, subst, sym, true, ℕ, ◌∙◌, ◌≡◌, ◌≢◌}
use Rattle.sqlite.specs.State.{IsRolledBack, ExecutesInside}
use Rattle.sqlite.proofs.StateLemmas.{survives_then}
use Rattle.sqlite.proofs.InsideLemmas.{inside_keeps, keeps_then}
use Rattle.sqlite.proofs.Callers.{survives_begin}
use Rattle.sqlite_trees.specs.declared.error.StoreError.TheVariants as kind
use Rattle.sqlite.specs.declared.error.Error.TheVariants.{SqliteFailure}
use Rattle.sqlite.specs.declared.error.ErrorCode.TheVariants.{TransactionState}
use Rattle.wu_schema.specs.Calls.{Does, LeavesOnly, RefusesText, StatementFrame}

pub part_then : (a b c : State) → IsPart a b → IsPart b c → IsPart a c
part_then a b c one two = record {
  survives = survives_then a b c _ _ (λ _. ⊥) (λ _ db none. none) (λ _ db none. none) one.survives two.survives;
  keeps = λ clean. keeps_then a b c (one.keeps (omega (arith, two.survives.clean))) (two.keeps clean);
}

pub part_none : (a : State) → IsPart a a
part_none a = record {
  survives = record { clean = omega arith; shield = λ s. s; counts = omega arith; limit = refl; closes = λ _ still. inl still; crash = λ _ db h. inl h };
  keeps = λ _. record { was_open = λ h. h; committed = λ _. refl };
}

-- a statement inside, whatever it answers
pub part_of : {S : Type 0} (g : Ghosts S) (old new : Held S) (sql : List ℕ) (params : Row) (e : Error) (r : Result ℕ Error)
    → (old.in_transaction ≡ false → (r ≡ Err e) × (new ≡ old)) → (HasCleanDisk (state g new) → IsTrue old.in_transaction → ExecutesInside 0 sql params (state g old) (state g new) r)
    → Survives (state g old) (state g new) (λ _. ⊥) → IsPart (state g old) (state g new)
part_of g old new sql params e r ended runs survives = elim (cases_Bool old.in_transaction) [
  | inl within ↦ record { survives = survives; keeps = λ clean. inside_keeps (state g old) (state g new) 0 false sql params r (runs clean within) }
  | inr outside ↦ subst (λ h. IsPart (state g old) (state g h)) (sym (ended outside).1) (part_none (state g old))
]

pub same_error : {e f : Error} → ◌≡◌ {A = Result ℕ Error} (Err e) (Err f) → e ≡ f
same_error same = cc

module _ {S : Type 0} (g : Ghosts S) (old new : Transaction S) (one : new.conn.ghost_name ≡ old.conn.ghost_name) (sql : List ℕ) (given : Row) (stop : Error) where
  abbrev pub IsEnded : Result ℕ Error → Type 0
  IsEnded r = old.conn.now.in_transaction ≡ false → (r ≡ Err stop) × (new.conn.now ≡ old.conn.now)

  abbrev pub Runs : Result ℕ Error → Type 0
  Runs r = HasCleanDisk (state g new.conn.now) → IsTrue old.conn.now.in_transaction → ExecutesInside 0 sql given (state g old.conn.now) (state g new.conn.now) r

  -- a statement that is refused
  pub refuses : {T : Type 0} (e : Error) → IsEnded (Err e) → Runs (Err e) → Survives (state g old.conn.now) (state g new.conn.now) (λ _. ⊥) → (result : Result T Error) → IsErrAnd result (λ d. d ≡ e) → StatementFrame g old new result
  refuses e ended runs survives (Ok x) is = absurd is
  refuses e ended runs survives (Err d) is = record { same_reference = one; part = part_of g old.conn.now new.conn.now sql given stop (Err e) ended runs survives; inside = λ clean. tt }

  -- and how the text was
  pub refuses_text : {T : Type 0} (e : Error) → stop ≡ SqliteFailure TransactionState → IsEnded (Err e) → Runs (Err e) → (result : Result T Error) → IsErrAnd result (λ d. d ≡ e) → RefusesText g old new result sql given
  refuses_text e stopped ended runs (Ok x) is clean = absurd is
  refuses_text e stopped ended runs (Err d) is clean = elim (cases_Bool old.conn.now.in_transaction) [
    | inl within ↦ elim (runs clean within) [
      | inl ran ↦ inr (subst (λ f. Executes sql given (state g old.conn.now) (state g new.conn.now) (Err f)) (sym is) ran.0)
      | inr ends ↦ inl (is ∙ ends.1)
    ]
    | inr outside ↦ inl (is ∙ same_error (ended outside).0 ∙ stopped)
  ]

  module _ (count : ℕ) (ended : IsEnded (Ok count)) (runs : Runs (Ok count)) where
    -- at Ok it ran
    ran : HasCleanDisk (state g new.conn.now) → ExecutesInside 0 sql given (state g old.conn.now) (state g new.conn.now) (Ok count)
    ran clean = elim (cases_Bool old.conn.now.in_transaction) [
      | inl within ↦ runs clean within
      | inr outside ↦ absurd (let no = (ended outside).0 in cc)
    ]

    pub wrote : {T : Type 0} (x : T) → Survives (state g old.conn.now) (state g new.conn.now) (λ _. ⊥) → StatementFrame {E = Error} g old new (Ok x)
    wrote x survives = record { same_reference = one; part = part_of g old.conn.now new.conn.now sql given stop (Ok count) ended runs survives; inside = λ clean. (ran clean).1.mode }

    pub has_run : HasCleanDisk (state g new.conn.now) → HasRun sql given (state g old.conn.now) (state g new.conn.now)
    has_run clean = (count, (ran clean).0)

pub never_ok : {T E : Type 0} (r : Result T E) (P : Type 0) (Q : E → Type 0) → IsErrAnd r Q → OnOk r P
never_ok (Ok x) P Q is = absurd is
never_ok (Err e) P Q is = tt

-- a transaction begins with the state as it was
pub begun_part : {S : Type 0} (g : Ghosts S) (h : Held S) (new : State) → IsPart (state g (record h { in_transaction = true })) new → IsPart (state g h) new
begun_part g h new part = record {
  survives = survives_begin g h new _ part.survives;
  keeps = λ clean. record { was_open = (part.keeps clean).was_open; committed = (part.keeps clean).committed };
}

module _ {S : Type 0} (g : Ghosts S) (settled : (s : S) (db : Trees) → IsTrue (g.view s).is_open → g.recovers s db → db ≡ (g.view s).committed) (stays : (s : S) → IsTrue (g.view s).is_open → g.recovers s (g.view s).committed) where
  pub leaves_only : (h : Held S) → IsTrue (state g h).is_open → LeavesOnly (state g h) (state g h).committed.trees
  leaves_only h is_open = record { only = λ db may. settled h.store db is_open may; stays = stays h.store is_open }

  pub undone_after : (old mid : State) (h : Held S) (P : Trees → Type 0) → HasCleanDisk (state g h) → IsPart old mid → Survives mid (state g h) P → IsRolledBack mid (state g h) → IsUndone old (state g h)
  undone_after old mid h P clean part survives back =
      let keeps = part.keeps (omega (arith, survives.clean)) in
      let same : IsTrue (state g h).is_open → mid.committed ≡ old.committed = λ is_open. keeps.committed (back.was_open is_open) in
      record {
        was_open = λ is_open. keeps.was_open (back.was_open is_open);
        now = λ is_open. ((back.undone is_open).0 ∙ same is_open, (back.undone is_open).1 ∙ same is_open);
        left = λ is_open. rw (← same is_open, ← (back.undone is_open).1) (leaves_only h is_open);
      }

pub back_none : (s : State) → IsBack s s
back_none s = record { was_open = λ h. h; now = λ _. inl refl; committed = λ _. refl }

pub back_unchanged : (old new : State) → IsUnchanged old new → IsBack old new
back_unchanged old new same = record { was_open = λ _. same.0.was_open; now = λ _. inl same.0.now_is; committed = λ _. same.0.committed_is }

pub back_not_run : (old new : State) (sql : List ℕ) (params : Row) (e : Error) → IsNotRun old new sql params e → IsBack old new
unfolding IsNotRun
back_not_run old new sql params e (inl refused) = back_unchanged old new refused.1
back_not_run old new sql params e (inr failed) = let back = failed.3 in record { was_open = back.was_open; now = λ h. inr (back.undone h).0; committed = λ h. (back.undone h).1 }

never_refused : (cause : StoreError) → fault_of (store_error cause) ≢ NotAProject
never_refused kind.OutOfMemory is = absurd cc
never_refused _ is = absurd cc

-- a refusal that is no failure of the store leaves the connection open
pub serves_after : (old new : State) (sql : List ℕ) (params : Row) (e : Error) → IsNotRun old new sql params e → fault_of e ≡ NotAProject → IsUnchanged old new
unfolding IsNotRun
serves_after old new sql params e (inl refused) is = refused.1
serves_after old new sql params e (inr failed) is = absurd (never_refused failed.0 (ap fault_of (sym failed.1) ∙ is))

pub err_on : {T E : Type 0} (r : Result T E) (P : E → Type 0) (Q : Type 0) → ((e : E) → P e → Q) → IfErr r P → OnErr r Q
err_on (Ok x) P Q f h = tt
err_on (Err e) P Q f h = f e h

pub ok_on : {T E : Type 0} (r : Result T E) (P Q : Type 0) → (P → Q) → OnOk r P → OnOk r Q
ok_on (Ok x) P Q f h = f h
ok_on (Err e) P Q f h = tt

pub ok_both : {T E : Type 0} (r : Result T E) (P Q R : Type 0) → (P → Q → R) → OnOk r P → OnOk r Q → OnOk r R
ok_both (Ok x) P Q R f h k = f h k
ok_both (Err e) P Q R f h k = tt

-- what was done, and what is done then
pub does_then : {S U E : Type 0} (g : Ghosts S) (a b c : Transaction S) (r : Result U E) {First Second Both : Database → Database → Type 0} → ((old mid new : Database) → First old mid → Second mid new → Both old new)
    → (HasCleanDisk (state g b.conn.now) → First (state g a.conn.now).now (state g b.conn.now).now) → IsPart (state g b.conn.now) (state g c.conn.now) → Does g b c r Second → Does g a c r Both
does_then g a b c r both one part two clean = ok_on r _ _ (both _ _ _ (one (omega (arith, part.survives.clean, clean)))) (two clean)

-- with these parameters
pub ran_as : {T E P : Type 0} (old new : State) (sql : List ℕ) (given params : Row) → given ≡ params → (r : Result T E) → OnOk r (HasRun sql given old new) → ((count : ℕ) → Executes sql params old new (Ok count) → P) → OnOk r P
ran_as old new sql given params same r ran f = ok_on r _ _ (λ it. f it.0 (subst (λ ps. Executes sql ps old new (Ok it.0)) same it.1)) ran
