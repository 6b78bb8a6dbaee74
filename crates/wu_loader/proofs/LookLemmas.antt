-- From question to question about the tables.
use Rattle.wu_schema.proofs.Words.{Database, Err, Fault, Ghosts, HasCleanDisk, HasTables, Held, IsErrAnd, Ok, ProjectTrees, Result, arith, inl, inr, refl, state, subst, sym, ℕ, ◌∙◌, ◌≡◌, ◌≢◌}
use Rattle.wu_core.specs.declared.fault.Fault.TheVariants.{Broken, Memory}
use Rattle.wu_schema.proofs.AskingLemmas.{asks_fault, asks_made, asks_now, asks_then}
use Rattle.wu_loader.specs.Asked.{HasArranged, LooksAtTables}
use Rattle.wu_store.proofs.AskLemmas.{never_err}

-- what holds of the tables after some answers
abbrev pub Known : Type 1
Known = Database → ProjectTrees → Type 0

abbrev pub HasLooked : {S : Type 0} → ℕ → Ghosts S → Held S → Held S → Known → Type 0
HasLooked version g old new Is = LooksAtTables {T = Unit {0}} version g old new (Ok tt) (λ db trees _. Is db trees)

pub memory_other : {T : Type 0} → ◌≢◌ {A = Result T Fault} (Err Memory) (Err Broken)
memory_other is = absurd cc

module _ {S : Type 0} (version : ℕ) (g : Ghosts S) (a b : Held S) where
  -- the first answer
  pub looked : {T : Type 0} (x : T) (Is : Database → ProjectTrees → T → Type 0) → LooksAtTables version g a b (Ok x) Is → HasLooked version g a b (λ db trees. Is db trees x)
  looked x Is it = record {
    asks = asks_made g a b x (Ok tt) (never_err tt) it.asks;
    opens = it.opens;
    says = it.says;
    fault = tt;
    answered = λ clean trees has unlimited. tt;
  }

  -- what is made of the answers
  pub looks_made : {U : Type 0} (Is : Known) (y : U) (Then : Database → ProjectTrees → U → Type 0) → ((db : Database) (trees : ProjectTrees) → Is db trees → Then db trees y) → HasLooked version g a b Is → LooksAtTables version g a b (Ok y) Then
  looks_made Is y Then made it = record {
    asks = asks_made g a b tt (Ok y) (never_err y) it.asks;
    opens = it.opens;
    says = λ clean trees has. made (state g a).now trees (it.says clean trees has);
    fault = tt;
    answered = λ clean trees has unlimited. tt;
  }

  -- want of memory after the answers
  pub looks_memory : {U : Type 0} (Is : Known) (Then : Database → ProjectTrees → U → Type 0) → HasLooked version g a b Is → LooksAtTables version g a b (Err Memory) Then
  looks_memory Is Then it = record {
    asks = asks_made g a b tt (Err Memory) memory_other it.asks;
    opens = λ clean. inr (it.opens clean);
    says = λ clean trees has. tt;
    fault = inl refl;
    answered = λ clean trees has unlimited. inl refl;
  }

  -- a fault that is handed on
  pub looks_fault : {T U : Type 0} (fault : Fault) (Is : Database → ProjectTrees → T → Type 0) (Then : Database → ProjectTrees → U → Type 0) → LooksAtTables version g a b (Err fault) Is → (r : Result U Fault) → IsErrAnd r (λ other. other ≡ fault) → LooksAtTables version g a b r Then
  looks_fault fault Is Then it (Ok y) same = absurd same
  looks_fault fault Is Then it (Err other) same = subst (λ f. LooksAtTables version g a b (Err f) Then) (sym same) (record {
    asks = asks_fault g a b fault it.asks;
    opens = it.opens;
    says = λ clean trees has. tt;
    fault = it.fault;
    answered = it.answered;
  })

module _ {S : Type 0} (version : ℕ) (g : Ghosts S) (a b c : Held S) (Is : Known) (one : HasLooked version g a b Is) where
  module _ {T : Type 0} (r : Result T Fault) (Then : Database → ProjectTrees → T → Type 0) (two : LooksAtTables version g b c r Then) where
    before : HasCleanDisk (state g c) → HasCleanDisk (state g b)
    before clean = omega (arith, two.asks.crash.clean)

    same : HasCleanDisk (state g c) → (state g b).now ≡ (state g a).now
    same clean = asks_now g a b tt one.asks (before clean)

    limit : b.step_limit ≡ a.step_limit
    limit = one.asks.crash.limit

  -- one more answer
  pub looks_next : {T : Type 0} (x : T) (Then : Database → ProjectTrees → T → Type 0) → LooksAtTables version g b c (Ok x) Then → HasLooked version g a c (λ db trees. Is db trees × Then db trees x)
  looks_next x Then two = record {
    asks = asks_then g a b c tt one.asks (Ok tt) (asks_made g b c x (Ok tt) (never_err tt) two.asks);
    opens = two.opens;
    says = λ clean trees has. (
      one.says (before (Ok x) Then two clean) trees has,
      subst (λ (db : Database). Then db trees x) (same (Ok x) Then two clean) (two.says clean trees (subst (λ (db : Database). HasArranged version db trees) (sym (same (Ok x) Then two clean)) has)),
    );
    fault = tt;
    answered = λ clean trees has unlimited. tt;
  }

  -- or none
  pub looks_ended : {T U : Type 0} (fault : Fault) (Then : Database → ProjectTrees → T → Type 0) (Last : Database → ProjectTrees → U → Type 0) → LooksAtTables version g b c (Err fault) Then → (r : Result U Fault) → IsErrAnd r (λ other. other ≡ fault) → LooksAtTables version g a c r Last
  looks_ended {T} {U} fault Then Last two r told = looks_fault version g a c {T = T} fault (λ db trees x. Unit {0}) Last (record {
    asks = asks_then g a b c tt one.asks (Err fault) two.asks;
    opens = two.opens;
    says = λ clean trees has. tt;
    fault = two.fault;
    answered = λ clean trees has unlimited. two.answered clean trees (subst (λ (db : Database). HasTables version db.schema trees) (sym (same (Err fault) Then two clean)) has) (limit (Err fault) Then two ∙ unlimited);
  }) r told
