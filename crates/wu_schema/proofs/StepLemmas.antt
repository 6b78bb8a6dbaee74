-- One statement after another inside a transaction.
use Rattle.wu_schema.proofs.Words.{Database, Err, Error, Ghosts, IsErrAnd, List, Ok, Result, Table, Transaction, [], arith, refl, state, ℕ, ⊤, ◌++◌, ◌∙◌, ◌∷◌, ◌≡◌}
use Rattle.wu_schema.proofs.BreakLemmas.{breaks_on, breaks_then, create_breaks, empty_behind, index_breaks}
use Rattle.wu_schema.proofs.CallLemmas.{never_ok, ok_on, part_then}
use Rattle.wu_schema.proofs.CreateEffect.{Defines}
use Rattle.wu_schema.proofs.CreatedLemmas.{makes_table}
use Rattle.wu_schema.proofs.IndexEffect.{DefinesAs, indexes_both, last_index, makes_known}
use Rattle.wu_schema.specs.Calls.{Creates, RunsStatement, StatementFrame}
use Rattle.wu_schema.specs.Indexes.{NamedIndex}
use Rattle.wu_schema.specs.Made.{MakesTable, MakesTables, Named}
use Rattle.wu_schema.specs.Queue.{HasEmpty, MakesIndexes}

module _ {S : Type 0} (g : Ghosts S) (a b : Transaction S) where
  -- what was done, and what was done then
  pub frame_then : {T U E : Type 0} (c : Transaction S) (x : T) → StatementFrame {E = E} g a b (Ok x) → (r : Result U E) → StatementFrame g b c r → StatementFrame g a c r
  frame_then c x one r two = record {
    same_reference = two.same_reference ∙ one.same_reference;
    part = part_then (state g a.conn.now) (state g b.conn.now) (state g c.conn.now) one.part two.part;
    inside = two.inside;
  }

  -- a refusal that is handed on
  pub frame_refused : {T U E : Type 0} (e : E) → StatementFrame {T = T} g a b (Err e) → (r : Result U E) (Q : E → Type 0) → IsErrAnd r Q → StatementFrame g a b r
  frame_refused e one r Q is = record { same_reference = one.same_reference; part = one.part; inside = λ clean. never_ok r _ Q is }

-- ---- what a call in a transaction makes

-- this is made, and that then
abbrev pub Then : (Database → Database → Type 0) → (Database → Database → Type 0) → Database → Database → Type 0
Then First Second old new = (mid : Database) × First old mid × Second mid new

module _ {S : Type 0} {g : Ghosts S} {a b : Transaction S} {Over : Database → Type 0} where
  -- a refusal that is handed on
  pub stopped : {T U : Type 0} {Makes : Database → Database → Type 0} {e : Error} (Others : Database → Database → Type 0) → Creates {T = T} g a b (Err e) Makes Over → (r : Result U Error) → IsErrAnd r (λ d. d ≡ e) → Creates g a b r Others Over
  stopped {e = e} Others one r is = record { writes = frame_refused g a b e one.writes r _ is; makes = λ clean. never_ok r _ _ is; breaks = λ over. breaks_on g a b e (one.breaks over) r is }

  -- what was made, and what is made then
  pub made_then : {T U : Type 0} {c : Transaction S} {First Second : Database → Database → Type 0} {Next : Database → Type 0} {x : T} {r : Result U Error} → ((old mid : Database) → First old mid → Over old → Next mid) → Creates g a b (Ok x) First Over → Creates g b c r Second Next → Creates g a c r (Then First Second) Over
  made_then {c = c} {x = x} {r = r} leads one two = record {
    writes = frame_then g a b c x one.writes r two.writes;
    makes = λ clean. ok_on r _ _ (λ it. ((state g b.conn.now).now, one.makes (omega (arith, clean, two.writes.part.survives.clean)), it)) (two.makes clean);
    breaks = λ over clean. breaks_then g a b c x one.writes r two.writes (two.breaks (leads _ _ (one.makes (omega (arith, clean, two.writes.part.survives.clean))) over)) clean;
  }

  -- in other words
  pub made_as : {T : Type 0} {Makes Others : Database → Database → Type 0} {r : Result T Error} → ((old new : Database) → Makes old new → Others old new) → Creates g a b r Makes Over → Creates g a b r Others Over
  made_as {r = r} is it = record { writes = it.writes; makes = λ clean. ok_on r _ _ (is _ _) (it.makes clean); breaks = it.breaks }

  -- the last of some tables
  pub last_one : {T : Type 0} {r : Result T Error} {named : Named} → Creates g a b r (MakesTable named) Over → Creates g a b r (MakesTables (named ∷ [])) Over
  last_one = made_as (λ old new it. (new, it, refl))

module _ {S : Type 0} {g : Ghosts S} {a b : Transaction S} where
  -- what is so over any database is so over each of these
  pub over_any : {T : Type 0} {r : Result T Error} {Makes : Database → Database → Type 0} (Over : Database → Type 0) → Creates g a b r Makes (λ _. ⊤) → Creates g a b r Makes Over
  over_any Over it = record { writes = it.writes; makes = it.makes; breaks = λ over. it.breaks tt }

  -- a text that makes a table, whatever is there
  pub makes_one : {T : Type 0} {r : Result T Error} {text name : List ℕ} {table : ℕ → Table} → Defines text name table → RunsStatement g a b r text [] → Creates g a b r (MakesTable (name, table)) (λ _. ⊤)
  makes_one {r = r} made it = record { writes = it.writes; makes = λ clean. makes_table g a b made r (it.ran clean); breaks = λ over. create_breaks g a b made r it.refused }

module _ {S : Type 0} {g : Ghosts S} {a b : Transaction S} {table : Named} where
  -- a text that makes an index on a table with no row
  pub indexes_one : {T : Type 0} {r : Result T Error} {text : List ℕ} {named : NamedIndex} → DefinesAs text table named → RunsStatement g a b r text [] → Creates g a b r (MakesIndexes table (named ∷ [])) (HasEmpty table)
  indexes_one {r = r} {named = named} made it =
      record { writes = it.writes; makes = λ clean. ok_on r _ _ (last_index table named _ _) (makes_known g a b made r (it.ran clean)); breaks = λ empty. index_breaks g a b made empty r it.refused }

  -- more of them then
  pub indexes_then : {T U : Type 0} {c : Transaction S} {x : T} {r : Result U Error} (one two : List NamedIndex) → Creates g a b (Ok x) (MakesIndexes table one) (HasEmpty table) → Creates g b c r (MakesIndexes table two) (HasEmpty table) → Creates g a c r (MakesIndexes table (one ++ two)) (HasEmpty table)
  indexes_then one two first second = made_as (λ old new it. indexes_both table one two old it.0 new it.1 it.2) (made_then (λ old mid. empty_behind old mid table one) first second)
