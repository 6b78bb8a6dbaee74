-- Where a name of the schema is taken, no project is made.
use Rattle.wu_schema.proofs.Words.{Database, Err, Ghosts, Held, IfErr, IsFree, Ok, Result, all_has, cases_Bool, inl, inr, state}
use Rattle.sqlite.specs.Effect.{IsDatabase}
use Rattle.sqlite.specs.State.{IsLive}
use Rattle.wu_core.specs.declared.fault.Fault.{Fault}
use Rattle.wu_schema.specs.Calls.{BreaksFor, BreaksTruly, Commits}
use Rattle.wu_schema.specs.Faults.{IsStoreFault}
use Rattle.wu_schema.specs.Fresh.{MakesProject, RefusesTaken, TakesName, project_names}

-- what was made had its names free
pub never_taken : (old new : Database) → MakesProject old new → ¬ TakesName old.schema
never_taken old new made taken = taken.2 (all_has (IsFree old.schema) project_names taken.0 made.free taken.1)

module _ {S T : Type 0} (g : Ghosts S) (old new : Held S) where
  -- a connection that was not open is one of the causes
  pub breaks_open : IsLive (state g old) → (r : Result T Fault) → BreaksFor g old new r IsDatabase → IfErr r (BreaksTruly g old new)
  breaks_open live (Ok x) breaks = tt
  breaks_open live (Err fault) breaks = λ clean told. elim (cases_Bool (state g old).is_open) [ inl is_open ↦ breaks (live is_open).0 clean told | inr shut ↦ inr shut ]

  pub refuses_taken : (r : Result T Fault) → Commits g old new r MakesProject → IfErr r IsStoreFault → IfErr r (BreaksTruly g old new) → RefusesTaken g old new r
  refuses_taken (Ok x) made told breaks clean taken = absurd (never_taken (state g old).now (state g new).now (made clean).makes taken)
  refuses_taken (Err fault) made told breaks clean taken = elim told [
    | inl memory ↦ inr (inl memory)
    | inr (inl broken) ↦ inr (inr (broken, breaks clean broken))
    | inr (inr refused) ↦ inl refused
  ]
