-- How a run ends.
use Rattle.std.proofs.Common.{◌≡◌, ℕ, List, Option, Some, None, Result, Ok, Err, inl, inr, refl, subst, sym}
use Rattle.std.specs.Prelude.{◌⊎◌}
use Rattle.sqlite_disk.specs.declared.Disk.{Ghosts}
use Rattle.sqlite_disk.specs.declared.calls.Calls as calls
use Rattle.sqlite_disk.specs.declared.modelled.Modelled.{Modelled}
use Rattle.sqlite_disk.specs.declared.start.Start as start
use Rattle.sqlite_std_file.specs.declared.host.Host.{Host}
use Rattle.wu_arguments.specs.Refusals.{IsOrderOf}
use Rattle.wu_arguments.specs.declared.order.Order.{Order}
use Rattle.wu_cli.specs.declared.trouble.Trouble.{Trouble}
use Rattle.wu_cli.specs.declared.work.Work.{Work}
use Rattle.wu_process.specs.Asking.{AsksOfOrder, database_in}
use Rattle.wu_process.specs.Running.{DoesOpened, EndsSo, Obeys, OpensAndDoes, RunsWords, RunsWork}
use Rattle.wu_process.specs.Serving.{EndsRan, EndsServed, HoldsSession, OpensAndServes, RanFor, ServesAt, ServesOpened}
use Rattle.wu_process.specs.declared.End.{End}
use Rattle.wu_process.specs.declared.Ran.{Ran}
use Rattle.wu_process.specs.declared.Ran.TheVariants as ran
use Rattle.wu_process.specs.declared.database.LeftDatabase.{LeftDatabase}
use Rattle.wu_process.specs.declared.database.LeftDatabase.TheVariants as left

-- a database that was opened is left closed, or unclosed
pub does_opened : {S W : Type 0} {c : calls.Ghosts Host} {s : start.Ghosts S} {g : Ghosts (Modelled Host S c s)} (contents : W → Option (List ℕ)) (path : List ℕ) (work : Work) (old new : W)
    (done : Result (Unit {0}) Trouble) (left : LeftDatabase (Modelled Host S c s) g) → DoesOpened contents path work old new done left → OpensAndDoes contents path work old new done left
does_opened contents path work old new done (left.Unopened error rest) does = absurd does.does.closed
does_opened contents path work old new done (left.Closed files) does = does
does_opened contents path work old new done (left.Unclosed error store) does = does

-- what an order asks for was done, or could not be asked
pub runs_order : {S W : Type 0} {c : calls.Ghosts Host} {s : start.Ghosts S} {g : Ghosts (Modelled Host S c s)} (contents : W → Option (List ℕ)) (words : List (List ℕ)) (order : Order) (asked : Result Work Trouble)
    (old new : W) (done : Result (Unit {0}) Trouble) (left : Option (LeftDatabase (Modelled Host S c s) g)) → IsOrderOf words order → AsksOfOrder order asked → RunsWork contents (database_in order) asked old new done left
    → RunsWords contents words old new done left
runs_order contents words order (Ok work) old new done (Some left) ordered asks runs = record {
  order = order;
  work = work;
  asked = record { ordered = ordered; asks = asks };
  runs = runs;
}
runs_order contents words order (Ok work) old new done None ordered asks (trouble, barred, told, unwritten) = inl (record {
  trouble = trouble;
  refused = inr (record { order = order; work = work; asked = record { ordered = ordered; asks = asks }; barred = barred });
  told = told;
  unwritten = unwritten;
})
runs_order contents words order (Err trouble) old new done (Some left) ordered asks runs = absurd runs
runs_order contents words order (Err trouble) old new done None ordered asks (told, unwritten) = inl (record {
  trouble = trouble;
  refused = inl (inr (order, ordered, asks));
  told = told;
  unwritten = unwritten;
})

-- and so it is of a run that ended so
pub obeyed : {S W E : Type 0} {c : calls.Ghosts Host} {s : start.Ghosts S} {g : Ghosts (Modelled Host S c s)} (contents : W → Option (List ℕ)) (told_of : E → Option (List ℕ)) (words : List (List ℕ))
    (old new : W) (err_old err_new : E) (done : Result (Unit {0}) Trouble) (left : Option (LeftDatabase (Modelled Host S c s) g)) (end : End (Modelled Host S c s) g) → RunsWords contents words old new done left
    → EndsSo told_of err_old err_new done left end → Obeys contents told_of words old new err_old err_new end
obeyed contents told_of words old new err_old err_new done left end runs ends = record {
  done = done;
  runs = subst (RunsWords contents words old new done) (sym ends.same) runs;
  tells = ends.tells;
}

-- A database that was opened for a session is left closed, or unclosed.
pub serves_opened : {S W : Type 0} {c : calls.Ghosts Host} {s : start.Ghosts S} {g : Ghosts (Modelled Host S c s)} (contents : W → Option (List ℕ)) (path : List ℕ) (old new : W)
    (in_old in_new : Option (List ℕ)) (done : Result ℕ Trouble) (left : LeftDatabase (Modelled Host S c s) g) → ServesOpened contents path old new in_old in_new done left → OpensAndServes contents path old new in_old in_new done left
serves_opened contents path old new in_old in_new done (left.Unopened error rest) serves = absurd serves.closed
serves_opened contents path old new in_old in_new done (left.Closed files) serves = serves
serves_opened contents path old new in_old in_new done (left.Unclosed error store) serves = serves

-- How what was done ends.
module _ {S W E : Type 0} {c : calls.Ghosts Host} {s : start.Ghosts S} {g : Ghosts (Modelled Host S c s)} (contents : W → Option (List ℕ)) (told_of : E → Option (List ℕ)) (words : List (List ℕ)) (old new : W) (err_old err_mid err_new : E)
    (in_old in_new : Option (List ℕ)) (end : End (Modelled Host S c s) g) where
  served_so : (done : Result ℕ Trouble) (left : Option (LeftDatabase (Modelled Host S c s) g)) → EndsServed told_of err_mid err_new done left end → (end.left ≡ left) × EndsServed told_of err_mid err_new done end.left end
  served_so (Ok status) left (is, unwritten, told, same) = (same, (is, unwritten, told, refl))
  served_so (Err trouble) left ends = (ends.same, record { tells = ends.tells; same = refl })

  pub ran_ends : (ran : Ran (Modelled Host S c s) g) → RanFor contents words old new err_old err_mid in_old in_new ran → EndsRan told_of err_mid err_new ran end
      → (Obeys contents told_of words old new err_old err_new end × (in_new ≡ in_old)) ⊎ HoldsSession contents told_of words old new err_old err_new in_old in_new end
  ran_ends (ran.Done done left) (runs, kept, unread) ends =
      inl (obeyed contents told_of words old new err_old err_new done left end runs (subst (λ err. EndsSo told_of err err_new done left end) kept ends), unread)
  ran_ends (ran.Served done left) (path, ordered, runs, silent) ends =
      let it = served_so done left ends in
      inr (record { path = path; ordered = ordered; done = done; runs = subst (ServesAt contents path old new in_old in_new done) (sym it.0) runs; err_mid = err_mid; silent = silent; ends = it.1 })
