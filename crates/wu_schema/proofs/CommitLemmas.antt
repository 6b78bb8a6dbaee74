-- How a transaction ends: what each exit makes of the connection that it began on.
use Rattle.wu_schema.proofs.Words.{Database, Err, Error, Ghosts, HasCleanDisk, Held, IsBack, IsPart, IsTrue, IsUnchanged, IsUndone, NotAProject, Survives, Trees, arith, false, fault_of, inl, inr, refl, state, subst, sym, true, ◌∙◌, ◌≡◌, ◌≢◌}
use Rattle.std.proofs.lemmas.Bool.{both_ways}
use Rattle.sqlite.proofs.StateLemmas.{survives_then}
use Rattle.sqlite.specs.State.{IsRolledBack, Shows}
use Rattle.sqlite.specs.Steps.{FailsToCommit}
use Rattle.wu_core.specs.declared.fault.Fault.{Fault}
use Rattle.wu_schema.proofs.AskingLemmas.{fault_told}
use Rattle.wu_schema.proofs.CallLemmas.{begun_part, leaves_only, undone_after}
use Rattle.wu_schema.specs.Calls.{CommitsNothing, CrashAllows, GoesBack, IsDone, IsMade, IsRefused, LeavesOnly, Serves, Transacts}
use Rattle.wu_schema.specs.Faults.{IsStoreFault, commit_fault_of, unless_known}

-- no transaction is open, and all is as it was
abbrev pub EndsUndone : {S : Type 0} → Ghosts S → (Database → Database → Type 0) → Held S → Held S → Type 0
EndsUndone g Makes old end = record {
  mode : end.in_transaction ≡ false;
  done : HasCleanDisk (state g end) → Unit {0};
  undone : HasCleanDisk (state g end) → IsUndone (state g old) (state g end);
  crash : CrashAllows g old end Makes;
}

-- no transaction is open, and what is made of the database is committed
abbrev pub EndsDone : {S : Type 0} → Ghosts S → (Database → Database → Type 0) → Held S → Held S → Type 0
EndsDone g Makes old end = record {
  mode : end.in_transaction ≡ false;
  done : HasCleanDisk (state g end) → IsDone Makes (state g old) (state g end);
  undone : HasCleanDisk (state g end) → Unit {0};
  crash : CrashAllows g old end Makes;
}

module _ {S : Type 0} (g : Ghosts S) (settled : (s : S) (db : Trees) → IsTrue (g.view s).is_open → g.recovers s db → db ≡ (g.view s).committed) (stays : (s : S) → IsTrue (g.view s).is_open → g.recovers s (g.view s).committed) (Makes : Database → Database → Type 0) where
  module _ (old start mid end : Held S) (begun : start ≡ record old { in_transaction = true }) (part : IsPart (state g start) (state g mid)) where
    within : IsPart (state g old) (state g mid)
    within = begun_part g old (state g mid) (subst (λ h. IsPart (state g h) (state g mid)) begun part)

    pub rolled_back : end.in_transaction ≡ false → (HasCleanDisk (state g end) → IsRolledBack (state g mid) (state g end)) → Survives (state g mid) (state g end) (λ _. ⊥) → EndsUndone g Makes old end
    rolled_back ended undone survives = record {
      mode = ended;
      done = λ clean. tt;
      undone = λ clean. undone_after g settled stays (state g old) (state g mid) end (λ _. ⊥) clean within survives (undone clean);
      crash = survives_then (state g old) (state g mid) (state g end) (λ _. ⊥) (λ _. ⊥) _ (λ _ db none. absurd none) (λ _ db none. absurd none) within.survives survives;
    }

    module _ (made : HasCleanDisk (state g mid) → Makes (state g start).now (state g mid).now) (ended : end.in_transaction ≡ false) (survives : Survives (state g mid) (state g end) (λ db. db ≡ (state g mid).now.trees)) where
      makes : HasCleanDisk (state g end) → Makes (state g old).now (state g mid).now
      makes clean = subst (λ h. Makes (state g h).now (state g mid).now) begun (made (omega (arith, survives.clean, clean)))

      allows : CrashAllows g old end Makes
      allows = survives_then (state g old) (state g mid) (state g end) (λ _. ⊥) (λ db. db ≡ (state g mid).now.trees) _ (λ _ db none. absurd none) (λ clean db is. ((state g mid).now, sym is, makes clean)) within.survives survives

      done : HasCleanDisk (state g end) → Shows (state g mid) (state g end) (state g mid).now (state g mid).now false → IsDone Makes (state g old) (state g end)
      done clean shows =
          let keeps = within.keeps (omega (arith, survives.clean, clean)) in
          let same : (state g end).committed ≡ (state g end).now = shows.committed_is ∙ sym shows.now_is in
          record {
            was_open = keeps.was_open shows.was_open;
            is_open = shows.is_open;
            makes = subst (λ db. Makes (state g old).now db) (sym shows.now_is) (makes clean);
            committed = same;
            left = subst (λ (db : Database). LeavesOnly (state g end) db.trees) same (leaves_only g settled stays end shows.is_open);
          }

      pub committed : (HasCleanDisk (state g end) → Shows (state g mid) (state g end) (state g mid).now (state g mid).now false) → EndsDone g Makes old end
      committed shows = record { mode = ended; done = λ clean. done clean (shows clean); undone = λ clean. tt; crash = allows }

      undone : HasCleanDisk (state g end) → IsTrue (state g mid).in_transaction → (e : Error) → FailsToCommit (state g mid) (state g end) e → IsUndone (state g old) (state g end)
      undone clean inside e (inl failed) = undone_after g settled stays (state g old) (state g mid) end (λ db. db ≡ (state g mid).now.trees) clean within survives failed.3
      undone clean inside e (inr ended) = absurd (both_ways _ ended.1 inside)

      pub not_committed : (error : Error) → (HasCleanDisk (state g mid) → IsTrue start.in_transaction → IsTrue mid.in_transaction) → (HasCleanDisk (state g end) → FailsToCommit (state g mid) (state g end) error) → EndsUndone g Makes old end
      not_committed error inside failed = record {
        mode = ended;
        done = λ clean. tt;
        undone = λ clean. undone clean (inside (omega (arith, survives.clean, clean)) (subst (λ (h : Held S). IsTrue h.in_transaction) (sym begun) refl)) error (failed clean);
        crash = allows;
      }

  module _ (old mid end : Held S) (mode : mid.in_transaction ≡ false) (was : HasCleanDisk (state g mid) → IsUndone (state g old) (state g mid)) (allows : CrashAllows g old mid Makes) (nothing : CommitsNothing g mid end) where
    mid_undone : HasCleanDisk (state g end) → IsUndone (state g old) (state g mid)
    mid_undone clean = was (omega (arith, nothing.clean, clean))

    still_undone : HasCleanDisk (state g end) → IsBack (state g mid) (state g end) → IsUndone (state g old) (state g end)
    still_undone clean back =
        let undone = mid_undone clean in
        let same : IsTrue (state g end).is_open → (state g end).committed ≡ (state g old).committed = λ is_open. back.committed is_open ∙ (undone.now (back.was_open is_open)).1 in
        record {
          was_open = λ is_open. undone.was_open (back.was_open is_open);
          now = λ is_open. (elim (back.now is_open) [ inl now ↦ now ∙ (undone.now (back.was_open is_open)).0 | inr gone ↦ gone ∙ (undone.now (back.was_open is_open)).1 ], same is_open);
          left = λ is_open. subst (λ (db : Database). LeavesOnly (state g end) db.trees) (same is_open) (leaves_only g settled stays end is_open);
        }

    refused : HasCleanDisk (state g end) → IsUnchanged (state g mid) (state g end) → IsRefused (state g old) (state g end)
    refused clean unchanged =
        let was_so = (mid_undone clean).now unchanged.0.was_open in
        let same : (state g end).committed ≡ (state g old).committed = unchanged.0.committed_is ∙ was_so.1 in
        record {
          is_open = unchanged.0.is_open;
          now = unchanged.0.now_is ∙ was_so.0;
          committed = same;
          left = subst (λ (db : Database). LeavesOnly (state g end) db.trees) same (leaves_only g settled stays end unchanged.0.is_open);
        }

    -- a fault after that, which the connection may have been probed for
    pub probed : {T : Type 0} (fault : Fault) → (mid.in_transaction ≡ false → end.in_transaction ≡ false) → IsStoreFault fault → Serves g mid end fault → GoesBack g mid end → Transacts {T = T} g old end (Err fault) Makes
    probed fault ends told serves back = record {
      mode = ends mode;
      done = λ clean. tt;
      refused = λ clean is. refused clean (serves clean is);
      undone = λ clean. still_undone clean (back clean);
      told = told;
      crash = survives_then (state g old) (state g mid) (state g end) (IsMade Makes (state g old).now) (λ _. ⊥) _ (λ _ db made. made) (λ _ db none. absurd none) allows nothing;
    }

unless_told : (fault : Fault) → IsStoreFault fault → IsStoreFault (unless_known fault) × (unless_known fault ≢ NotAProject)
unless_told fault (inl is) = rw is (inl refl, λ no. absurd cc)
unless_told fault (inr (inl is)) = rw is (inr (inl refl), λ no. absurd cc)
unless_told fault (inr (inr is)) = rw is (inr (inl refl), λ no. absurd cc)

-- a commit's own error is a failure, whatever it is
pub commit_told : (fault : Fault) (e : Error) → fault ≡ commit_fault_of e → IsStoreFault fault × (fault ≢ NotAProject)
commit_told fault e is = rw is (unless_told (fault_of e) (fault_told e))
