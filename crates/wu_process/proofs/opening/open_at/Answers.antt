use Rattle.std.proofs.Common.{ℕ, Bool, cond, false, List, ap₂, inl, inr, subst, sym}
use Rattle.std.proofs.lemmas.Bool.{cases_Bool}
use Rattle.sqlite_disk.specs.Events.{Event, replay}
use Rattle.sqlite_wal.specs.Recovery.{Image}
use Rattle.sqlite.specs.Files.{file_state, IsBlankAs}
use Rattle.sqlite.specs.Start.{FindsIn}
use Rattle.wu_cli.specs.LogNames.{names_log}
use Rattle.wu_process.proofs.opening.open_at.Goals as goal

abbrev image : List ℕ → List ℕ → Image
image log db = record { log = log; db = db }

abbrev seen : List ℕ → List ℕ → Bool → List Event → List ℕ
seen log db is_log history = (replay (cond is_log log db) history).seen

pub returns-in-Ok-open_files_with-clause-opened : goal.returns-in-Ok-open_files_with-clause-opened
returns-in-Ok-open_files_with-clause-opened g c =
    let (log, db) = c.in-Ok.ensures.fresh in
    let it = c.in-Ok-open_files_with.ensures in
    let same = ap₂ image (ap₂ (seen g.S.Start.log g.S.Start.db) log.0 log.1) (ap₂ (seen g.S.Start.log g.S.Start.db) db.0 db.1) in
    record {
      of_file = λ named. absurd (let refused = c.in-Ok.ensures.memory named in cc);
      own_name = elim (cases_Bool (names_log c.args.path.now)) [ inl named ↦ absurd (let refused = c.in-Ok.ensures.log named in cc) | inr own ↦ own ];
      opens = it.opened;
      finds = λ clean. let found = it.found clean in subst (λ i. FindsIn i (file_state c.in-Ok-open_files_with.conn)) same (record { holds = found.holds; reads = found.reads });
      plain = λ clean blank. it.sums clean (subst (IsBlankAs false) (sym same) blank);
      fresh = it.fresh;
      guarded = it.guarded;
    }

pub returns-in-Err-clause-unopened : goal.returns-in-Err-clause-unopened
returns-in-Err-clause-unopened g c = record {
  named = c.in-Err.ensures.named;
  in_memory = λ named. let refused = c.in-Err.ensures.memory named in cc;
  early = λ none. c.in-Err.ensures.early;
  late = tt;
}

pub returns-in-Err-open_files_with-clause-unopened : goal.returns-in-Err-open_files_with-clause-unopened
returns-in-Err-open_files_with-clause-unopened g c =
    let failed = c.in-Err-open_files_with.ensures in
    record {
      named = failed.named;
      in_memory = λ named. absurd (let refused = c.in-Ok.ensures.memory named in cc);
      early = λ none. absurd (cc);
      late = (c.in-Ok.files, c.in-Ok.ensures.fresh.0, c.in-Ok.ensures.fresh.1, λ clean. (failed.cause clean, failed.unharmed clean));
    }
