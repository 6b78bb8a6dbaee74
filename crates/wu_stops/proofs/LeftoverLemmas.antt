-- What is found where the leftover of an opening that failed is opened again after a stop.
use Rattle.std.proofs.Common.{◌≡◌, ℕ, zero, suc, ◌*◌, ◌%◌, ◌<◌, ◌≤◌, IsTrue, Bool, true, false, cond, List, [], ◌∷◌, ◌++◌, ◌-◌, codes, length, take, slice_index, Option, Some, unwrap_or, refl, sym, ap, subst, ◌∙◌, inl, inr, arith, get_or-take, zero-add, eqb-true, eq-eqb, ne_eqb}
use Rattle.std.proofs.Math.Logic.{∥∥₁_elim, ∥∥₁_map}
use Rattle.std.proofs.lemmas.Bool.{cases_Bool, cases_eq, cases_lt}
use Rattle.sqlite_disk.specs.declared.Disk.{Ghosts}
use Rattle.sqlite_disk.specs.declared.Files.{Files}
use Rattle.sqlite_wal.specs.Files.{outcomes, seen_image}
use Rattle.sqlite_wal.specs.Format.{part}
use Rattle.sqlite_wal.specs.Reads.{AreClean}
use Rattle.sqlite_wal.specs.Recovery.{Image, IsIgnored, Pages, pages_after}
use Rattle.sqlite_wal.proofs.AppendLemmas.{some_value, page_from_pages}
use Rattle.sqlite_wal.proofs.LogLemmas.{SeenMayStay}
use Rattle.sqlite_wal.proofs.PartLemmas.{part_within, slice_index-part}
use Rattle.sqlite_wal.proofs.RecoveryLemmas.{replays_once}
use Rattle.sqlite_pool.proofs.ProbeLemmas.{first_byte, reserved_word, size_by_file, size_by_log}
use Rattle.sqlite_pool.proofs.StateLemmas.{clean_is, may_leave_is}
use Rattle.sqlite_pool.specs.File.{header_in, IsSoundFile}
use Rattle.sqlite_pool.specs.Opening.{IsBlankFile}
use Rattle.sqlite_pool.specs.Stored.{Adopts, StandsAs, is_summed, reserved, stored_size, used_size}
use Rattle.sqlite_pool.specs.StoredLaws.{trimmed_some}
use Rattle.sqlite_store.specs.FileStore.{recovers, state, view}
use Rattle.sqlite_store.specs.Unopened.{state_of}
use Rattle.sqlite_store.specs.declared.store.FileStore.{FileStore}
use Rattle.sqlite.proofs.FileLemmas.{is_something}
use Rattle.sqlite.proofs.ListingLemmas.{empty_is_sound}
use Rattle.sqlite.proofs.Theorems.{next_run}
use Rattle.sqlite.specs.Closing.{files_left}
use Rattle.sqlite_catalog.specs.Listing.{IsSound}
use Rattle.sqlite_wal.specs.Recovery as raw
use Rattle.sqlite.specs.Files.{AreFoundIn, Finds, IsEmpty, IsNothing, NamesSize, SaysSums, file_state, image_of}
use Rattle.sqlite.specs.Held.{Held, AreDatabases}
use Rattle.sqlite.specs.Tree.{Trees}
use Rattle.sqlite.specs.declared.file.Leftover.{Leftover}
use Rattle.sqlite.specs.declared.file.Leftover.TheVariants as left
use Rattle.wu_core.specs.World.{World}
use Rattle.wu_passes.specs.Committing.{FoundAs}
use Rattle.wu_stops.specs.Leftovers.{HoldsPlainly, IsLeftOf, IsNumberedLeft, StayBlank, StayWorld}
use Rattle.wu_stops.proofs.BeginningLemmas.{no_database}
use Rattle.wu_stops.proofs.StoppingLemmas.{and_both}

-- ---- files that are taken for no database hold none, whatever the size of their pages

past_one : (bytes : List ℕ) → length bytes ≤ 1 → slice_index bytes 1 ≡ 0
past_one [] short = refl
past_one (x ∷ []) short = refl
past_one (x ∷ (y ∷ bytes)) short = absurd (omega (arith, short))

short_header : (size : ℕ) (page : List ℕ) → size ≤ 1 → length (take 100 (take size page)) ≤ 1
short_header zero page few = omega arith
short_header (suc size) [] few = omega arith
short_header (suc zero) (x ∷ page) few = omega arith
short_header (suc (suc size)) (x ∷ page) few = absurd (omega (arith, few))

module _ (size : ℕ) (image : Image) (pages : Pages) (adopts : Adopts size image pages) (sound : IsSoundFile size pages) where
  first_page_is : (page : List ℕ) → adopts.stored 1 ≡ Some page → header_in pages ≡ take 100 (take size page)
  first_page_is page is =
      let used : pages 1 ≡ Some (take size page) = ap (λ (p : Pages). p 1) (sym adopts.shows) ∙ trimmed_some size _ 1 page is in
      ap (λ (o : Option (List ℕ)). take 100 (unwrap_or o [])) used

  letter : (k : ℕ) → k < 16 → slice_index (header_in pages) k ≡ slice_index (codes "SQLite format 3" ++ 0 ∷ []) k
  letter k low = sym (get_or-take 16 (header_in pages) k 0 low) ∙ ap (λ (b : List ℕ). slice_index b k) sound.header.0.magic

  -- a file's first page has more than a byte
  some_size : 1 < size
  some_size =
      let (page, is) = some_value (adopts.stored 1) adopts.whole.first in
      elim (cases_lt 1 size) [
        | inl more ↦ more
        | inr few ↦
            let short : length (take 100 (take size page)) ≤ 1 = short_header size page few in
            let none : slice_index (header_in pages) 1 ≡ 0 = ap (λ (b : List ℕ). slice_index b 1) (first_page_is page is) ∙ past_one _ short in
            absurd (omega (arith, letter 1 (omega arith), none))
      ]

  -- with no frame to replay, its first byte is that of the database file
  first_in_file : adopts.found.frames ≡ 0 → (1 < length image.db) × (slice_index image.db 0 ≡ 83)
  first_in_file none =
      let whole = stored_size size in
      let some = some_size in
      let (page, is) = some_value (adopts.stored 1) adopts.whole.first in
      let alone : pages_after whole image.log image.db 0 1 ≡ Some page = ap (λ (p : Pages). p 1) (ap (pages_after whole image.log image.db) (sym none) ∙ adopts.found.gives) ∙ is in
      let start : (1 - 1) * whole ≡ 0 = omega arith in
      let front : part image.db 0 whole ≡ page = ap (λ (at : ℕ). part image.db at whole) (sym start) ∙ (page_from_pages whole image.log image.db 0 1 page alone).0 in
      let long = part_within image.db 0 whole (omega (arith, some)) (ap length front ∙ adopts.whole.sized 1 page is) in
      let head : header_in pages ≡ take 100 (take size (part image.db 0 whole)) = first_page_is page is ∙ ap (λ (b : List ℕ). take 100 (take size b)) (sym front) in
      let byte : slice_index (header_in pages) 0 ≡ slice_index image.db 0 =
      ap (λ (b : List ℕ). slice_index b 0) head ∙ get_or-take 100 (take size (part image.db 0 whole)) 0 0 (omega arith)
      ∙ get_or-take size (part image.db 0 whole) 0 0 (omega (arith, some)) ∙ slice_index-part image.db 0 whole 0 (omega (arith, some)) ∙ ap (slice_index image.db) (zero-add 0) in
      (omega (arith, some, long), sym byte ∙ letter 0 (omega arith))

  not_blank : (other : ℕ) → 0 < other → ¬ IsBlankFile other image
  not_blank other some (inl none) = omega (arith, none, adopts.found.present)
  not_blank other some (inr blank) =
      let raw = adopts.found in
      let none : raw.frames ≡ 0 = elim blank.0 [
        | inl ignored ↦ replays_once (stored_size size) image.log raw.frames 0 raw.replays (inl (ignored.0, refl))
        | inr taken ↦ elim raw.replays [
          | inl ignored ↦ ignored.1
          | inr ours ↦ replays_once (stored_size size) image.log raw.frames 0 raw.replays (rw (sym ours.0.head.size ∙ taken.0.head.size) blank.0)
        ]
      ] in
      let (long, magic) = first_in_file none in
      elim blank.1.0 [
        | inl short ↦ omega (arith, short, long)
        | inr more ↦ elim more [ inl zero' ↦ omega (arith, zero'.1, magic) | inr rest ↦ rest.1 (magic ∙ sym (first_byte other some)) ]
      ]

-- so what is found of them is empty
nothing_empty : (image : Image) (db : Trees) → IsNothing image → AreFoundIn image db → ∥ IsEmpty db ∥₁
nothing_empty image db nothing (inr (same, empty)) = ∣ empty ∣₁
nothing_empty image db nothing (inl (size, pages, wanted, adopts, ours, reads)) =
    ∥∥₁_elim ours squash₁ (λ our.
    let never = not_blank size image pages adopts our.file.sound in
    absurd (elim nothing [ inl plain ↦ never (used_size 4096 false) (omega arith) plain | inr summed ↦ never (used_size 4096 true) (omega arith) summed ]))

-- ---- an outcome that stands for what the files stood for holds their tables still

reserved_is : (size : ℕ) (summed : Bool) → is_summed size ≡ summed → reserved size ≡ cond summed 8 0
reserved_is size true is = eqb-true _ _ is
reserved_is size false is = elim (cases_eq (size % 16) 8) [
  | inl same ↦ let e = eq-eqb (size % 16) 8 same in let x = rw e at is in cc
  | inr other ↦ rw (ne_eqb (size % 16) 8 other) refl
]

module _ (old : Image) (size : ℕ) (names : NamesSize old (stored_size size)) (says : IsTrue (is_summed size) → SaysSums (stored_size size) old) (world : World) (held : HoldsPlainly old world) where
  plain_size : stored_size held.size ≡ held.size
  plain_size = omega (arith, reserved_is held.size false held.plain)

  large : 504 ≤ held.size
  large = omega (arith, held.valid.0, plain_size)

  same_stored : stored_size size ≡ stored_size held.size
  same_stored =
      let by_log = size_by_log held.size old held.holds.pages held.holds.found in
      let by_file = size_by_file held.size old held.holds.pages held.holds.found large held.holds.ours.file.sound in
      elim (cases_eq (stored_size size) (stored_size held.size)) [
        | inl same ↦ same
        | inr other ↦
            let read : ¬ IsIgnored old.log = λ ignored. other (names.1 ignored ∙ by_file ignored) in
            absurd (other (names.0 read ∙ by_log read))
      ]

  same_size : size ≡ held.size
  same_size = elim (cases_Bool (is_summed size)) [
    | inl summed ↦
        let (first, is, len, word, byte) = reserved_word held.size old held.holds.pages held.holds.found large held.holds.ours.file.sound in
        let said = says summed held.holds.found.stored first (subst (λ n. raw.Recovers n old held.holds.found.stored) (sym same_stored) held.holds.found.found) is (len ∙ sym same_stored) in
        absurd (omega (arith, said, word, reserved_is held.size false held.plain))
    | inr plain ↦ omega (arith, same_stored, plain_size, reserved_is size false plain)
  ]

  pub stands_still : (new : Image) → StandsAs size old new → HoldsPlainly new world
  stands_still new stands =
      let kept = subst (λ n. (pages : Pages) → Adopts n old pages → Adopts n new pages) same_size stands.1 in
      let there = held.holds in
      record {
        size = held.size;
        valid = held.valid;
        plain = held.plain;
        trees = held.trees;
        holds = record { pages = there.pages; wanted = there.wanted; schema = there.schema; found = kept there.pages there.found; ours = there.ours; reads = there.reads; sound = there.sound };
        found = held.found;
      }

-- ---- a connection was opened over the two files that were left, after a stop

module _ {D : Type 0} {g : Ghosts D} (rest : Leftover D g) (log db log_after db_after : D) (is : (log, db) ≡ files_left rest)
    (left_log : g.may_leave log (g.seen log_after)) (left_db : g.may_leave db (g.seen db_after))
    (clean_log : IsTrue (g.is_clean log_after) → IsTrue (g.is_clean log)) (clean_db : IsTrue (g.is_clean db_after) → IsTrue (g.is_clean db))
    (again : Held (FileStore D g)) (found : Finds (record { log = log_after; db = db_after }) again)
    (files : Files D) (told : IsLeftOf g files rest) (numbered : IsNumberedLeft rest) where
  abbrev after : Image
  after = seen_image g log_after db_after

  abbrev trees : Trees
  trees = (file_state again).committed.trees

  sure : AreClean g log db
  sure = and_both _ _ _ _ clean_log clean_db found.honest

  pub world_again : SeenMayStay g → (world : World) → StayWorld g files world → ∥ FoundAs trees world ∥₁
  world_again stays world stay = ∥∥₁_elim (stay (image_of g files) (stays files.log, stays files.db)) squash₁ (λ holds. go holds rest is told numbered)
    where
      held_again : HoldsPlainly after world → FoundAs trees world
      held_again held = subst (λ (db : Trees). FoundAs db world) (sym (found.holds held.trees (held.size, held.valid, held.holds))) held.found

      go : HoldsPlainly (image_of g files) world → (rest : Leftover D g) → (log, db) ≡ files_left rest → IsLeftOf g files rest → IsNumberedLeft rest → ∥ FoundAs trees world ∥₁
      go holds (left.Files now) is told numbered =
          let clean = subst (λ (p : D × D). AreClean g p.0 p.1) is sure in
          ∥∥₁_map (stay after (told clean after (subst (λ (p : D × D). outcomes g p.0 p.1 after) is (left_log, left_db)))) held_again
      go holds (left.Unopened now) is told numbered =
          let honest = subst (λ (p : D × D). AreClean g p.0 p.1) is sure in
          let clean : IsTrue (state_of now).is_clean = clean_is now.pool ∙ honest in
          let may : (state_of now).may_leave after = may_leave_is now.pool after honest (subst (λ (p : D × D). outcomes g p.0 p.1 after) is (left_log, left_db)) in
          elim (told clean) [
            | inl (nothing, under) ↦ absurd (is_something (image_of g files) holds.trees (holds.size, holds.valid, holds.holds) nothing)
            | inr (something, names, begins, says, kept) ↦ elim (kept after may).same [
              | inl before ↦ ∥∥₁_map (stay after before) held_again
              | inr stands ↦ ∣ held_again (stands_still (image_of g files) (state_of now).page_size names says world holds after stands) ∣₁
            ]
          ]
      go holds (left.Store now) is told numbered =
          let honest = subst (λ (p : D × D). AreClean g p.0 p.1) is sure in
          let clean : IsTrue (view now).is_clean = clean_is now.pool ∙ honest in
          let may : (state now).may_leave after = may_leave_is now.pool after honest (subst (λ (p : D × D). outcomes g p.0 p.1 after) is (left_log, left_db)) in
          let only : (db : Trees) → recovers now db → db ≡ holds.trees = λ db may. (told clean db may).1 holds.trees (holds.size, holds.valid, holds.holds) in
          let sound : AreDatabases (recovers now) = λ db may. (holds.holds.schema, subst (IsSound holds.holds.schema) (sym (only db may)) holds.holds.sound) in
          ∥∥₁_map (next_run now numbered sound after may (file_state again) (record { holds = found.holds; reads = found.reads })) (λ may.
          subst (λ (db : Trees). FoundAs db world) (sym (only _ may)) holds.found)

  pub empty_again : SeenMayStay g → StayBlank g files → ∥ IsEmpty trees ∥₁
  empty_again stays stay = go rest is told numbered
    where
      still : after.db ≡ [] → ∥ IsEmpty trees ∥₁
      still none = ∣ no_database after trees none found.reads ∣₁

      go : (rest : Leftover D g) → (log, db) ≡ files_left rest → IsLeftOf g files rest → IsNumberedLeft rest → ∥ IsEmpty trees ∥₁
      go (left.Files now) is told numbered =
          let clean = subst (λ (p : D × D). AreClean g p.0 p.1) is sure in
          still (stay after (told clean after (subst (λ (p : D × D). outcomes g p.0 p.1 after) is (left_log, left_db))))
      go (left.Unopened now) is told numbered =
          let honest = subst (λ (p : D × D). AreClean g p.0 p.1) is sure in
          let clean : IsTrue (state_of now).is_clean = clean_is now.pool ∙ honest in
          let may : (state_of now).may_leave after = may_leave_is now.pool after honest (subst (λ (p : D × D). outcomes g p.0 p.1 after) is (left_log, left_db)) in
          elim (told clean) [
            | inl (nothing, under) ↦ elim (under after may) [
              | inl before ↦ still (stay after before)
              | inr (inl blank) ↦ nothing_empty after trees blank found.reads
              | inr (inr made) ↦ ∥∥₁_map made (λ it. subst IsEmpty (sym (found.holds it.0 it.1)) it.2)
            ]
            | inr (something, names, begins, says, kept) ↦ absurd (something (inl (inl (ap length (stay (image_of g files) (stays files.log, stays files.db))))))
          ]
      go (left.Store now) is told numbered =
          let honest = subst (λ (p : D × D). AreClean g p.0 p.1) is sure in
          let clean : IsTrue (view now).is_clean = clean_is now.pool ∙ honest in
          let may : (state now).may_leave after = may_leave_is now.pool after honest (subst (λ (p : D × D). outcomes g p.0 p.1 after) is (left_log, left_db)) in
          let empty : (db : Trees) → recovers now db → IsEmpty db = λ db may. no_database (image_of g files) db (stay (image_of g files) (stays files.log, stays files.db)) (told clean db may).0 in
          let sound : AreDatabases (recovers now) = λ db may. (_, empty_is_sound db (empty db may).1) in
          ∥∥₁_map (next_run now numbered sound after may (file_state again) (record { holds = found.holds; reads = found.reads })) (λ may. empty _ may)
