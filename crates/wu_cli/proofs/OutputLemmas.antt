-- Rows that are taken one after another have their files.
use Rattle.std.proofs.Common.{◌≡◌, ◌∙◌, ◌+◌, ◌∷◌, ℕ, suc, arith, Bool, true, false, List, [], length, None, Result, Ok, Err, ap, inl, inr, refl, subst, sym}
use Rattle.std.proofs.lemmas.List.Elements.{All-cons, All-nil}
use Rattle.wu_core.specs.declared.fault.Fault.{Fault}
use Rattle.wu_core.specs.declared.workunit.Archived.{Archived}
use Rattle.sqlite.specs.Held.{Held}
use Rattle.sqlite.specs.Store.{Ghosts}
use Rattle.wu_core.specs.Storable.{IsArchiveStorable}
use Rattle.wu_views.specs.Lines.{archived_lines}
use Rattle.wu_views.specs.Walking.{HandsOver, TakesAll, TakesFront, Walked}
use Rattle.wu_arguments.specs.declared.order.OutputFiles.{OutputFiles}
use Rattle.wu_cli.specs.Outputs.{HaveFiles, HaveFront, IsCause, is_wanted, KeepsOutputs, KeepsRow, KeepsRowIf, KeepsRows, LosesRow, output_path, total, trouble_of_walk, wanted_of}
use Rattle.wu_cli.specs.declared.outputs.KeptCounts.{KeptCounts}
use Rattle.wu_cli.specs.declared.outputs.OutputKeeper.{OutputKeeper}
use Rattle.wu_cli.specs.declared.trouble.Trouble.{Trouble}

module _ {F : Type 0} (keeps : F → List ℕ → List ℕ → Type 0) where
  -- These rows were taken, by a keeper that then has the same task.
  record AreTaken (first last : OutputKeeper F) (rows : List Archived) : Type 0 where
    pub files : last.files.now ≡ first.files.now
    pub asked : last.asked.now ≡ first.asked.now
    pub lost : last.lost ≡ first.lost
    pub have : HaveFiles (keeps first.files.now) first.asked.now rows
    pub count : total last.kept ≡ total first.kept + length (wanted_of first.asked.now rows)

  abbrev Rest : F → OutputFiles → List Archived → Type 0
  Rest files asked rows = HaveFiles (keeps files) asked rows

  taken_if : (first next last : OutputKeeper F) (row : Archived) (rows : List Archived) (b : Bool) → is_wanted first.asked.now.name row ≡ b
      → KeepsRowIf keeps b first next row → AreTaken next last rows → AreTaken first last (row ∷ rows)
  taken_if first next last row rows false is same rest =
      let it : AreTaken first last rows = subst (λ (k : OutputKeeper F). AreTaken k last rows) same rest in
      let have : HaveFiles (keeps first.files.now) first.asked.now (row ∷ rows) = rw is it.have in
      let count : total last.kept ≡ total first.kept + length (wanted_of first.asked.now (row ∷ rows)) = rw is it.count in
      record { files = it.files; asked = it.asked; lost = it.lost; have = have; count = count }
  taken_if first next last row rows true is kept rest =
      let have_next : Rest first.files.now first.asked.now rows =
      subst (λ (a : OutputFiles). Rest first.files.now a rows) kept.asked (subst (λ (f : F). Rest f next.asked.now rows) kept.files rest.have) in
      let count_next : total last.kept ≡ total next.kept + length (wanted_of first.asked.now rows) =
      subst (λ (a : OutputFiles). total last.kept ≡ total next.kept + length (wanted_of a rows)) kept.asked rest.count in
      let here : Archived → Type 0 = λ r. keeps first.files.now (output_path first.asked.now.folder r.name) r.output in
      let have : HaveFiles (keeps first.files.now) first.asked.now (row ∷ rows) = rw is (All-cons here row (wanted_of first.asked.now rows) kept.has.file have_next) in
      let more : total next.kept ≡ suc (total first.kept) = kept.has.one_more in
      let counted : total last.kept ≡ total first.kept + suc (length (wanted_of first.asked.now rows)) = omega (arith, count_next, more) in
      let count : total last.kept ≡ total first.kept + length (wanted_of first.asked.now (row ∷ rows)) = rw is counted in
      record { files = rest.files ∙ kept.files; asked = rest.asked ∙ kept.asked; lost = rest.lost ∙ kept.lost; have = have; count = count }

  taken : (first last : OutputKeeper F) (rows : List Archived) → TakesAll (KeepsRow keeps) first last rows → AreTaken first last rows
  taken first last [] same =
      subst (λ (k : OutputKeeper F). AreTaken first k []) (sym same) (record { files = refl; asked = refl; lost = refl; have = All-nil (λ (r : Archived). keeps first.files.now (output_path first.asked.now.folder r.name) r.output); count = omega arith })
  taken first last (row ∷ rows) (next, one, rest) =
      taken_if first next last row rows (is_wanted first.asked.now.name row) refl one (taken next last rows rest)

  -- What a walk with this keeper answers.
  abbrev pub answer_of : Result (Unit {0}) Fault → OutputKeeper F → Result KeptCounts Trouble
  answer_of (Ok it) last = Ok last.kept
  answer_of (Err fault) last = Err (trouble_of_walk last.lost fault)

  module _ (first last : OutputKeeper F) (none : first.lost ≡ None) (zero : total first.kept ≡ 0) where
    front_kept : (rows : List Archived) (fault : Fault) → TakesFront (KeepsRow keeps) LosesRow first last rows fault
        → HaveFront (keeps first.files.now) first.asked.now rows (trouble_of_walk last.lost fault)
    front_kept rows fault front =
        let it = taken first front.last front.front front.taken in
        let cause : IsCause (keeps first.files.now) first.asked.now front.rest (trouble_of_walk last.lost fault) = elim front.cause [
          | inl (is, stops) ↦
              let wanted = subst (λ (a : OutputFiles). is_wanted a.name stops.line ≡ true) it.asked stops.refused.2 in
              inl (stops.line, stops.more, stops.refused.0, stops.next, wanted, stops.refused.3, ap (λ l. trouble_of_walk l fault) stops.refused.1)
          | inr (store, same) ↦
              let lost : last.lost ≡ None = ap (λ (k : OutputKeeper F). k.lost) same ∙ it.lost ∙ none in
              inr (fault, store, ap (λ l. trouble_of_walk l fault) lost)
        ] in
        record { front = front.front; rest = front.rest; all = front.all; files = it.have; cause = cause }

    -- The rows that a walk hands on are kept, all or the first ones.
    pub rows_kept : (walked : Result (Unit {0}) Fault) (rows : List Archived) → HandsOver (KeepsRow keeps) LosesRow first last rows walked
        → KeepsRows (keeps first.files.now) first.asked.now rows (answer_of walked last)
    rows_kept (Ok it) rows all =
        let done = taken first last rows all in
        let counted : total last.kept ≡ length (wanted_of first.asked.now rows) = omega (arith, done.count, zero) in
        (done.have, counted)
    rows_kept (Err fault) rows front = front_kept rows fault front

module _ {S F : Type 0} (g : Ghosts S) (keeps : F → List ℕ → List ℕ → Type 0) (first last : OutputKeeper F) (none : first.lost ≡ None) (zero : total first.kept ≡ 0) (old new : Held S) where
  -- So it is of a walk over a database.
  pub outputs_kept : (walked : Result (Unit {0}) Fault) → Walked g archived_lines IsArchiveStorable (KeepsRow keeps) LosesRow old new first last walked
      → KeepsOutputs g (keeps first.files.now) first.asked.now old new (answer_of keeps walked last)
  outputs_kept walked it = record {
    asks = (walked, it.asks);
    some = (it.hands.0, rows_kept keeps first last none zero walked it.hands.0 it.hands.1);
    archive = λ clean world known refines. rows_kept keeps first last none zero walked (archived_lines world) (it.lines clean world known refines);
  }
