-- The lines that a walk hands on are written one after another, and what is known of a view then.
use Rattle.std.proofs.Common.{◌≡◌, ℕ, false, List, [], ◌∷◌, ◌++◌, flat_map, Option, Some, None, Result, Ok, Err, inl, inr, refl, sym, ap, subst, ◌∙◌, append_assoc}
use Rattle.std.proofs.KnownBytes.{Appends-nil, Appends-trans}
use Rattle.std.proofs.lemmas.Bool.{cases_Bool, true≢false}
use Rattle.std.proofs.lemmas.List.Concat.{flat_map-append}
use Rattle.std.specs.Prelude.{◌⊎◌, ◌≢◌, IfErr, IfSome, IsErr, IsErrAnd, IsTrue, MatchResult, OnOk}
use Rattle.std.specs.Io.KnownBytes.{Appends}
use Rattle.sqlite.specs.State.{HasCleanDisk}
use Rattle.sqlite_trees.specs.declared.store.Store.{Ghosts}
use Rattle.wu_core.specs.World.{World}
use Rattle.wu_core.specs.declared.fault.Fault.{Fault}
use Rattle.wu_core.specs.declared.fault.Fault.TheVariants.{NotAProject, OldSchema, Output}
use Rattle.wu_schema.specs.Faults.{IsFailure, IsStoreFault}
use Rattle.wu_schema.specs.Refines.{Refines}
use Rattle.wu_schema.proofs.AskingLemmas.{never_failed}
use Rattle.wu_store.specs.StandsFor.{KnowsClasses}
use Rattle.wu_views.specs.Walking.{HandsOver, TakesAll, TakesFront, Walked}
use Rattle.wu_passes.specs.declared.project.Project.{Project}
use Rattle.wu_passes.specs.Projects.{connection_of, has_ended, IsPresentSession, IsSessionOpen, older_version, state_of}
use Rattle.wu_passes.specs.Standing.{ShowsWorld}
use Rattle.wu_passes.specs.Walks.{OnlyReads, RefusesWalk, WalksOver}
use Rattle.wu_report.specs.declared.views.LineWriter.{LineWriter}
use Rattle.wu_report.specs.Projects.{ReadsSession}
use Rattle.wu_report.proofs.WritingLemmas.{AppendsFront-nothing, AppendsFront-part, IsCut-after, IsCut-longer}
use Rattle.wu_report.specs.Texts.{summary_lines}
use Rattle.wu_report.specs.Views.{CutsOutput, RefusesWith, WritesCounts, WritesView}
use Rattle.wu_views.specs.Summaries.{CountsCredit, CountsStates, granted_in, results_in}
use Rattle.wu_views.specs.declared.lines.Summary.{Summary}
use Rattle.wu_report.specs.Writers.{CutsLine, WritesLine}
use Rattle.wu_report.specs.Writing.{AppendsFront, IsCut, WritesBytes}

-- what only reads ends no session
pub reads_session : {S T : Type 0} {g : Ghosts S} (old new : Project S g) (r : Result T Fault) → OnlyReads old new → ReadsSession old new r
reads_session old new r it = record { read = it.read; limit = it.limit; version = it.version; ends = λ going ended. absurd (true≢false (sym ended ∙ it.session ∙ going)) }

-- ---- what is cut

-- a text that failed is cut
pub outputs_cut : {T : Type 0} (a b : Option (List ℕ)) (bytes : List ℕ) (r : Result T Fault) → IfErr r (λ _. IsCut a b bytes) → CutsOutput a b bytes r
outputs_cut a b bytes (Ok x) cut = tt
outputs_cut a b bytes (Err fault) cut = λ _. cut

-- what `?` hands on is nothing of the output where the fault is none
pub other_fault : {U : Type 0} (a b : Option (List ℕ)) (bytes : List ℕ) (r : Result U Fault) (fault : Fault) → IsErrAnd r (λ other. other ≡ fault) → fault ≢ Output → CutsOutput a b bytes r
other_fault a b bytes (Ok y) fault same never = tt
other_fault a b bytes (Err other) fault same never = λ is. absurd (never (sym same ∙ is))

-- a fault of the store is none
pub never_output : (fault : Fault) → IsStoreFault fault → fault ≢ Output
never_output fault (inl memory) is = absurd (let no = sym memory ∙ is in cc)
never_output fault (inr (inl broken)) is = absurd (let no = sym broken ∙ is in cc)
never_output fault (inr (inr none)) is = absurd (let no = sym none ∙ is in cc)

never_failed_output : (fault : Fault) → IsFailure fault → fault ≢ Output
never_failed_output fault (inl memory) is = absurd (let no = sym memory ∙ is in cc)
never_failed_output fault (inr broken) is = absurd (let no = sym broken ∙ is in cc)

-- ---- lines that are written

pub cut_front : (a b : Option (List ℕ)) (bytes : List ℕ) → IsCut a b bytes → AppendsFront a b bytes
unfolding IsCut
cut_front a b bytes (count, less, h) = (count, h)

module _ {W T : Type 0} (contents : W → Option (List ℕ)) (text : T → List ℕ) where
  abbrev pub Takes : LineWriter W → LineWriter W → T → Type 0
  Takes old new line = WritesLine contents old new (text line)

  abbrev pub Refuses : LineWriter W → LineWriter W → T → Type 0
  Refuses old new line = CutsLine contents old new (text line)

  -- their texts are
  pub all_written : (a b : LineWriter W) (lines : List T) → TakesAll Takes a b lines → WritesLine contents a b (flat_map text lines)
  all_written a b [] same = record { same_reference = ap (λ (w : LineWriter W). w.out.ghost_name) same; text_is = subst (λ (w : LineWriter W). Appends (contents a.out.now) (contents w.out.now) []) (sym same) (Appends-nil (contents a.out.now)) }
  all_written a b (line ∷ lines) (next, one, rest) =
      let more = all_written next b lines rest in
      record {
        same_reference = more.same_reference ∙ one.same_reference;
        text_is = Appends-trans (contents a.out.now) (contents next.out.now) (contents b.out.now) (text line) (flat_map text lines) one.text_is more.text_is;
      }

  module _ (a b : LineWriter W) (lines : List T) (fault : Fault) (it : TakesFront Takes Refuses a b lines fault) where
    begun : WritesLine contents a it.last (flat_map text it.front)
    begun = all_written a it.last it.front it.taken

    whole : flat_map text lines ≡ flat_map text it.front ++ flat_map text it.rest
    whole = ap (flat_map text) it.all ∙ flat_map-append text it.front it.rest

    -- up to a fault the writer stays where it is
    pub front_place : b.out.ghost_name ≡ a.out.ghost_name
    front_place = elim it.cause [
      | inl stop ↦ stop.1.refused.same_reference ∙ begun.same_reference
      | inr kept ↦ ap (λ (w : LineWriter W). w.out.ghost_name) kept.1 ∙ begun.same_reference
    ]

    -- a line that is refused cuts the text
    pub front_cut : fault ≡ Output → IsCut (contents a.out.now) (contents b.out.now) (flat_map text lines)
    front_cut is = elim it.cause [
      | inl stop ↦
          let line = stop.1.line in
          let more = stop.1.more in
          let cut = IsCut-longer _ _ (flat_map text it.front ++ text line) (flat_map text more) (IsCut-after (contents a.out.now) (contents it.last.out.now) (contents b.out.now) (flat_map text it.front) (text line) begun.text_is stop.1.refused.cut) in
          let same = whole ∙ ap (λ ls. flat_map text it.front ++ flat_map text ls) stop.1.next ∙ sym (append_assoc (flat_map text it.front) (text line) (flat_map text more)) in
          subst (IsCut (contents a.out.now) (contents b.out.now)) (sym same) cut
      | inr kept ↦ absurd (never_output fault kept.0 is)
    ]

    -- what was written is a beginning
    pub front_written : AppendsFront (contents a.out.now) (contents b.out.now) (flat_map text lines)
    front_written = elim it.cause [
      | inl stop ↦ cut_front _ _ _ (front_cut stop.0)
      | inr kept ↦
          let part = AppendsFront-part (contents a.out.now) (contents it.last.out.now) (flat_map text it.front) (flat_map text it.rest) begun.text_is in
          subst (λ (w : LineWriter W). AppendsFront (contents a.out.now) (contents w.out.now) (flat_map text lines)) (sym kept.1) (subst (AppendsFront (contents a.out.now) (contents it.last.out.now)) (sym whole) part)
    ]

  -- lines that were handed over are written, or cut
  pub handed_place : (a b : LineWriter W) (lines : List T) (r : Result (Unit {0}) Fault) → HandsOver Takes Refuses a b lines r → b.out.ghost_name ≡ a.out.ghost_name
  handed_place a b lines (Ok x) all = (all_written a b lines all).same_reference
  handed_place a b lines (Err fault) front = front_place a b lines fault front

  pub handed_written : (a b : LineWriter W) (lines : List T) (r : Result (Unit {0}) Fault) → HandsOver Takes Refuses a b lines r → WritesBytes (contents a.out.now) (contents b.out.now) (flat_map text lines) r
  handed_written a b lines (Ok x) all = (all_written a b lines all).text_is
  handed_written a b lines (Err fault) front = front_written a b lines fault front

  pub handed_cut : (a b : LineWriter W) (lines : List T) (r : Result (Unit {0}) Fault) → HandsOver Takes Refuses a b lines r → CutsOutput (contents a.out.now) (contents b.out.now) (flat_map text lines) r
  handed_cut a b lines (Ok x) all = tt
  handed_cut a b lines (Err fault) front = front_cut a b lines fault front

-- ---- a view of them

module _ {S W T : Type 0} {g : Ghosts S} (contents : W → Option (List ℕ)) (text : T → List ℕ) (lines_of : World → List T) (IsReadable : World → Type 0) (old new : Project S g) (a b : LineWriter W) where
  abbrev pub IsWalk : Result (Unit {0}) Fault → Type 0
  IsWalk r = WalksOver lines_of IsReadable (Takes contents text) (Refuses contents text) old new a b r

  abbrev Begins : Result (Unit {0}) Fault → Type 0
  Begins r = Walked g lines_of IsReadable (Takes contents text) (Refuses contents text) (connection_of old) (connection_of new) a b r

  abbrev IsOlder : Result (Unit {0}) Fault → Type 0
  IsOlder r = (version : ℕ) × (older_version old ≡ Some version) × RefusesWalk old new a b r (OldSchema version)

  -- it is refused over an older version, or begins
  either : (r : Result (Unit {0}) Fault) → IsWalk r → IsSessionOpen old → IsOlder r ⊎ (IsPresentSession old × Begins r)
  either r it going = by (older_version old) refl (it.older going)
    where
      by : (older : Option ℕ) → older_version old ≡ older → IfSome older (λ version. RefusesWalk old new a b r (OldSchema version)) → IsOlder r ⊎ (IsPresentSession old × Begins r)
      by None present told = inr (present, it.walked going present)
      by (Some version) present told = inl (version, present, told)

  -- the writer stays where it is
  pub same_place : (r : Result (Unit {0}) Fault) → IsWalk r → b.out.ghost_name ≡ a.out.ghost_name
  same_place r it = elim (cases_Bool (has_ended old)) [
    | inl over ↦ ap (λ (w : LineWriter W). w.out.ghost_name) (it.ended over).2
    | inr going ↦ elim (either r it going) [
      | inl older ↦ ap (λ (w : LineWriter W). w.out.ghost_name) older.2.2
      | inr starts ↦ handed_place contents text a b starts.1.hands.0 r starts.1.hands.1
    ]
  ]

  nothing_written : (bytes : List ℕ) (r : Result (Unit {0}) Fault) → IsErr r → b ≡ a → WritesBytes (contents a.out.now) (contents b.out.now) bytes r
  nothing_written bytes (Ok x) failed same = cc
  nothing_written bytes (Err fault) failed same = subst (λ (w : LineWriter W). AppendsFront (contents a.out.now) (contents w.out.now) bytes) (sym same) (AppendsFront-nothing (contents a.out.now) bytes)

  is_failed : (r : Result (Unit {0}) Fault) (fault : Fault) → r ≡ Err fault → IsErr r
  is_failed (Ok x) fault told = absurd cc
  is_failed (Err other) fault told = refl

  -- the tables stand for the world, where the connection was open
  stands_open : (world : World) → ShowsWorld (state_of old) world → IsTrue (state_of old).is_open → Refines (state_of old).now world
  stands_open world shows was = (shows was).0.refines

  by_open : {A : Type 0} → (IsTrue (state_of old).is_open → A) → ((state_of old).is_open ≡ false → A) → A
  by_open opened shut = elim (cases_Bool (state_of old).is_open) [ inl is ↦ opened is | inr closed ↦ shut closed ]

  module _ (r : Result (Unit {0}) Fault) (it : IsWalk r) where
    text_written : IsSessionOpen old → HasCleanDisk (state_of new) → (world : World) → KnowsClasses world → ShowsWorld (state_of old) world → WritesBytes (contents a.out.now) (contents b.out.now) (flat_map text (lines_of world)) r
    text_written going clean world known shows = elim (either r it going) [
      | inl older ↦ nothing_written (flat_map text (lines_of world)) r (is_failed r _ older.2.0) older.2.2
      | inr starts ↦ by_open (λ was. handed_written contents text a b (lines_of world) r (starts.1.lines clean world known (stands_open world shows was)))
          (λ shut. subst (λ ls. WritesBytes (contents a.out.now) (contents b.out.now) ls r) refl (shut_written world clean starts.1 shut))
    ]
      where
        -- nothing was, where it was shut: and then it is answered with a fault
        shut_written : (world : World) → HasCleanDisk (state_of new) → Begins r → (state_of old).is_open ≡ false → WritesBytes (contents a.out.now) (contents b.out.now) (flat_map text (lines_of world)) r
        shut_written world clean starts shut = nothing_written (flat_map text (lines_of world)) r (shut_failed r starts clean shut) (starts.shut clean shut)
          where
            shut_failed : (q : Result (Unit {0}) Fault) → Begins q → HasCleanDisk (state_of new) → (state_of old).is_open ≡ false → IsErr q
            shut_failed (Err fault) starts clean shut = refl
            shut_failed (Ok x) starts clean shut = absurd (let was = (starts.asks.back clean).was_open (starts.opens clean) in cc)

    text_cut : IsSessionOpen old → HasCleanDisk (state_of new) → (world : World) → KnowsClasses world → ShowsWorld (state_of old) world → CutsOutput (contents a.out.now) (contents b.out.now) (flat_map text (lines_of world)) r
    text_cut going clean world known shows = elim (either r it going) [
      | inl older ↦ cut_older r older.2.0
      | inr starts ↦ by_open (λ was. handed_cut contents text a b (lines_of world) r (starts.1.lines clean world known (stands_open world shows was))) (λ shut. cut_shut r starts.1 clean shut)
    ]
      where
        cut_older : (q : Result (Unit {0}) Fault) {version : ℕ} → q ≡ Err (OldSchema version) → CutsOutput (contents a.out.now) (contents b.out.now) (flat_map text (lines_of world)) q
        cut_older (Ok x) told = tt
        cut_older (Err fault) told = λ is. absurd (let no = told in cc)

        cut_shut : (q : Result (Unit {0}) Fault) → Begins q → HasCleanDisk (state_of new) → (state_of old).is_open ≡ false → CutsOutput (contents a.out.now) (contents b.out.now) (flat_map text (lines_of world)) q
        cut_shut (Ok x) starts clean shut = tt
        cut_shut (Err fault) starts clean shut = λ is. elim (starts.opens clean) [
          | inl failed ↦ absurd (never_failed_output fault failed is)
          | inr still ↦ absurd (let was = (starts.asks.back clean).was_open still in cc)
        ]

    -- all that is known of it
    pub view_written : WritesView contents old new a.out.now b.out.now (λ world. flat_map text (lines_of world)) IsReadable r
    view_written = record {
      early = record {
        ended = λ over. let told = it.ended over in (told.0, told.1, ap (λ (w : LineWriter W). contents w.out.now) told.2);
        older = λ going. older_told (older_version old) (it.older going);
      };
      reads = reads_session old new r it.reads;
      opens = λ going ready. elim (either r it going) [
        | inl older ↦ elim ready [
          | inl present ↦ absurd (let no = sym present ∙ older.1 in cc)
          | inr is_open ↦ still_open r older.2.0 older.2.1 is_open
        ]
        | inr starts ↦ starts.1.opens
      ];
      text = text_written;
      cut = text_cut;
      fault = λ going present. (it.walked going present).fault;
      unrefused = λ going clean unlimited world known can shows. elim (either r it going) [
        | inl older ↦ unrefused_older r older.2.0
        | inr starts ↦ unrefused_open r starts.1 clean unlimited world known can shows
      ];
      broke = it.broke;
    }
      where
        older_told : (older : Option ℕ) → IfSome older (λ version. RefusesWalk old new a b r (OldSchema version)) → IfSome older (λ version. RefusesWith contents old new a.out.now b.out.now r (OldSchema version))
        older_told None told = told
        older_told (Some version) told = (told.0, told.1, ap (λ (w : LineWriter W). contents w.out.now) told.2)

        still_open : (q : Result (Unit {0}) Fault) {version : ℕ} → q ≡ Err (OldSchema version) → new ≡ old → IsTrue (state_of old).is_open → HasCleanDisk (state_of new) → MatchResult q (λ _. IsTrue (state_of new).is_open) (λ fault. IsFailure fault ⊎ IsTrue (state_of new).is_open)
        still_open (Ok x) told same is_open clean = absurd cc
        still_open (Err fault) told same is_open clean = inr (subst (λ (p : Project S g). IsTrue (state_of p).is_open) (sym same) is_open)

        unrefused_older : (q : Result (Unit {0}) Fault) {version : ℕ} → q ≡ Err (OldSchema version) → IfErr q (λ fault. fault ≢ NotAProject)
        unrefused_older (Ok x) told = tt
        unrefused_older (Err fault) told = λ is. absurd (let no = told in cc)

        unrefused_open : (q : Result (Unit {0}) Fault) → Begins q → HasCleanDisk (state_of new) → (state_of old).step_limit ≡ None → (world : World) → KnowsClasses world → IsReadable world → ShowsWorld (state_of old) world → IfErr q (λ fault. fault ≢ NotAProject)
        unrefused_open (Ok x) starts clean unlimited world known can shows = tt
        unrefused_open (Err fault) starts clean unlimited world known can shows = λ is. elim (starts.opens clean) [
          | inl failed ↦ absurd (never_failed fault is failed)
          | inr still ↦ starts.unrefused clean world known (stands_open world shows ((starts.asks.back clean).was_open still)) can unlimited is
        ]

-- ---- a summary

-- one that counts each row, and is written
pub counts_written : {S W : Type 0} {g : Ghosts S} (contents : W → Option (List ℕ)) (old new : Project S g) (a b : W) (summary : Summary) → CountsStates (state_of old) (state_of new) (results_in summary) → CountsCredit (state_of old) (state_of new) (granted_in summary)
    → (r : Result (Unit {0}) Fault) → WritesBytes (contents a) (contents b) (summary_lines summary) r → OnOk r (WritesCounts contents old new a b)
counts_written contents old new a b summary states credit (Ok x) written = record { summary = summary; states = states; credit = credit; text = written }
counts_written contents old new a b summary states credit (Err fault) written = tt
