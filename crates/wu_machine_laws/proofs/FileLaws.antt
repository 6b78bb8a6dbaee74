-- Rows that are applied hold after their file.
use Rattle.std.proofs.Common.{◌≡◌, ◌≢◌, ℕ, zero, suc, Bool, true, List, [], ◌∷◌, map, length, slice_get, Option, Some, None, option_map, Ok, bytes_eq, refl, sym, ap, subst, ◌∙◌, inl, inr, eq-eqb, arith}
use Rattle.std.proofs.lemmas.Bool.{cases_Bool, cases_eq, false_from_ne_true}
use Rattle.std.proofs.lemmas.List.Elements.{All-head, All-tail}
use Rattle.std.proofs.lemmas.Slice.Eq.{bytes_eq-Decides}
use Rattle.std.specs.List.{All}
use Rattle.std.specs.Option.{IsSomeAnd, option_map_or}
use Rattle.std.specs.Prelude.{⊤, ◌↔◌, ◌+◌, drop, find, if◌then◌else◌}
use Rattle.wu_core.specs.Classes.{class_of, with_class}
use Rattle.wu_core.specs.World.{World}
use Rattle.wu_core.proofs.ClassLemmas.{class_of-other, class_of-set}
use Rattle.wu_core.specs.declared.import.ImportKind.{ImportKind}
use Rattle.wu_core.specs.declared.import.ImportKind.TheVariants as kind
use Rattle.wu_core.specs.declared.states.Outcome.TheVariants as outcome
use Rattle.wu_core.specs.declared.states.ServerState.TheVariants as server
use Rattle.wu_core.specs.declared.states.Status.{Status}
use Rattle.wu_core.specs.declared.states.Status.TheVariants as status
use Rattle.wu_core.specs.declared.workunit.HostClass.{HostClass}
use Rattle.wu_core.specs.declared.workunit.Instance.{Instance}
use Rattle.wu_core.specs.declared.workunit.Workunit.{Workunit}
use Rattle.wu_feed.specs.declared.reports.ReportRow.{ReportRow}
use Rattle.wu_feed.specs.declared.sends.SendRow.{SendRow}
use Rattle.wu_rules.specs.Reporting.{report_verdict_in}
use Rattle.wu_rules.specs.Sending.{send_verdict_in}
use Rattle.wu_rules.specs.Verdicts.{report_verdict_code, send_verdict_code}
use Rattle.wu_rules.specs.declared.verdicts.SendVerdict.{SendVerdict}
use Rattle.wu_rules.specs.declared.verdicts.SendVerdict.TheVariants as send
use Rattle.wu_rules_laws.proofs.Told.{reports, sends}
use Rattle.wu_rules_laws.specs.Rows.{IsReported, IsSent, MayBeReported, MayBeSent}
use Rattle.wu_machine.proofs.StorableLemmas.{code_applied}
use Rattle.wu_machine.specs.FileRows.{Rule, after_classes, after_row, after_rows, report_rule, row_verdict, row_verdicts, send_rule, unknown}
use Rattle.wu_machine.specs.Imports.{Given, reported_given, rows_read, sent_given}
use Rattle.wu_machine.specs.Machine.{reply_of, world_of}
use Rattle.wu_machine.specs.Requests.{AskClasses, AskReported, AskSent, Imported}
use Rattle.wu_machine.specs.Worlds.{with_host_class, with_named, workunit_named}
use Rattle.wu_machine_laws.proofs.LeavingLaws.{Keeps, reports_keep, sends_keep}
use Rattle.wu_machine_laws.proofs.Results.{either, not_older, row_by, rows_by}
use Rattle.wu_machine_laws.specs.Files.{AppliesFiles, IsApplied, IsOutAs, IsOverAs, OfInstance, OfNamed}

-- ---- options

-- what holds of the value there is
pub some_of : {A : Type 0} (P : A → Type 0) (o : Option A) → IsSomeAnd o P → (x : A) × (o ≡ Some x) × P x
some_of P None it = absurd it
some_of P (Some x) it = (x, refl, it)

then_some : {A : Type 0} (P Q : A → Type 0) → ((x : A) → P x → Q x) → (o : Option A) → IsSomeAnd o P → IsSomeAnd o Q
then_some P Q so None it = it
then_some P Q so (Some x) it = so x it

-- ---- what is found in a world

pub found_passes : (p : Workunit → Bool) (ws : List Workunit) (w : Workunit) → find p ws ≡ Some w → p w ≡ true
found_passes p [] w is = cc
found_passes p (v ∷ ws) w is = elim (cases_Bool (p v)) [
  | inl on ↦ let one : Some v ≡ Some w = rw on at is in let same : v ≡ w = cc in subst (λ u. p u ≡ true) same on
  | inr off ↦ found_passes p ws w (rw off at is)
]

-- a change that keeps the test is found as the image of what was
pub find_map : (p : Workunit → Bool) (f : Workunit → Workunit) → ((w : Workunit) → p (f w) ≡ p w) → (ws : List Workunit) → find p (map f ws) ≡ option_map f (find p ws)
find_map p f same [] = refl
find_map p f same (w ∷ ws) = elim (cases_Bool (p w)) [
  | inl is ↦ rw (same w, is) refl
  | inr off ↦ rw (same w, off) (find_map p f same ws)
]

module _ {Row : Type 0} (rule : Rule Row) (keeps : Keeps rule) where
  -- what a row makes of a workunit, if it is the one of its name
  abbrev pub made : Row → Workunit → Workunit
  made row w = if bytes_eq w.name (rule.workunit row) then rule.image row w else w

  made_name : (row : Row) (w : Workunit) → (made row w).name ≡ w.name
  made_name row w = either (λ (v : Workunit). v.name ≡ w.name) (bytes_eq w.name (rule.workunit row)) _ _ (λ is. (keeps row w).0) (λ other. refl)

  pub named_made : (world : World) (row : Row) (name : List ℕ)
      → workunit_named (with_named world (rule.workunit row) (rule.image row)) name ≡ option_map (made row) (workunit_named world name)
  named_made world row name = find_map (λ w. bytes_eq w.name name) (made row) (λ w. ap (λ n. bytes_eq n name) (made_name row w)) world.workunits

  -- a row that is applied is so to the workunit of its name
  pub applied_to : (world : World) (row : Row) → row_verdict rule world row ≡ 0
      → (w : Workunit) × (workunit_named world (rule.workunit row) ≡ Some w) × (rule.verdict row w ≡ 0)
  applied_to world row nought = by (workunit_named world (rule.workunit row)) refl nought
    where
      by : (o : Option Workunit) → workunit_named world (rule.workunit row) ≡ o → option_map_or (rule.verdict row) o unknown ≡ 0
          → (w : Workunit) × (workunit_named world (rule.workunit row) ≡ Some w) × (rule.verdict row w ≡ 0)
      by None is e = absurd (cc)
      by (Some w) is e = (w, is, e)

  -- its image is then found
  pub image_found : (world : World) (row : Row) (w : Workunit) → row_verdict rule world row ≡ 0 → workunit_named world (rule.workunit row) ≡ Some w
      → workunit_named (after_row rule world row) (rule.workunit row) ≡ Some (rule.image row w)
  image_found world row w nought found =
      ap (λ b. workunit_named (if b then with_named world (rule.workunit row) (rule.image row) else world) (rule.workunit row))
      (eq-eqb (row_verdict rule world row) 0 nought)
      ∙ (named_made world row (rule.workunit row) ∙ (ap (option_map (made row)) found
      ∙ ap (λ b. Some (if b then rule.image row w else w)) (found_passes (λ v. bytes_eq v.name (rule.workunit row)) world.workunits w found)))

  -- what a row leaves of a workunit that it is not applied to, and makes of one that it is
  module _ (P : Workunit → Type 0) (name : List ℕ) (stays : (row : Row) (w : Workunit) → P w → rule.verdict row w ≡ 0 → P (rule.image row w)) where
    stays_row : (world : World) (row : Row) → row_verdict rule world row ≡ 0 → OfNamed world name P
        → OfNamed (with_named world (rule.workunit row) (rule.image row)) name P
    stays_row world row nought it =
        subst (λ o. IsSomeAnd o P) (sym (named_made world row name ∙ ap (option_map (made row)) here.1))
        (either P (bytes_eq here.0.name (rule.workunit row)) _ _ (λ on.
        let same : name ≡ rule.workunit row = sym its_name ∙ (bytes_eq-Decides here.0.name (rule.workunit row)).0 on in
        let to = applied_to world row nought in
        let alike : Some to.0 ≡ Some here.0 = sym to.1 ∙ (ap (workunit_named world) (sym same) ∙ here.1) in
        let one : to.0 ≡ here.0 = cc in
        stays row here.0 here.2 (subst (λ w. rule.verdict row w ≡ 0) one to.2)) (λ off. here.2))
      where
        here : (w : Workunit) × (workunit_named world name ≡ Some w) × P w
        here = some_of P (workunit_named world name) it

        its_name : here.0.name ≡ name
        its_name = (bytes_eq-Decides here.0.name name).0 (found_passes (λ v. bytes_eq v.name name) world.workunits here.0 here.1)

    stays_rows : (rows : List Row) (world : World) → OfNamed world name P → OfNamed (after_rows rule world rows) name P
    stays_rows rows = rows_by rule (λ after. OfNamed after name P) (λ row. ⊤) (λ between row any nought it. stays_row between row nought it) rows (λ k d low. tt)

  -- each row that is applied holds in the end
  holds_all : (Q : Row → Workunit → Type 0) → ((row : Row) (w : Workunit) → rule.verdict row w ≡ 0 → Q row (rule.image row w))
      → ((row other : Row) (w : Workunit) → Q row w → rule.verdict other w ≡ 0 → Q row (rule.image other w))
      → (rows : List Row) (world : World) (k : ℕ) (row : Row) → slice_get rows k ≡ Some row → slice_get (row_verdicts rule world rows) k ≡ Some 0
      → OfNamed (after_rows rule world rows) (rule.workunit row) (Q row)
  holds_all Q makes stays [] world k row here nought = cc
  holds_all Q makes stays (one ∷ rows) world zero row here is =
      let same : one ≡ row = cc in
      let zero_is : row_verdict rule world one ≡ 0 = cc in
      let to = applied_to world one zero_is in
      let first : OfNamed (after_row rule world one) (rule.workunit one) (Q one) =
      subst (λ o. IsSomeAnd o (Q one)) (sym (image_found world one to.0 zero_is to.1)) (makes one to.0 to.2) in
      subst (λ r. OfNamed (after_rows rule world (one ∷ rows)) (rule.workunit r) (Q r)) same
      (stays_rows (Q one) (rule.workunit one) (λ other w. stays one other w) rows (after_row rule world one) first)
  holds_all Q makes stays (one ∷ rows) world (suc k) row here is = holds_all Q makes stays rows (after_row rule world one) k row here is

  verdicts_each : (rows : List Row) (world : World) → length (row_verdicts rule world rows) ≡ length rows
  verdicts_each [] world = refl
  verdicts_each (row ∷ rows) world = ap (λ n. suc n) (verdicts_each rows (after_row rule world row))

  none_applied : (rows : List Row) (world : World) → All (λ verdict. verdict ≢ 0) (row_verdicts rule world rows) → after_rows rule world rows ≡ world
  none_applied [] world all = refl
  none_applied (row ∷ rows) world all =
      let verdicts = row_verdicts rule (after_row rule world row) rows in
      none_applied rows (after_row rule world row) (All-tail (λ verdict. verdict ≢ 0) (row_verdict rule world row) verdicts all)
      ∙ row_by rule (λ after. after ≡ world) world row refl (λ nought. absurd (All-head (λ verdict. verdict ≢ 0) (row_verdict rule world row) verdicts all nought))

  -- a row is applied exactly where it may be
  pub row_applied : (May : Row → Workunit → Type 0) → ((row : Row) (w : Workunit) → (rule.verdict row w ≡ 0) ↔ May row w)
      → (world : World) (row : Row) → (row_verdict rule world row ≡ 0) ↔ OfNamed world (rule.workunit row) (May row)
  row_applied May may world row = (by_zero, to_zero)
    where
      by_zero : row_verdict rule world row ≡ 0 → OfNamed world (rule.workunit row) (May row)
      by_zero nought = let to = applied_to world row nought in subst (λ o. IsSomeAnd o (May row)) (sym to.1) ((may row to.0).0 to.2)

      to_zero : OfNamed world (rule.workunit row) (May row) → row_verdict rule world row ≡ 0
      to_zero it =
          let here = some_of (May row) (workunit_named world (rule.workunit row)) it in
          ap (λ o. option_map_or (rule.verdict row) o unknown) here.1 ∙ (may row here.0).1 here.2

  -- the first row is applied exactly where it may be
  first_row : (May : Row → Workunit → Type 0) → ((row : Row) (w : Workunit) → (rule.verdict row w ≡ 0) ↔ May row w)
      → (rows : List Row) (world : World) (row : Row) → slice_get rows 0 ≡ Some row
      → (slice_get (row_verdicts rule world rows) 0 ≡ Some 0) ↔ OfNamed world (rule.workunit row) (May row)
  first_row May may [] world row here = absurd (cc)
  first_row May may (one ∷ rows) world row here =
      let same : one ≡ row = cc in
      subst (λ r. (Some (row_verdict rule world one) ≡ Some 0) ↔ OfNamed world (rule.workunit r) (May r)) same (
        λ is. (row_applied May may world one).0 (cc),
        λ it. ap Some ((row_applied May may world one).1 it),
      )

-- ---- sends

-- the number 0 is that of a send that is applied
pub send_zero : (v : SendVerdict) → send_verdict_code v ≡ 0 → v ≡ send.Applied
send_zero send.Applied is = refl
send_zero send.Unknown is = absurd cc
send_zero send.NotUnsent is = absurd cc
send_zero send.SameHost is = absurd cc
send_zero send.Class is = absurd cc

module _ (classes : List HostClass) where
  pub may_send : (row : SendRow) (w : Workunit) → ((send_rule classes).verdict row w ≡ 0) ↔ MayBeSent w row.n row.host (class_of classes row.host)
  may_send row w =
      let class = class_of classes row.host in (
        λ nought. (sends w row.n row.host class row.moment).applied.0 (send_zero (send_verdict_in w row.n row.host class) nought),
        λ it. ap send_verdict_code ((sends w row.n row.host class row.moment).applied.1 it),
      )

  makes_sent : (row : SendRow) (w : Workunit) → (send_rule classes).verdict row w ≡ 0 → OfInstance row.n (IsOutAs row) ((send_rule classes).image row w)
  makes_sent row w nought =
      let there = some_of (λ (i : Instance). i.server_state ≡ server.Unsent) (slice_get w.instances row.n) ((may_send row w).0 nought).waits in
      then_some (IsSent w row.host row.moment there.0) (IsOutAs row) (λ j it. record { out = it.out; host = it.at; since = it.since })
      (slice_get ((send_rule classes).image row w).instances row.n) ((sends w row.n row.host (class_of classes row.host) row.moment).sent there.0 there.1)

  stays_sent : (row other : SendRow) (w : Workunit) → OfInstance row.n (IsOutAs row) w → (send_rule classes).verdict other w ≡ 0
      → OfInstance row.n (IsOutAs row) ((send_rule classes).image other w)
  stays_sent row other w it nought = elim (cases_eq row.n other.n) [
    | inr differ ↦ subst (λ o. IsSomeAnd o (IsOutAs row)) (sym ((sends w other.n other.host (class_of classes other.host) other.moment).only.others row.n differ)) it
    | inl same ↦
        let here = some_of (IsOutAs row) (slice_get w.instances row.n) it in
        let there = some_of (λ (i : Instance). i.server_state ≡ server.Unsent) (slice_get w.instances other.n) ((may_send other w).0 nought).waits in
        let alike : Some here.0 ≡ Some there.0 = sym here.1 ∙ (ap (slice_get w.instances) same ∙ there.1) in
        let one : here.0 ≡ there.0 = cc in
        let out : server.InProgress ≡ server.Unsent = sym here.2.out ∙ (ap (λ (i : Instance). i.server_state) one ∙ there.2) in
        absurd (cc)
  ]

-- ---- reports

pub may_report : (row : ReportRow) (w : Workunit) → (report_rule.verdict row w ≡ 0) ↔ OfInstance row.n (MayBeReported row.host row.moment) w
may_report row w = (
  λ nought. (reports w row.n row.host row.moment row.status row.output).applied.0 (code_applied (report_verdict_in w row.n row.host row.moment) nought),
  λ it. ap report_verdict_code ((reports w row.n row.host row.moment row.status row.output).applied.1 it),
)

makes_reported : (row : ReportRow) (w : Workunit) → report_rule.verdict row w ≡ 0 → OfInstance row.n (IsOverAs row) (report_rule.image row w)
makes_reported row w nought =
    let there = some_of (MayBeReported row.host row.moment) (slice_get w.instances row.n) ((may_report row w).0 nought) in
    then_some (IsReported row.moment row.status row.output there.0) (IsOverAs row)
    (λ j it. record { over = it.over; success = it.success; client_error = it.client_error; detached = it.detached; output = it.sends_back })
    (slice_get (report_rule.image row w).instances row.n) ((reports w row.n row.host row.moment row.status row.output).reported there.0 there.1)

-- no report says that there was none
replied : (row : ReportRow) (i : Instance) → IsOverAs row i → i.outcome ≢ outcome.NoReply
replied row i it none = by row.status refl
  where
    by : (s : Status) → row.status ≡ s → ⊥
    by status.Success e = let is = it.success e in cc
    by status.ClientError e = let is = it.client_error e in cc
    by status.Detached e = let is = it.detached e in cc

stays_reported : (row other : ReportRow) (w : Workunit) → OfInstance row.n (IsOverAs row) w → report_rule.verdict other w ≡ 0
    → OfInstance row.n (IsOverAs row) (report_rule.image other w)
stays_reported row other w it nought = elim (cases_eq row.n other.n) [
  | inr differ ↦
      subst (λ o. IsSomeAnd o (IsOverAs row)) (sym ((reports w other.n other.host other.moment other.status other.output).only.others row.n differ)) it
  | inl same ↦
      let here = some_of (IsOverAs row) (slice_get w.instances row.n) it in
      let there = some_of (MayBeReported other.host other.moment) (slice_get w.instances other.n) ((may_report other w).0 nought) in
      let alike : Some here.0 ≡ Some there.0 = sym here.1 ∙ (ap (slice_get w.instances) same ∙ there.1) in
      let one : here.0 ≡ there.0 = cc in
      let over : there.0.server_state ≡ server.Over = sym (ap (λ (i : Instance). i.server_state) one) ∙ here.2.over.0 in
      absurd (replied row here.0 here.2 (ap (λ (i : Instance). i.outcome) one ∙ there.2.awaited over))
]

-- ---- the law

module _ {Row : Type 0} (rule : Rule Row) (keeps : Keeps rule) (May Q : Row → Workunit → Type 0) (may : (row : Row) (w : Workunit) → (rule.verdict row w ≡ 0) ↔ May row w)
    (makes : (row : Row) (w : Workunit) → rule.verdict row w ≡ 0 → Q row (rule.image row w))
    (stays : (row other : Row) (w : Workunit) → Q row w → rule.verdict other w ≡ 0 → Q row (rule.image other w)) where
  -- what a file of these rows with these verdicts does
  abbrev Applied : World → List Row → List ℕ → World → Type 0
  Applied world rows verdicts after =
      IsApplied rows verdicts (λ w row. OfNamed w (rule.workunit row) (May row)) (λ w row. OfNamed w (rule.workunit row) (Q row)) world after

  rows_applied : (world : World) (rows : List Row) (after : World) → after.workunits ≡ (after_rows rule world rows).workunits
      → Applied world rows (row_verdicts rule world rows) after
  rows_applied world rows after same = record {
    one_each = verdicts_each rule keeps rows world;
    first = λ row here. first_row rule keeps May may rows world row here;
    applied = λ k row here nought. subst (λ ws. IsSomeAnd (find (λ w. bytes_eq w.name (rule.workunit row)) ws) (Q row)) (sym same)
        (holds_all rule keeps Q makes stays rows world k row here nought);
    skipped = λ none. same ∙ ap (λ v. v.workunits) (none_applied rule keeps rows world none);
  }

  -- what is answered of it are those verdicts
  file_applied : (world : World) (given : Given) (rows : List Row) (k : ImportKind) (name verdicts : List ℕ)
      → reply_of (rows_read rule given world (Ok rows)) ≡ Ok (Imported k name 0 verdicts)
      → Applied world rows verdicts (world_of world (rows_read rule given world (Ok rows)))
  file_applied world given rows k name verdicts answered =
      let same : row_verdicts rule world rows ≡ verdicts = cc in
      subst (λ vs. Applied world rows vs (world_of world (rows_read rule given world (Ok rows)))) same (rows_applied world rows _ refl)

-- ---- classes

-- a host that no row names keeps its class
others_keep : (host : List ℕ) (rows : List HostClass) (world : World) → All (λ (row : HostClass). row.host ≢ host) rows
    → class_of (after_classes world rows).classes host ≡ class_of world.classes host
others_keep host [] world all = refl
others_keep host (row ∷ rows) world all =
    others_keep host rows (with_host_class world row) (All-tail (λ (it : HostClass). it.host ≢ host) row rows all)
    ∙ class_of-other row.host row.class world.classes host (false_from_ne_true (bytes_eq row.host host) (λ is.
    All-head (λ (it : HostClass). it.host ≢ host) row rows all ((bytes_eq-Decides row.host host).0 is)))

-- the last row that names a host gives it its class
last_gives : (rows : List HostClass) (world : World) (k : ℕ) (row : HostClass) → slice_get rows k ≡ Some row
    → All (λ (later : HostClass). later.host ≢ row.host) (drop (k + 1) rows) → class_of (after_classes world rows).classes row.host ≡ row.class
last_gives [] world k row here none = cc
last_gives (one ∷ rows) world zero row here none =
    let same : one ≡ row = cc in
    others_keep row.host rows (with_host_class world one) none
    ∙ (ap (λ (it : HostClass). class_of (with_class it.host it.class world.classes) row.host) same ∙ class_of-set row.host row.class world.classes)
last_gives (one ∷ rows) world (suc k) row here none =
    let behind : suc k + 1 ≡ suc (k + 1) = omega arith in
    last_gives rows (with_host_class world one) k row here (subst (λ n. All (λ (later : HostClass). later.host ≢ row.host) (drop n (one ∷ rows))) behind none)

-- ---- a new file

pub applies_files : AppliesFiles
applies_files world name file verdicts = record {
  sent = λ rows new is answered.
      let younger = not_older world (AskSent name file) _ refl answered in
      let classes = world.classes in
      rw (younger, new, is) (file_applied (send_rule classes) (sends_keep classes) (λ row w. MayBeSent w row.n row.host (class_of classes row.host))
      (λ row. OfInstance row.n (IsOutAs row)) (may_send classes) (makes_sent classes) (stays_sent classes) world (sent_given name file) rows kind.Sent name
      verdicts (rw (younger, new, is) at answered));
  reported = λ rows new is answered.
      let younger = not_older world (AskReported name file) _ refl answered in
      rw (younger, new, is) (file_applied report_rule reports_keep (λ row. OfInstance row.n (MayBeReported row.host row.moment))
      (λ row. OfInstance row.n (IsOverAs row)) may_report makes_reported stays_reported world (reported_given name file) rows kind.Reported name
      verdicts (rw (younger, new, is) at answered));
  classed = λ rows new is answered.
      let younger = not_older world (AskClasses name file) _ refl answered in
      rw (younger, new, is) (record { named = last_gives rows world; others = λ host none. others_keep host rows world none });
}
