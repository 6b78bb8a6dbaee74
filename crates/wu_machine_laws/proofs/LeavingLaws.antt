-- What a request leaves of the workunits that it does not name.
use Rattle.std.proofs.Common.{inl, inr, ◌≡◌, ℕ, get_or, arith, Bool, true, false, List, [], ◌∷◌, map, append-nil, Result, Ok, Err, bytes_eq, refl, sym, ap, ◌∙◌}
use Rattle.std.specs.List.{All, filter}
use Rattle.std.specs.Prelude.{◌||◌, not, if◌then◌else◌}
use Rattle.std.proofs.lemmas.Bool.{cases_Bool}
use Rattle.std.proofs.lemmas.List.{get_or-map, length-map}
use Rattle.std.proofs.lemmas.List.Folds.{list_any_at}
use Rattle.std.proofs.lemmas.Slice.Eq.{bytes_eq-Decides}
use Rattle.wu_core.specs.Classes.{class_of}
use Rattle.wu_core.specs.World.{World, Import}
use Rattle.wu_core.specs.declared.fault.Fault.{Fault}
use Rattle.wu_core.specs.declared.workunit.HostClass.{HostClass}
use Rattle.wu_core.specs.declared.workunit.Workunit.{Workunit}
use Rattle.wu_feed.specs.Classes.{classes_of_file}
use Rattle.wu_feed.specs.Jobs.{jobs_of_file}
use Rattle.wu_feed.specs.Reports.{reports_of_file}
use Rattle.wu_feed.specs.Sends.{sends_of_file}
use Rattle.wu_feed.specs.Templates.{template_of}
use Rattle.wu_feed.specs.declared.reports.ReportRow.{ReportRow}
use Rattle.wu_feed.specs.declared.sends.SendRow.{SendRow}
use Rattle.wu_rules.specs.Cancelling.{cancelled}
use Rattle.wu_machine.specs.Batches.{is_one_of}
use Rattle.wu_machine.specs.FileRows.{Rule, after_classes, after_rows, report_rule, send_rule}
use Rattle.wu_machine.specs.Imports.{batch_given, classes_given, Done, Given, reported_given, rows_read, sent_given}
use Rattle.wu_machine.specs.Machine.{done, reply_of, step, world_of}
use Rattle.wu_machine.specs.Requests.{AskBatch, AskCancel, AskClasses, AskReported, AskSent, AskUpgrade}
use Rattle.wu_machine.specs.Worlds.{with_host_class, with_named}
use Rattle.wu_rules_laws.proofs.Told.{reports, sends}
use Rattle.wu_machine_laws.proofs.Results.{asked, batch_by, By, cancel_by, classes_by, either, file_by, import_by, rows_by}
use Rattle.wu_machine_laws.specs.Lasting.{Begins}
use Rattle.wu_machine_laws.specs.Leaving.{ChangesNamed, LeavesOthers}

-- ---- names

-- those that have none of these names
abbrev is_unnamed : List (List ℕ) → Workunit → Bool
is_unnamed names w = not (is_one_of names w.name)

-- a change that keeps the name and leaves who has none of these names
pub unnamed_map : (names : List (List ℕ)) (f : Workunit → Workunit) → ((w : Workunit) → (f w).name ≡ w.name)
    → ((w : Workunit) → is_one_of names w.name ≡ false → f w ≡ w) → (ws : List Workunit) → filter (is_unnamed names) (map f ws) ≡ filter (is_unnamed names) ws
unnamed_map names f name same [] = refl
unnamed_map names f name same (w ∷ ws) = elim (cases_Bool (is_one_of names w.name)) [
  | inl is ↦ rw (name w, is) (unnamed_map names f name same ws)
  | inr off ↦ rw (same w off, off) (ap (λ vs. w ∷ vs) (unnamed_map names f name same ws))
]

-- what each keeps, all keep
pub map_kept : {A : Type 0} (g : Workunit → A) (f : Workunit → Workunit) → ((w : Workunit) → g (f w) ≡ g w) → (ws : List Workunit) → map g (map f ws) ≡ map g ws
map_kept g f same [] = refl
map_kept g f same (w ∷ ws) = let here = same w in let rest = map_kept g f same ws in cc

-- ---- changes of what is named

-- no workunit changes
unchanged : (names : List (List ℕ)) (world : World) (imports : List Import) → ChangesNamed names world (record world { imports = imports })
unchanged names world imports =
    record { others = refl; numbers = refl; same_names = refl; grants = refl; archived = refl; classes = refl; next_number = refl; version = refl }

-- nor where nothing does
same_named : (names : List (List ℕ)) (world : World) → ChangesNamed names world world
same_named names world = unchanged names world world.imports

-- one change after another
changes_then : (names : List (List ℕ)) (one two three : World) → ChangesNamed names one two → ChangesNamed names two three → ChangesNamed names one three
changes_then names one two three first second = record {
  others = second.others ∙ first.others;
  numbers = second.numbers ∙ first.numbers;
  same_names = second.same_names ∙ first.same_names;
  grants = second.grants ∙ first.grants;
  archived = second.archived ∙ first.archived;
  classes = second.classes ∙ first.classes;
  next_number = second.next_number ∙ first.next_number;
  version = second.version ∙ first.version;
}

-- the workunit of a name that is one of these is changed
named_changed : (names : List (List ℕ)) (world : World) (name : List ℕ) (change : Workunit → Workunit) → is_one_of names name ≡ true
    → ((w : Workunit) → (change w).name ≡ w.name) → ((w : Workunit) → (change w).number ≡ w.number)
    → ChangesNamed names world (with_named world name change)
named_changed names world name change one same_name same_number = record {
  others = unnamed_map names at name_at stays world.workunits;
  numbers = map_kept (λ w. w.number) at number_at world.workunits;
  same_names = map_kept (λ w. w.name) at name_at world.workunits;
  grants = refl;
  archived = refl;
  classes = refl;
  next_number = refl;
  version = refl;
}
  where
    at : Workunit → Workunit
    at w = if bytes_eq w.name name then change w else w

    name_at : (w : Workunit) → (at w).name ≡ w.name
    name_at w = either (λ (v : Workunit). v.name ≡ w.name) (bytes_eq w.name name) _ _ (λ is. same_name w) (λ other. refl)

    number_at : (w : Workunit) → (at w).number ≡ w.number
    number_at w = either (λ (v : Workunit). v.number ≡ w.number) (bytes_eq w.name name) _ _ (λ is. same_number w) (λ other. refl)

    stays : (w : Workunit) → is_one_of names w.name ≡ false → at w ≡ w
    stays w none = either (λ v. v ≡ w) (bytes_eq w.name name) _ _ (λ is. let both : true ≡ false = sym one ∙ (ap (is_one_of names)
        (sym ((bytes_eq-Decides w.name name).0 is)) ∙ none) in absurd (cc)) (λ other. refl)

-- ---- files of rows

-- the rule of a row keeps name and number
abbrev pub Keeps : {Row : Type 0} → Rule Row → Type 0
Keeps {Row} rule = (row : Row) (w : Workunit) → ((rule.image row w).name ≡ w.name) × ((rule.image row w).number ≡ w.number)

pub sends_keep : (classes : List HostClass) → Keeps (send_rule classes)
sends_keep classes row w =
    let rest = (sends w row.n row.host (class_of classes row.host) row.moment).only.rest in
    (ap (λ v. v.name) rest, ap (λ v. v.number) rest)

pub reports_keep : Keeps report_rule
reports_keep row w =
    let rest = (reports w row.n row.host row.moment row.status row.output).only.rest in
    (ap (λ v. v.name) rest, ap (λ v. v.number) rest)

pub rows_change : {Row : Type 0} (rule : Rule Row) → Keeps rule → (names : List (List ℕ)) (rows : List Row)
    → All (λ row. is_one_of names (rule.workunit row) ≡ true) rows → (world : World)
    → ChangesNamed names world (after_rows rule world rows)
rows_change rule keeps names rows all world =
    rows_by rule (ChangesNamed names world) (λ row. is_one_of names (rule.workunit row) ≡ true) (λ between row one applied changed.
    changes_then names world between (with_named between (rule.workunit row) (rule.image row)) changed
    (named_changed names between (rule.workunit row) (rule.image row) one (λ w. (keeps row w).0) (λ w. (keeps row w).1))) rows all world (same_named names world)

-- each row's name is one of all of theirs
pub each_named : {Row : Type 0} (of_row : Row → List ℕ) (rows : List Row) → All (λ row. is_one_of (map of_row rows) (of_row row) ≡ true) rows
each_named of_row rows k d low =
    let name = of_row (get_or rows k d) in
    let at : get_or (map of_row rows) k [] ≡ name = get_or-map of_row rows k d [] low in
    list_any_at (λ one. bytes_eq one name) (map of_row rows) k [] (omega (arith, low, length-map rows of_row)) ((bytes_eq-Decides _ name).1 at)

-- so a file of rows changes only what they name
file_changes : {Row : Type 0} (rule : Rule Row) → Keeps rule → (given : Given) (world : World) (rows : List Row)
    → By (ChangesNamed (map rule.workunit rows) world) world (rows_read rule given world (Ok rows))
file_changes rule keeps given world rows =
    changes_then (map rule.workunit rows) world (after_rows rule world rows) _ (rows_change rule keeps _ rows (each_named rule.workunit rows) world)
    (unchanged (map rule.workunit rows) (after_rows rule world rows) _)

-- classes leave all workunits
rows_leave : (rows : List HostClass) (world : World) → (after_classes world rows).workunits ≡ world.workunits
rows_leave [] world = refl
rows_leave (row ∷ rows) world = rows_leave rows (with_host_class world row)

-- ---- the law

refusal : (world : World) (result : Result Done Fault) (fault : Fault) → reply_of result ≡ Err fault → world_of world result ≡ world
refusal world (Ok it) fault is = cc
refusal world (Err other) fault is = refl

module _ (world : World) where
  -- the numbers are as they were
  abbrev Numbered : World → Type 0
  Numbered after = map (λ w. w.number) after.workunits ≡ map (λ w. w.number) world.workunits

  -- the workunits are
  abbrev Left : World → Type 0
  Left after = after.workunits ≡ world.workunits

  -- or more stand behind them
  abbrev Behind : World → Type 0
  Behind after = Begins world.workunits after.workunits

  none_behind : Behind world
  none_behind = ([], sym (append-nil world.workunits))

  module _ {Row : Type 0} (rule : Rule Row) (keeps : Keeps rule) (given : Given) (file : Result (List Row) Fault) where
    -- what a file of rows changes
    changed_by : (rows : List Row) → file ≡ Ok rows → By (ChangesNamed (map rule.workunit rows) world) world (rows_read rule given world file)
    changed_by rows is = rw is (file_changes rule keeps given world rows)

    -- numbers stay, whatever the file
    numbers_by : By Numbered world (rows_read rule given world file)
    numbers_by = file_by Numbered world refl rule given file (λ rows is. (file_changes rule keeps given world rows).numbers)

  pub sent_numbers : (name file : List ℕ) → Numbered (step world (AskSent name file))
  sent_numbers name file =
      asked Numbered world refl (AskSent name file) (λ younger. import_by Numbered world refl (sent_given name file)
      (λ new. numbers_by (send_rule world.classes) (sends_keep world.classes) (sent_given name file) (sends_of_file file)))

  pub reported_numbers : (name file : List ℕ) → Numbered (step world (AskReported name file))
  reported_numbers name file =
      asked Numbered world refl (AskReported name file) (λ younger. import_by Numbered world refl (reported_given name file)
      (λ new. numbers_by report_rule reports_keep (reported_given name file) (reports_of_file file)))

  cancel_changes : (name : List ℕ) → ChangesNamed (name ∷ []) world (with_named world name cancelled)
  unfolding cancelled
  cancel_changes name =
      named_changed (name ∷ []) world name cancelled (ap (λ b. b || false) ((bytes_eq-Decides name name).1 refl)) (λ v. refl) (λ v. refl)

  pub leaves_others : LeavesOthers world
  leaves_others = record {
    sent = λ name file rows is.
        let Is = ChangesNamed (map (λ (row : SendRow). row.workunit) rows) world in
        asked Is world (same_named _ world) (AskSent name file) (λ younger. import_by Is world (same_named _ world) (sent_given name file)
        (λ new. changed_by (send_rule world.classes) (sends_keep world.classes) (sent_given name file) (sends_of_file file) rows is));
    reported = λ name file rows is.
        let Is = ChangesNamed (map (λ (row : ReportRow). row.workunit) rows) world in
        asked Is world (same_named _ world) (AskReported name file) (λ younger. import_by Is world (same_named _ world) (reported_given name file)
        (λ new. changed_by report_rule reports_keep (reported_given name file) (reports_of_file file) rows is));
    cancelled = λ name.
        let Is = ChangesNamed (name ∷ []) world in
        asked Is world (same_named _ world) (AskCancel name) (λ younger. cancel_by Is world (same_named _ world) name (λ w is undecided. cancel_changes name));
    batch = λ name template file.
        let given = batch_given name template file in
        asked Behind world none_behind (AskBatch name template file) (λ younger. import_by Behind world none_behind given
        (λ new. batch_by Behind world none_behind given (template_of template) (jobs_of_file file) (λ params jobs one other free few. (_, refl))));
    classed = λ name file.
        let given = classes_given name file in
        asked Left world refl (AskClasses name file) (λ younger. import_by Left world refl given
        (λ new. classes_by Left world refl given (classes_of_file file) (λ rows is. rows_leave rows world)));
    upgraded = asked Left world refl AskUpgrade (λ younger. refl);
    refused = λ request fault is. refusal world (done world request) fault is;
  }
