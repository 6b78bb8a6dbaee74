-- Hosts keep their classes but for files of classes, and workunits whose active instances are of one class stay so.
use Rattle.std.proofs.Common.{◌≡◌, ◌⊎◌, ℕ, zero, suc, ◌==◌, nat_lt, true, false, List, [], ◌∷◌, map, length, get_or, Option, Some, None, IfSome, Ok, bytes_eq, refl, sym, ap, subst, ◌∙◌, inl, inr, eq-eqb, arith}
use Rattle.std.proofs.Math.ListN.{get_or-map}
use Rattle.std.proofs.lemmas.List.{length-map}
use Rattle.std.proofs.lemmas.List.Elements.{All-append, All-cons, All-head, All-map, All-nil, All-tail, All-weaker}
use Rattle.std.specs.List.{All, enumerate_from, flat_map}
use Rattle.std.specs.Prelude.{⊤, if◌then◌else◌, IsSomeAnd}
use Rattle.wu_core.specs.Classes.{class_of}
use Rattle.wu_core.specs.Parameters.{Parameters}
use Rattle.wu_core.specs.World.{World, empty_world}
use Rattle.wu_core.specs.declared.import.ImportKind.TheVariants as kind
use Rattle.wu_core.specs.declared.states.Status.TheVariants as status
use Rattle.wu_core.specs.declared.workunit.HostClass.{HostClass}
use Rattle.wu_core.specs.declared.workunit.Instance.{Instance}
use Rattle.wu_core.specs.declared.workunit.Workunit.{Workunit}
use Rattle.wu_feed.specs.Jobs.{jobs_of_file}
use Rattle.wu_feed.specs.Reports.{reports_of_file}
use Rattle.wu_feed.specs.Sends.{sends_of_file}
use Rattle.wu_feed.specs.Templates.{template_of}
use Rattle.wu_feed.specs.declared.jobs.Job.{Job}
use Rattle.wu_feed.specs.declared.reports.ReportRow.{ReportRow}
use Rattle.wu_feed.specs.declared.sends.SendRow.{SendRow}
use Rattle.wu_rules.specs.Cancelling.{cancelled}
use Rattle.wu_rules.specs.Consistent.{IsOneClass}
use Rattle.wu_rules.specs.Instances.{is_active, is_in_progress}
use Rattle.wu_rules.specs.Reporting.{report_verdict_in}
use Rattle.wu_rules.specs.Sending.{send_verdict_in}
use Rattle.wu_rules.specs.Verdicts.{report_verdict_code, send_verdict_code}
use Rattle.wu_rules.specs.declared.due.Pass.{Pass}
use Rattle.wu_rules.specs.declared.due.Pass.TheVariants.{Transition, Validate, Assimilate, Delete, Purge}
use Rattle.wu_rules.specs.declared.verdicts.ReportVerdict.TheVariants as report
use Rattle.wu_rules.specs.Due.{chosen}
use Rattle.wu_rules_laws.proofs.Alike.{ViablyAlike, alike_before, idle_is_one_class, rules_keep_one_class, told_of_class, viably_alike}
use Rattle.wu_rules_laws.specs.Rows.{MayBeReported}
use Rattle.wu_machine.proofs.StorableLemmas.{code_applied, found_is}
use Rattle.wu_machine.specs.Batches.{new_workunit}
use Rattle.wu_machine.specs.FileRows.{Rule, after_row, after_rows, report_rule, row_verdict, row_verdicts, send_rule}
use Rattle.wu_machine.specs.Imports.{batch_given, reported_given, sent_given}
use Rattle.wu_machine.specs.Machine.{done_now, HasValues, is_upgrade, present_version, reply, step}
use Rattle.wu_machine.specs.Passes.{images, is_among}
use Rattle.wu_machine.specs.Requests.{AskBatch, AskCancel, AskClasses, AskPass, AskReported, AskSent, AskUpgrade, Imported, Request}
use Rattle.wu_machine.specs.Sound.{IsSound}
use Rattle.wu_machine.specs.Worlds.{with_named, workunit_named}
use Rattle.wu_machine_laws.specs.Files.{MayReport, OfInstance}
use Rattle.wu_machine_laws.specs.Lasting.{AreOneClass, ClassesStay, ComeInTime, IdleWorldsAreOneClass, IsInTime, IsNoClasses, LeavesOneClass, OneClassSince, OneClassStays, OneClassStaysByStep}
use Rattle.wu_machine_laws.proofs.FileLaws.{found_passes, send_zero, some_of}
use Rattle.wu_machine_laws.proofs.LeavingLaws.{each_named, Keeps, leaves_others, reports_keep, rows_change, sends_keep}
use Rattle.wu_machine_laws.proofs.Middles.{from_pairs, Pairs, to_pairs}
use Rattle.wu_machine_laws.proofs.Results.{asked, batch_by, By, cancel_by, either, file_by, import_by, not_older, pass_by, row_by, rows_by}
use Rattle.wu_machine_laws.proofs.RowLaws.{takes_report}
use Rattle.wu_machine_laws.proofs.SoundLemmas.{empty_sound}
use Rattle.wu_machine_laws.proofs.SoundParts.{Differ}
use Rattle.wu_machine_laws.proofs.SoundRows.{found_named}
use Rattle.wu_machine_laws.proofs.SoundSteps.{sound_step}

-- ---- the classes of hosts

-- the classes are as they were
abbrev SameClasses : World → World → Type 0
SameClasses world after = after.classes ≡ world.classes

rows_same : {Row : Type 0} (rule : Rule Row) (rows : List Row) (world : World) → SameClasses world (after_rows rule world rows)
rows_same rule rows world = rows_by rule (SameClasses world) (λ row. ⊤) (λ between row any applied same. same) rows (λ k d low. tt) world refl

done_same : (world : World) (request : Request) → IsNoClasses request → By (SameClasses world) world (done_now world request)
done_same world (AskBatch name template file) other =
    let given = batch_given name template file in
    import_by (SameClasses world) world refl given (λ new. batch_by (SameClasses world) world refl given (template_of template) (jobs_of_file file)
    (λ params jobs template_is file_is free few. refl))
done_same world (AskSent name file) other =
    let given = sent_given name file in
    import_by (SameClasses world) world refl given (λ new. file_by (SameClasses world) world refl (send_rule world.classes) given (sends_of_file file)
    (λ rows is. rows_same (send_rule world.classes) rows world))
done_same world (AskReported name file) other =
    let given = reported_given name file in
    import_by (SameClasses world) world refl given (λ new. file_by (SameClasses world) world refl report_rule given (reports_of_file file)
    (λ rows is. rows_same report_rule rows world))
done_same world (AskClasses name file) other = absurd other
done_same world (AskPass pass now limit min_age) other = pass_by (SameClasses world) world refl pass now limit min_age (λ right. refl)
done_same world (AskCancel name) other = cancel_by (SameClasses world) world refl name (λ w is undecided. refl)
done_same world AskUpgrade other = refl

step_same : (world : World) (request : Request) → IsNoClasses request → SameClasses world (step world request)
step_same world request other = asked (SameClasses world) world refl request (λ younger. done_same world request other)

pub classes_stay : ClassesStay
classes_stay world [] all = refl
classes_stay world (request ∷ requests) all =
    classes_stay (step world request) requests (All-tail IsNoClasses request requests all) ∙ step_same world request (All-head IsNoClasses request requests all)

pub idle_worlds : IdleWorldsAreOneClass
idle_worlds world idle k d low = idle_is_one_class world.classes (get_or world.workunits k d) (idle k d low)

-- ---- workunits of different names

-- those of the same names differ still
differ_same : (ws vs : List Workunit) → map (λ u. u.name) vs ≡ map (λ u. u.name) ws → Pairs Differ ws → Pairs Differ vs
differ_same ws vs names apart = to_pairs Differ vs (λ i j d order low equal.
    let long : length vs ≡ length ws = sym (length-map vs (λ u. u.name)) ∙ ap length names ∙ length-map ws (λ u. u.name) in
    from_pairs Differ ws apart i j d order (omega (arith, low, long)) (sym (at i d) ∙ equal ∙ at j d))
  where
    at : (k : ℕ) (d : Workunit) → (get_or vs k d).name ≡ (get_or ws k d).name
    at k d = sym (get_or-map (λ u. u.name) vs k d) ∙ ap (λ ns. get_or ns k d.name) names ∙ get_or-map (λ u. u.name) ws k d

-- what holds of each holds with the one of a name changed, where it holds of that
named_all : (P : Workunit → Type 0) (world : World) → Pairs Differ world.workunits → (name : List ℕ) (image : Workunit → Workunit)
    → ((w : Workunit) → workunit_named world name ≡ Some w → P w → P (image w)) → All P world.workunits → All P (with_named world name image).workunits
named_all P world apart name image keeps all =
    All-map P (λ w. if bytes_eq w.name name then image w else w) world.workunits
    (λ k d low. either P (bytes_eq (get_or world.workunits k d).name name) _ _
    (λ is. keeps _ (found_named name world.workunits apart k d low is) (all k d low)) (λ other. all k d low))

module _ {Row : Type 0} (rule : Rule Row) (keeps : Keeps rule) (world : World) (row : Row) (apart : Pairs Differ world.workunits) where
  -- they differ after a row
  row_apart : Pairs Differ (after_row rule world row).workunits
  row_apart = differ_same world.workunits (after_row rule world row).workunits
      (rows_change rule keeps (rule.workunit row ∷ []) (row ∷ []) (each_named rule.workunit (row ∷ [])) world).same_names apart

  -- what holds of each holds after a row, where an applied one keeps it
  row_all : (P : Workunit → Type 0)
      → ((w : Workunit) → workunit_named world (rule.workunit row) ≡ Some w → row_verdict rule world row ≡ 0 → P w → P (rule.image row w))
      → All P world.workunits → All P (after_row rule world row).workunits
  row_all P image all =
      row_by rule (λ after. All P after.workunits) world row all (λ nought. named_all P world apart (rule.workunit row) (rule.image row)
      (λ w found holds. image w found nought holds) all)

-- ---- rows, where hosts have these classes

module _ (classes : List HostClass) where
  sends_alike : (rows : List SendRow) (world : World) → Pairs Differ world.workunits → All (IsOneClass classes) world.workunits
      → All (IsOneClass classes) (after_rows (send_rule classes) world rows).workunits
  sends_alike [] world apart all = all
  sends_alike (row ∷ rows) world apart all =
      sends_alike rows (after_row (send_rule classes) world row) (row_apart (send_rule classes) (sends_keep classes) world row apart)
      (row_all (send_rule classes) (sends_keep classes) world row apart (IsOneClass classes) (λ w found nought alike.
      let verdict : send_verdict_code (send_verdict_in w row.n row.host (class_of classes row.host)) ≡ 0 = rw found at nought in
      (rules_keep_one_class classes w alike).sent row.n row.host row.moment
      (send_zero (send_verdict_in w row.n row.host (class_of classes row.host)) verdict)) all)

  -- a success in time is of a host of the workunit's class
  of_its_class : (world : World) (row : ReportRow) (w : Workunit) → world.classes ≡ classes → workunit_named world row.workunit ≡ Some w
      → IsOneClass classes w → report_verdict_in w row.n row.host row.moment ≡ report.Applied → IsInTime world row
      → class_of classes row.host ≡ w.class
  of_its_class world row w same found alike applied in_time = by (subst (λ o. IsSomeAnd o Either) found in_time)
    where
      Either : Workunit → Type 0
      Either v = OfInstance row.n (λ i. is_in_progress i ≡ true) v ⊎ (class_of world.classes row.host ≡ v.class)

      by : OfInstance row.n (λ i. is_in_progress i ≡ true) w ⊎ (class_of world.classes row.host ≡ w.class) → class_of classes row.host ≡ w.class
      by (inl out) = (rules_keep_one_class classes w alike).in_time row.n row.host row.moment applied out
      by (inr its) = ap (λ cs. class_of cs row.host) (sym same) ∙ its

  reports_alike : (rows : List ReportRow) (world : World) → Pairs Differ world.workunits → world.classes ≡ classes → ComeInTime world rows
      → All (IsOneClass classes) world.workunits → All (IsOneClass classes) (after_rows report_rule world rows).workunits
  reports_alike [] world apart same in_time all = all
  reports_alike (row ∷ rows) world apart same in_time all =
      reports_alike rows (after_row report_rule world row) (row_apart report_rule reports_keep world row apart)
      (rows_same report_rule (row ∷ []) world ∙ same) (λ k later here. in_time (suc k) later here)
      (row_all report_rule reports_keep world row apart (IsOneClass classes) (λ w found nought alike.
      let verdict : report_verdict_code (report_verdict_in w row.n row.host row.moment) ≡ 0 = rw found at nought in
      let applied = code_applied (report_verdict_in w row.n row.host row.moment) verdict in
      ((rules_keep_one_class classes w alike).reported row.n row.host row.moment row.status row.output applied).1
      (λ said. of_its_class world row w same found alike applied (in_time 0 row refl said ((takes_report world row).applied.0 nought)))) all)

-- ---- one request

-- the active instances of each workunit are of one class, by the classes of before
abbrev Alike : World → World → Type 0
Alike world after = All (IsOneClass world.classes) after.workunits

-- new workunits have no active instances
news_alike : (classes : List HostClass) (params : Parameters) (jobs : List (ℕ × Job)) → All (IsOneClass classes) (map (λ p. new_workunit params p.0 p.1) jobs)
news_alike classes params jobs =
    All-map (IsOneClass classes) (λ p. new_workunit params p.0 p.1) jobs
    (λ k d low. All-nil (λ (i : Instance). is_active i ≡ true → IfSome i.host (λ host. class_of classes host ≡ 0)))

image_alike : (classes : List HostClass) (pass : Pass) (now : ℕ) (w : Workunit) → IsOneClass classes w → All (IsOneClass classes) (images pass now w)
image_alike classes Transition now w alike = All-cons (IsOneClass classes) _ [] ((rules_keep_one_class classes w alike).transitioned now) (All-nil (IsOneClass classes))
image_alike classes Validate now w alike = All-cons (IsOneClass classes) _ [] (rules_keep_one_class classes w alike).validated (All-nil (IsOneClass classes))
image_alike classes Assimilate now w alike = All-cons (IsOneClass classes) _ [] ((rules_keep_one_class classes w alike).assimilated now) (All-nil (IsOneClass classes))
image_alike classes Delete now w alike = All-cons (IsOneClass classes) _ [] (rules_keep_one_class classes w alike).emptied (All-nil (IsOneClass classes))
image_alike classes Purge now w alike = All-nil (IsOneClass classes)

images_alike : (classes : List HostClass) (pass : Pass) (now : ℕ) (taken ws : List Workunit) → All (IsOneClass classes) ws
    → All (IsOneClass classes) (flat_map (λ w. if is_among taken w then images pass now w else w ∷ []) ws)
images_alike classes pass now taken [] all = All-nil (IsOneClass classes)
images_alike classes pass now taken (w ∷ ws) all =
    All-append (IsOneClass classes) (if is_among taken w then images pass now w else w ∷ []) _ by
    (images_alike classes pass now taken ws (All-tail (IsOneClass classes) w ws all))
  where
    here : IsOneClass classes w
    here = All-head (IsOneClass classes) w ws all

    by : All (IsOneClass classes) (if is_among taken w then images pass now w else w ∷ [])
    by = either (All (IsOneClass classes)) (is_among taken w) _ _ (λ is. image_alike classes pass now w here)
        (λ off. All-cons (IsOneClass classes) w [] here (All-nil (IsOneClass classes)))

-- any request, by the classes of after
step_alike : (world : World) → IsSound world → (request : Request) → LeavesOneClass world request → AreOneClass world → AreOneClass (step world request)
step_alike world sound request leaves all = by request leaves
  where
    apart : Pairs Differ world.workunits
    apart = to_pairs Differ world.workunits sound.names

    -- where the classes are as they were
    so : (asking : Request) → IsNoClasses asking → Alike world (step world asking) → AreOneClass (step world asking)
    so asking other alike = subst (λ classes. All (IsOneClass classes) (step world asking).workunits) (sym (step_same world asking other)) alike

    now : (asking : Request) → IsNoClasses asking → ((is_upgrade asking ≡ false → nat_lt world.version present_version ≡ false)
        → By (Alike world) world (done_now world asking)) → AreOneClass (step world asking)
    now asking other alike = so asking other (asked (Alike world) world all asking alike)

    reclassed : (old new : List HostClass) (class : ℕ) (host : Option (List ℕ)) → IfSome host (λ it. class_of old it ≡ class)
        → IfSome host (λ it. class_of new it ≡ class_of old it) → IfSome host (λ it. class_of new it ≡ class)
    reclassed old new class None was same = tt
    reclassed old new class (Some host) was same = same ∙ was

    by : (asking : Request) → LeavesOneClass world asking → AreOneClass (step world asking)
    by (AskBatch name template file) it =
        let given = batch_given name template file in
        now (AskBatch name template file) tt (λ younger. import_by (Alike world) world all given (λ new.
        batch_by (Alike world) world all given (template_of template) (jobs_of_file file) (λ params jobs template_is file_is free few.
        All-append (IsOneClass world.classes) world.workunits _ all (news_alike world.classes params (enumerate_from world.next_number jobs)))))
    by (AskSent name file) it =
        let given = sent_given name file in
        now (AskSent name file) tt (λ younger. import_by (Alike world) world all given (λ new.
        file_by (Alike world) world all (send_rule world.classes) given (sends_of_file file) (λ rows is. sends_alike world.classes rows world apart all)))
    by (AskReported name file) it =
        let given = reported_given name file in
        now (AskReported name file) tt (λ younger. import_by (Alike world) world all given (λ new.
        file_by (Alike world) world all report_rule given (reports_of_file file) (λ rows is.
        let verdicts = row_verdicts report_rule world rows in
        let answered : reply world (AskReported name file) ≡ Ok (Imported kind.Reported name 0 verdicts) = rw (younger refl, new, is) refl in
        reports_alike world.classes rows world apart refl (it rows verdicts new is answered) all)))
    by (AskClasses name file) it =
        let after = step world (AskClasses name file) in
        subst (All (IsOneClass after.classes)) (sym ((leaves_others world).classed name file))
        (λ k d low j e here active. reclassed world.classes after.classes (get_or world.workunits k d).class _ (all k d low j e here active) (it k d low j e here active))
    by (AskPass pass moment limit min_age) it =
        now (AskPass pass moment limit min_age) tt (λ younger. pass_by (Alike world) world all pass moment limit min_age
        (λ right. images_alike world.classes pass moment (chosen pass moment min_age limit world) world.workunits all))
    by (AskCancel name) it =
        now (AskCancel name) tt (λ younger. cancel_by (Alike world) world all name (λ w is undecided.
        named_all (IsOneClass world.classes) world apart name cancelled (λ v found alike. (rules_keep_one_class world.classes v alike).cancelled) all))
    by AskUpgrade it = now AskUpgrade tt (λ younger. all)

-- ---- where alone a request leaves them so

-- what holds of each image
map_back : (P : Workunit → Type 0) (f : Workunit → Workunit) (ws : List Workunit) → All P (map f ws) → All (λ w. P (f w)) ws
map_back P f ws all k d low = subst P (get_or-map f ws k d) (all k (f d) (omega (arith, low, length-map ws f)))

-- each viable success is of a host of its workunit's class
abbrev Viably : List HostClass → World → Type 0
Viably classes world = All (ViablyAlike classes) world.workunits

module _ (classes : List HostClass) (world : World) (row : ReportRow) (apart : Pairs Differ world.workunits)
    (after : Viably classes (after_row report_rule world row)) where
  -- a workunit as the row leaves it
  abbrev left : Workunit → Workunit
  left w = if bytes_eq w.name row.workunit then report_rule.image row w else w

  -- each as an applied row leaves it
  each_left : row_verdict report_rule world row ≡ 0 → All (λ w. ViablyAlike classes (left w)) world.workunits
  each_left nought =
      let applied : (row_verdict report_rule world row == 0) ≡ true = eq-eqb (row_verdict report_rule world row) 0 nought in
      let all : All (ViablyAlike classes) (map left world.workunits) = rw applied at after in
      map_back (ViablyAlike classes) left world.workunits all

  -- the one of the name among them
  its_left : (w : Workunit) → workunit_named world row.workunit ≡ Some w → row_verdict report_rule world row ≡ 0
      → ViablyAlike classes (report_rule.image row w)
  its_left w found nought =
      let is : bytes_eq w.name row.workunit ≡ true = found_passes (λ v. bytes_eq v.name row.workunit) world.workunits w found in
      let it : ViablyAlike classes (left w) =
      rw found at (found_is (λ v. ViablyAlike classes (left v)) (λ v. bytes_eq v.name row.workunit) world.workunits (each_left nought)) in
      rw is at it

  its_verdict : (w : Workunit) → workunit_named world row.workunit ≡ Some w → row_verdict report_rule world row ≡ 0
      → report_verdict_in w row.n row.host row.moment ≡ report.Applied
  its_verdict w found nought =
      let verdict : report_verdict_code (report_verdict_in w row.n row.host row.moment) ≡ 0 = rw found at nought in
      code_applied (report_verdict_in w row.n row.host row.moment) verdict

  -- so it was before the row
  row_back : Viably classes world
  row_back = row_by report_rule (λ left_world. Viably classes left_world → Viably classes world) world row (λ all. all) (λ nought all k d low.
      was nought (get_or world.workunits k d) (found_named row.workunit world.workunits apart k d low) (each_left nought k d low)) after
    where
      was : row_verdict report_rule world row ≡ 0 → (w : Workunit) → (bytes_eq w.name row.workunit ≡ true → workunit_named world row.workunit ≡ Some w)
          → ViablyAlike classes (left w) → ViablyAlike classes w
      was nought w found = either (λ v. ViablyAlike classes v → ViablyAlike classes w) (bytes_eq w.name row.workunit) _ _ (λ is it.
          alike_before classes w row.n row.host row.moment row.status row.output (its_verdict w (found is) nought) it) (λ other it. it)

  -- and a success that the row told is of a host of the class
  its_class : (w : Workunit) → workunit_named world row.workunit ≡ Some w → row_verdict report_rule world row ≡ 0 → row.status ≡ status.Success
      → class_of classes row.host ≡ w.class
  its_class w found nought said =
      told_of_class classes w row.n row.host row.moment row.status row.output (its_verdict w found nought) (its_left w found nought) said

  -- that is in time
  row_in_time : world.classes ≡ classes → row.status ≡ status.Success → MayReport world row → IsInTime world row
  row_in_time same said may =
      let it = some_of (OfInstance row.n (MayBeReported row.host row.moment)) (workunit_named world row.workunit) may in
      let w = it.0 in
      let class = its_class w it.1 ((takes_report world row).applied.1 may) said in
      subst (λ o. IsSomeAnd o Either) (sym it.1) (inr (ap (λ cs. class_of cs row.host) same ∙ class))
    where
      Either : Workunit → Type 0
      Either v = OfInstance row.n (λ i. is_in_progress i ≡ true) v ⊎ (class_of world.classes row.host ≡ v.class)

  -- and so the active instances are of one class after the row
  row_alike : All (IsOneClass classes) world.workunits → All (IsOneClass classes) (after_row report_rule world row).workunits
  row_alike all = row_all report_rule reports_keep world row apart (IsOneClass classes) (λ w found nought alike.
      ((rules_keep_one_class classes w alike).reported row.n row.host row.moment row.status row.output (its_verdict w found nought)).1
      (its_class w found nought)) all

module _ (classes : List HostClass) where
  reports_back : (rows : List ReportRow) (world : World) → Pairs Differ world.workunits → Viably classes (after_rows report_rule world rows)
      → Viably classes world
  reports_back [] world apart after = after
  reports_back (row ∷ rows) world apart after =
      row_back classes world row apart
      (reports_back rows (after_row report_rule world row) (row_apart report_rule reports_keep world row apart) after)

  reports_in_time : (rows : List ReportRow) (world : World) → Pairs Differ world.workunits → world.classes ≡ classes
      → All (IsOneClass classes) world.workunits → Viably classes (after_rows report_rule world rows) → ComeInTime world rows
  reports_in_time [] world apart same all after k it here said may = absurd (cc)
  reports_in_time (row ∷ rows) world apart same all after zero it here said may =
      let first : row ≡ it = cc in
      let next = reports_back rows (after_row report_rule world row) (row_apart report_rule reports_keep world row apart) after in
      subst (IsInTime world) first
      (row_in_time classes world row apart next same (ap (λ (r : ReportRow). r.status) first ∙ said) (subst (MayReport world) (sym first) may))
  reports_in_time (row ∷ rows) world apart same all after (suc k) it here said may =
      let others = row_apart report_rule reports_keep world row apart in
      let next = reports_back rows (after_row report_rule world row) others after in
      reports_in_time rows (after_row report_rule world row) others (rows_same report_rule (row ∷ []) world ∙ same)
      (row_alike classes world row apart next all) after k it here said may

-- a host whose class is that of the workunit before and after has the class that it had
reclassed_back : (old new : List HostClass) (class : ℕ) (host : Option (List ℕ)) → IfSome host (λ it. class_of old it ≡ class)
    → IfSome host (λ it. class_of new it ≡ class) → IfSome host (λ it. class_of new it ≡ class_of old it)
reclassed_back old new class None was is = tt
reclassed_back old new class (Some host) was is = is ∙ sym was

reported_back : (world : World) → IsSound world → AreOneClass world → (name file : List ℕ) → AreOneClass (step world (AskReported name file))
    → LeavesOneClass world (AskReported name file)
reported_back world sound all name file after rows verdicts new is answered =
    let younger = not_older world (AskReported name file) _ refl answered in
    let alike : Alike world (step world (AskReported name file)) =
    subst (λ classes. All (IsOneClass classes) (step world (AskReported name file)).workunits) (step_same world (AskReported name file) tt) after in
    let left_alike : All (IsOneClass world.classes) (after_rows report_rule world rows).workunits = rw (younger, new, is) at alike in
    reports_in_time world.classes rows world (to_pairs Differ world.workunits sound.names) refl all
    (All-weaker (IsOneClass world.classes) (ViablyAlike world.classes) (viably_alike world.classes) (after_rows report_rule world rows).workunits left_alike)

leaves_back : (world : World) → IsSound world → AreOneClass world → (request : Request) → AreOneClass (step world request) → LeavesOneClass world request
leaves_back world sound all (AskBatch name template file) after = tt
leaves_back world sound all (AskSent name file) after = tt
leaves_back world sound all (AskReported name file) after = reported_back world sound all name file after
leaves_back world sound all (AskClasses name file) after =
    let new = (step world (AskClasses name file)).classes in
    let same = (leaves_others world).classed name file in
    let alike : All (IsOneClass new) world.workunits = subst (All (IsOneClass new)) same after in
    (λ k d low j e here active. reclassed_back world.classes new (get_or world.workunits k d).class _ (all k d low j e here active) (alike k d low j e here active))
leaves_back world sound all (AskPass pass now limit min_age) after = tt
leaves_back world sound all (AskCancel name) after = tt
leaves_back world sound all AskUpgrade after = tt

pub leaves_exactly : OneClassStaysByStep
leaves_exactly world request sound all = (leaves_back world sound all request, λ leaves. step_alike world sound request leaves all)

-- ---- lists of requests

pub one_class_stays : OneClassStays
one_class_stays world [] values sound leaves all = all
one_class_stays world (request ∷ requests) values sound leaves all =
    let one = sound_step world sound request (All-head HasValues request requests values) in
    one_class_stays (step world request) requests (All-tail HasValues request requests values) one.0 (λ k asking here. leaves (suc k) asking here)
    (step_alike world sound request (leaves 0 request refl) all)

pub one_class_since : OneClassSince
one_class_since requests values leaves = one_class_stays empty_world requests values empty_sound leaves (All-nil (IsOneClass []))
