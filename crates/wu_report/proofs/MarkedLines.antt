-- No line of a view begins with '=': the parts of its lines, its lines, and its text.
use Rattle.std.proofs.Common.{◌∙◌, ap, ◌≡◌, ℕ, ◌+◌, ◌/◌, ◌%◌, ◌==◌, Bool, true, false, cond, ◌&&◌, List, [], ◌∷◌, ◌++◌, map, All, Option, Some, None, decimal, append_assoc, refl, bytes_eq}
use Rattle.std.proofs.lemmas.Bool.{and_from}
use Rattle.std.proofs.lemmas.List.Elements.{All-append, All-cons, All-filter, All-from_recursion, All-head, All-map, All-nil, All-tail, recursion_from_All}
use Rattle.std.specs.List.{enumerate_from, flat_map, list_all}
use Rattle.std.specs.Prelude.{codes, ⊤}
use Rattle.hex.specs.Hex.{encode_lower, encode_with, lower_digits}
use Rattle.wu_core.specs.declared.import.ImportKind.{ImportKind}
use Rattle.wu_core.specs.declared.import.ImportKind.TheVariants as kind
use Rattle.wu_core.specs.declared.states.Assimilate.{Assimilate}
use Rattle.wu_core.specs.declared.states.Assimilate.TheVariants as assimilate
use Rattle.wu_core.specs.declared.states.FileDelete.{FileDelete}
use Rattle.wu_core.specs.declared.states.FileDelete.TheVariants as file_delete
use Rattle.wu_core.specs.declared.states.Outcome.{Outcome}
use Rattle.wu_core.specs.declared.states.Outcome.TheVariants as outcome
use Rattle.wu_core.specs.declared.states.ServerState.{ServerState}
use Rattle.wu_core.specs.declared.states.ServerState.TheVariants as server
use Rattle.wu_core.specs.declared.states.ValidateState.{ValidateState}
use Rattle.wu_core.specs.declared.states.ValidateState.TheVariants as validate
use Rattle.wu_core.specs.declared.workunit.Archived.{Archived}
use Rattle.wu_core.specs.declared.workunit.HostClass.{HostClass}
use Rattle.wu_core.specs.declared.workunit.Instance.{Instance}
use Rattle.wu_core.specs.declared.workunit.Workunit.{Workunit}
use Rattle.wu_core.specs.Hosts.{hosts_of}
use Rattle.wu_core.specs.Storable.{IsHost, IsName, IsStorable, IsStoredInstance}
use Rattle.wu_core.specs.Words.{import_kind_word, server_state_word, outcome_word, validate_state_word, assimilate_word, file_delete_word}
use Rattle.wu_core.specs.World.{Import, World}
use Rattle.wu_views.specs.declared.failures.HostFailures.{HostFailures}
use Rattle.wu_schema.specs.declared.rows.HostSum.{HostSum}
use Rattle.wu_views.specs.declared.lines.ImportLine.{ImportLine}
use Rattle.wu_views.specs.declared.lines.ResultLine.{ResultLine}
use Rattle.wu_views.specs.declared.lines.Summary.{Summary}
use Rattle.wu_views.specs.declared.lines.WorkunitLine.{WorkunitLine}
use Rattle.wu_views.specs.declared.waiting.DueLine.{DueLine}
use Rattle.wu_views.specs.declared.waiting.StatusLine.{StatusLine}
use Rattle.wu_views.specs.declared.waiting.StatusLine.TheVariants as status
use Rattle.wu_views.specs.Waiting.{count_lines, due_lines, status_lines}
use Rattle.wu_views.specs.Failures.{worst_hosts}
use Rattle.wu_views.specs.Tallies.{deadlines_of, decisions_of}
use Rattle.wu_rules.specs.declared.due.Pass.{Pass}
use Rattle.wu_rules.specs.declared.due.Pass.TheVariants as pass
use Rattle.wu_views.specs.Imports.{imports_in_order}
use Rattle.wu_views.proofs.ImportLemmas.{each_in_order}
use Rattle.wu_views.proofs.NamedHosts.{worst_have}
use Rattle.wu_views.specs.Lines.{archived_lines, AreImportsStorable, class_lines, host_line_of, host_lines, import_line_of, import_lines, import_lines_named, line_of, result_line_of, result_lines, result_lines_of, summary_of, workunit_lines}
use Rattle.wu_machine.specs.declared.view.View.{View}
use Rattle.wu_machine.specs.declared.view.View.TheVariants as view
use Rattle.wu_report.specs.Marks.{HasValidNames}
use Rattle.wu_report.specs.Texts.{archived_line, bytes_text, class_line, counted, due_line, failures_line, host_line, import_line, line_end, moment_text, next_line, number_or_dash, or_dash, pass_word, result_line, status_line, summary_lines, view_text, workunit_line, import_detail, skip_lines, skip_word}
use Rattle.wu_report.specs.Views.{CanBeShown}
use Rattle.wu_report.proofs.MarkedSkips.{skip_inside, skips_whole}
use Rattle.wu_report.proofs.MarkLemmas.{begun, both_true, begun_decimal, begun_name, digit_inside, IsFront, is_front, IsInside, is_inside, is_unmarked, IsWhole, past, past_decimal, past_name, read_inside, whole_append, whole_flat_map}

-- ---- parts

moment_inside : (seconds : ℕ) → IsInside (moment_text seconds)
unfolding moment_text
moment_inside seconds = simp digit_inside

past_moment : (moment : Option ℕ) (rest : List ℕ) → is_unmarked false (or_dash moment_text moment ++ rest) ≡ is_unmarked false rest
past_moment (Some seconds) rest = past (moment_text seconds) (moment_inside seconds) rest
past_moment None rest = refl

past_place : (place : Option ℕ) (rest : List ℕ) → is_unmarked false (or_dash decimal place ++ rest) ≡ is_unmarked false rest
past_place (Some n) rest = past_decimal n rest
past_place None rest = refl

past_host : (host : Option (List ℕ)) → IsHost host → (rest : List ℕ) → is_unmarked false (or_dash (λ host. host) host ++ rest) ≡ is_unmarked false rest
past_host (Some name) is rest = past_name name is rest
past_host None is rest = refl

hex_inside : (bytes : List ℕ) → IsInside (encode_lower bytes)
unfolding encode_with
hex_inside [] = refl
hex_inside (byte ∷ bytes) =
    and_from _ _ (read_inside lower_digits refl (byte / 16)) (and_from _ _ (read_inside lower_digits refl (byte % 16)) (hex_inside bytes))

past_bytes : (bytes rest : List ℕ) → is_unmarked false (bytes_text bytes ++ rest) ≡ is_unmarked false rest
past_bytes [] rest = refl
past_bytes (byte ∷ bytes) rest = past (encode_lower (byte ∷ bytes)) (hex_inside (byte ∷ bytes)) rest

pub past_number : (n : ℕ) (rest : List ℕ) → is_unmarked false (number_or_dash n ++ rest) ≡ is_unmarked false rest
past_number n rest = by_test (n == 0)
  where
    by_test : (b : Bool) → is_unmarked false (cond b (codes "-") (decimal n) ++ rest) ≡ is_unmarked false rest
    by_test true = refl
    by_test false = past_decimal n rest

begun_kind : (kind : ImportKind) (rest : List ℕ) → is_unmarked true (import_kind_word kind ++ rest) ≡ is_unmarked false rest
begun_kind kind.Batch rest = refl
begun_kind _ rest = refl

pub begun_pass : (pass : Pass) (rest : List ℕ) → is_unmarked true (pass_word pass ++ rest) ≡ is_unmarked false rest
begun_pass pass.Transition rest = refl
begun_pass _ rest = refl

past_server_state : (state : ServerState) (rest : List ℕ) → is_unmarked false (server_state_word state ++ rest) ≡ is_unmarked false rest
past_server_state server.Inactive rest = refl
past_server_state _ rest = refl

past_outcome : (it : Outcome) (rest : List ℕ) → is_unmarked false (outcome_word it ++ rest) ≡ is_unmarked false rest
past_outcome outcome.Init rest = refl
past_outcome _ rest = refl

past_validate_state : (state : ValidateState) (rest : List ℕ) → is_unmarked false (validate_state_word state ++ rest) ≡ is_unmarked false rest
past_validate_state validate.Init rest = refl
past_validate_state _ rest = refl

past_assimilate : (state : Assimilate) (rest : List ℕ) → is_unmarked false (assimilate_word state ++ rest) ≡ is_unmarked false rest
past_assimilate assimilate.Init rest = refl
past_assimilate _ rest = refl

past_file_delete : (state : FileDelete) (rest : List ℕ) → is_unmarked false (file_delete_word state ++ rest) ≡ is_unmarked false rest
past_file_delete file_delete.Init rest = refl
past_file_delete _ rest = refl

-- ---- lines

workunit_whole : (w : WorkunitLine) → IsName w.name → IsWhole (workunit_line w)
workunit_whole w named rest =
    simp (append_assoc, begun_decimal, past_name w.name named, past_decimal, past_place, past_moment, past_assimilate, past_file_delete)

result_whole : (r : ResultLine) → IsName r.workunit × IsHost r.host → IsWhole (result_line r)
result_whole r named rest =
    simp (append_assoc, begun_name r.workunit named.0, past_host r.host named.1, past_decimal, past_moment, past_server_state, past_outcome, past_validate_state, past_file_delete)

host_whole : (host : HostSum) → IsName host.name → IsWhole (host_line host)
host_whole host named rest = simp (append_assoc, begun_name host.name named, past_decimal)

archived_whole : (row : Archived) → IsName row.name → IsWhole (archived_line row)
archived_whole row named rest =
    simp (append_assoc, begun_decimal, past_name row.name named, past_decimal, past_place, past_moment (Some row.done_at), past_bytes)

class_whole : (it : HostClass) → IsName it.host → IsWhole (class_line it)
class_whole it named rest = simp (append_assoc, begun_name it.host named, past_decimal)

import_whole : (it : ImportLine) → IsName it.name → IsWhole (import_line it)
import_whole it named rest = simp (append_assoc, begun_kind, past_name it.name named, past_decimal, past_number)

detail_whole : (it : ImportLine) → IsName it.name → IsWhole (import_detail it)
detail_whole it named = whole_append (import_line it) (skip_lines (skip_word it.kind) it.verdicts) (import_whole it named) (skips_whole (skip_word it.kind) (skip_inside it.kind) it.verdicts)

due_whole : (it : DueLine) → IsWhole (due_line it)
due_whole it rest = simp (append_assoc, begun_pass, past_decimal)

counted_whole : (word : List ℕ) → IsFront word → IsInside word → (n : ℕ) → IsWhole (counted word n)
counted_whole word front inside n rest = simp (append_assoc, begun word front inside, past_decimal)

next_whole : (deadline : Option ℕ) → IsWhole (next_line deadline)
next_whole deadline rest =
    begun (codes "next_deadline ") refl refl ((or_dash moment_text deadline ++ line_end) ++ rest)
    ∙ ap (λ text. is_unmarked false text) (append_assoc (or_dash moment_text deadline) line_end rest) ∙ past_moment deadline (line_end ++ rest)

failures_whole : (it : HostFailures) → IsName it.host → IsWhole (failures_line it)
failures_whole it named rest =
    let last = decimal it.no_replies ++ (line_end ++ rest) in
    let numbers = decimal it.errors ++ (codes " no_reply " ++ last) in
    let parts : failures_line it ++ rest ≡ codes "host " ++ (it.host ++ (codes " errors " ++ numbers)) = simp append_assoc in
    ap (is_unmarked true) parts ∙ begun (codes "host ") refl refl (it.host ++ (codes " errors " ++ numbers)) ∙ past_name it.host named (codes " errors " ++ numbers)
    ∙ past_decimal it.errors (codes " no_reply " ++ last) ∙ past_decimal it.no_replies (line_end ++ rest)

-- a host that is named has a valid name
abbrev IsStatusNamed : StatusLine → Type 0
IsStatusNamed (status.Host it) = IsName it.host
IsStatusNamed other = ⊤

status_whole : (it : StatusLine) → IsStatusNamed it → IsWhole (status_line it)
status_whole (status.Due it) named = due_whole it
status_whole (status.Undecided n) named = counted_whole (codes "undecided") refl refl n
status_whole (status.GivenUp n) named = counted_whole (codes "given_up") refl refl n
status_whole (status.Overdue n) named = counted_whole (codes "overdue") refl refl n
status_whole (status.NextDeadline deadline) named = next_whole deadline
status_whole (status.Host it) named = failures_whole it named

status_named : (world : World) (now : ℕ) → All (λ (it : HostFailures). IsName it.host) (worst_hosts world) → All IsStatusNamed (status_lines now world)
status_named world now named =
    let counts = due_lines now world ++ count_lines (decisions_of world) (deadlines_of now world) in
    All-append IsStatusNamed counts (map status.Host (worst_hosts world))
    (All-from_recursion IsStatusNamed counts (tt, (tt, (tt, (tt, (tt, (tt, (tt, (tt, (tt, tt))))))))))
    (All-map IsStatusNamed status.Host (worst_hosts world) named)

-- the text, and the lines of a summary after it, each by its word and its number
abbrev with_counts : List ℕ → List (List ℕ × ℕ) → List ℕ
with_counts text [] = text
with_counts text (line ∷ lines) = with_counts (text ++ counted line.0 line.1) lines

abbrev has_plain_word : List ℕ × ℕ → Bool
has_plain_word line = is_front line.0 && list_all is_inside line.0

counts_whole : (lines : List (List ℕ × ℕ)) → list_all has_plain_word lines ≡ true → (text : List ℕ) → IsWhole text → IsWhole (with_counts text lines)
counts_whole [] plain text whole = whole
counts_whole (line ∷ lines) plain text whole =
    let both = both_true (has_plain_word line) (list_all has_plain_word lines) plain in
    let word = both_true (is_front line.0) (list_all is_inside line.0) both.0 in
    counts_whole lines both.1 (text ++ counted line.0 line.1)
    (whole_append text (counted line.0 line.1) whole (counted_whole line.0 word.0 word.1 line.1))

-- the counts after that of the version
abbrev counts_of : Summary → List (List ℕ × ℕ)
counts_of s =
    (codes "next", s.next_number) ∷
    (codes "workunits", s.workunits) ∷
    (codes "results", s.results) ∷
    (codes "unsent", s.unsent) ∷
    (codes "in_progress", s.in_progress) ∷
    (codes "over", s.over) ∷
    (codes "archived", s.archived) ∷
    (codes "grants", s.grants) ∷
    (codes "credit", s.credit) ∷
    (codes "imports", s.imports) ∷
    (codes "classes", s.classes) ∷ []

summary_whole : (s : Summary) → IsWhole (summary_lines s)
summary_whole s = counts_whole (counts_of s) refl (counted (codes "version") s.version) (counted_whole (codes "version") refl refl s.version)

pub view_whole : (world : World) (v : View) → HasValidNames world v → IsWhole (view_text world v)
view_whole world view.Workunits named = whole_flat_map (λ (w : WorkunitLine). IsName w.name) workunit_line workunit_whole (workunit_lines world) named
view_whole world view.Results named = whole_flat_map (λ (r : ResultLine). IsName r.workunit × IsHost r.host) result_line result_whole (result_lines world) named
view_whole world view.Hosts named = whole_flat_map (λ (host : HostSum). IsName host.name) host_line host_whole (host_lines world) named
view_whole world view.Archive named = whole_flat_map (λ (row : Archived). IsName row.name) archived_line archived_whole (archived_lines world) named
view_whole world view.Summary named = summary_whole (summary_of world)
view_whole world view.Imports named = whole_flat_map (λ (it : ImportLine). IsName it.name) import_line import_whole (import_lines world) named
view_whole world (view.Import name) named = whole_flat_map (λ (it : ImportLine). IsName it.name) import_detail detail_whole (import_lines_named name world) named
view_whole world (view.Status now) named = whole_flat_map IsStatusNamed status_line status_whole (status_lines now world) (status_named world now named)
view_whole world view.Classes named = whole_flat_map (λ (it : HostClass). IsName it.host) class_line class_whole (class_lines world) named

-- ---- names of what can be read

abbrev IsResultNamed : ResultLine → Type 0
IsResultNamed r = IsName r.workunit × IsHost r.host

instances_named : (name : List ℕ) → IsName name → (n : ℕ) (instances : List Instance) → All IsStoredInstance instances
    → All IsResultNamed (map (result_line_of name) (enumerate_from n instances))
instances_named name named n [] all = All-nil IsResultNamed
instances_named name named n (i ∷ instances) all =
    All-cons IsResultNamed (result_line_of name (n, i)) (map (result_line_of name) (enumerate_from (n + 1) instances))
    (named, (All-head IsStoredInstance i instances all).values.host)
    (instances_named name named (n + 1) instances (All-tail IsStoredInstance i instances all))

results_named : (workunits : List Workunit) → All IsStorable workunits → All IsResultNamed (flat_map result_lines_of workunits)
results_named [] all = All-nil IsResultNamed
results_named (w ∷ workunits) all =
    let storable = All-head IsStorable w workunits all in
    All-append IsResultNamed (result_lines_of w) (flat_map result_lines_of workunits)
    (instances_named w.name storable.row.name 0 w.instances storable.instances.each)
    (results_named workunits (All-tail IsStorable w workunits all))

hosts_named : (workunits : List Workunit) → All IsStorable workunits → All (λ (i : Instance). IsHost i.host) (flat_map (λ (w : Workunit). w.instances) workunits)
hosts_named [] all = All-nil (λ (i : Instance). IsHost i.host)
hosts_named (w ∷ workunits) all =
    let storable = All-head IsStorable w workunits all in
    All-append (λ (i : Instance). IsHost i.host) w.instances (flat_map (λ (w : Workunit). w.instances) workunits)
    (λ k d within. (storable.instances.each k d within).values.host)
    (hosts_named workunits (All-tail IsStorable w workunits all))

abbrev IsImportNamed : Import → Type 0
IsImportNamed import = IsName import.name

imports_named : (world : World) → AreImportsStorable world → All (λ (it : ImportLine). IsName it.name) (import_lines world)
imports_named world shown =
    All-map (λ (it : ImportLine). IsName it.name) import_line_of (imports_in_order world.imports)
    (All-from_recursion IsImportNamed (imports_in_order world.imports) (each_in_order IsImportNamed world.imports (recursion_from_All IsImportNamed world.imports (λ k d within. (shown k d within).name))))

pub names_valid : (world : World) (v : View) → CanBeShown world v → HasValidNames world v
names_valid world view.Workunits shown = All-map (λ (w : WorkunitLine). IsName w.name) line_of world.workunits (λ k d within. (shown k d within).row.name)
names_valid world view.Results shown = results_named world.workunits shown
names_valid world view.Hosts shown = All-map (λ (host : HostSum). IsName host.name) (host_line_of world.grants) (hosts_of world.grants) shown
names_valid world view.Archive shown = λ k d within. (shown k d within).name
names_valid world (view.Import name) shown = All-filter (λ (it : ImportLine). bytes_eq it.name name) (λ it. IsName it.name) (import_lines world) (imports_named world shown)
names_valid world (view.Status now) shown = worst_have IsName world (hosts_named world.workunits shown)
names_valid world view.Classes shown = λ k d within. (shown k d within).host
names_valid world view.Imports shown = imports_named world shown
names_valid world _ shown = tt
