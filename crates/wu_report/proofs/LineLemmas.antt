-- The pieces of a line, one after another, are the line.
use Rattle.std.proofs.Common.{◌≡◌, ℕ, ◌-◌, List, [], ◌++◌, length, Option, decimal, append_assoc, append-nil, refl, ◌∙◌}
use Rattle.std.specs.Prelude.{codes}
use Rattle.wu_core.specs.Mask.{error_mask_code}
use Rattle.wu_core.specs.Words.{import_kind_word, server_state_word, outcome_word, validate_state_word, assimilate_word, file_delete_word}
use Rattle.wu_core.specs.declared.workunit.Archived.{Archived}
use Rattle.wu_core.specs.declared.workunit.HostClass.{HostClass}
use Rattle.wu_views.specs.declared.failures.HostFailures.{HostFailures}
use Rattle.wu_views.specs.declared.lines.ImportLine.{ImportLine}
use Rattle.wu_views.specs.declared.lines.ResultLine.{ResultLine}
use Rattle.wu_views.specs.declared.lines.Summary.{Summary}
use Rattle.wu_views.specs.declared.lines.WorkunitLine.{WorkunitLine}
use Rattle.wu_report.specs.Texts.{applied_count, archived_line, bytes_text, class_line, counted, failures_line, import_line, line_end, moment_text, next_line, number_or_dash, or_dash, result_line, summary_lines, workunit_line}

-- the pieces of a workunit's line
abbrev pub workunit_pieces : (number : ℕ) (name : List ℕ) (input quorum target errors total successes delay credit mask : ℕ) (canonical : Option ℕ) (assimilate delete : List ℕ) (done : Option ℕ) (class : ℕ) → List ℕ
workunit_pieces number name input quorum target errors total successes delay credit mask canonical assimilate delete done class =
    decimal number ++ (codes " " ++ (name ++ (codes " input=" ++ (decimal input
    ++ (codes " quorum=" ++ (decimal quorum ++ (codes " target=" ++ (decimal target
    ++ (codes " max_error=" ++ (decimal errors ++ (codes " max_total=" ++ (decimal total
    ++ (codes " max_success=" ++ (decimal successes ++ (codes " delay=" ++ (decimal delay
    ++ (codes " credit=" ++ (decimal credit ++ (codes " mask=" ++ (decimal mask
    ++ (codes " canonical=" ++ (or_dash decimal canonical ++ (codes " assimilate=" ++ (assimilate
    ++ (codes " delete=" ++ (delete ++ (codes " done=" ++ (or_dash moment_text done
    ++ (codes " class=" ++ (decimal class ++ (codes "\n" ++ [])))))))))))))))))))))))))))))))

pub workunit_pieces-are : (w : WorkunitLine) (name : List ℕ) (input quorum target errors total successes delay credit mask : ℕ) (assimilate delete : List ℕ) (class : ℕ)
    → name ≡ w.name → input ≡ w.input → quorum ≡ w.params.min_quorum → target ≡ w.params.target_nresults
    → errors ≡ w.params.max_error_results → total ≡ w.params.max_total_results → successes ≡ w.params.max_success_results
    → delay ≡ w.params.delay_bound → credit ≡ w.params.credit → mask ≡ error_mask_code w.error_mask
    → assimilate ≡ assimilate_word w.assimilate → delete ≡ file_delete_word w.file_delete → class ≡ w.class
    → workunit_line w ≡ workunit_pieces w.number name input quorum target errors total successes delay credit mask w.canonical assimilate delete w.done_at class
workunit_pieces-are w name input quorum target errors total successes delay credit mask assimilate delete class e1 e2 e3 e4 e5 e6 e7 e8 e9 e10 e11 e12 e13 =
    rw (e1, e2, e3, e4, e5, e6, e7, e8, e9, e10, e11, e12, e13) (simp append_assoc)

-- those of an instance's
pub result_pieces-are : (r : ResultLine) (name : List ℕ) (n : ℕ) (server outcome validate delete host : List ℕ)
    → name ≡ r.workunit → n ≡ r.n → server ≡ server_state_word r.server_state → outcome ≡ outcome_word r.outcome
    → validate ≡ validate_state_word r.validate_state → delete ≡ file_delete_word r.file_delete → host ≡ or_dash (λ text. text) r.host
    → result_line r ≡ name ++ (codes "_" ++ (decimal n ++ (codes " " ++ (server ++ (codes " " ++ (outcome ++ (codes " " ++ (validate
    ++ (codes " " ++ (delete ++ (codes " host=" ++ (host ++ (codes " sent=" ++ (or_dash moment_text r.sent_at
    ++ (codes " deadline=" ++ (or_dash moment_text r.deadline ++ (codes " received=" ++ (or_dash moment_text r.received_at
    ++ (codes " output=" ++ (decimal r.output ++ (codes "\n" ++ [])))))))))))))))))))))
result_pieces-are r name n server outcome validate delete host e1 e2 e3 e4 e5 e6 e7 = rw (e1, e2, e3, e4, e5, e6, e7) (simp append_assoc)

-- those of an archived row's
pub archived_pieces-are : (a : Archived) (name : List ℕ) (mask : ℕ) (output : List ℕ)
    → name ≡ a.name → mask ≡ error_mask_code a.error_mask → output ≡ bytes_text a.output
    → archived_line a ≡ decimal a.number ++ (codes " " ++ (name ++ (codes " mask=" ++ (decimal mask
    ++ (codes " canonical=" ++ (or_dash decimal a.canonical ++ (codes " done=" ++ (moment_text a.done_at
    ++ (codes " output=" ++ (output ++ (codes "\n" ++ [])))))))))))
archived_pieces-are a name mask output e1 e2 e3 = rw (e1, e2, e3) (simp append_assoc)

-- those of the line of a host that has a class
pub class_pieces-are : (it : HostClass) (host : List ℕ) (class : ℕ) → host ≡ it.host → class ≡ it.class
    → class_line it ≡ host ++ (codes " class=" ++ (decimal class ++ (codes "\n" ++ [])))
class_pieces-are it host class e1 e2 = rw (e1, e2) (simp append_assoc)

-- those of the line of a word and a number
pub counted_pieces-are : (word : List ℕ) (n : ℕ) → counted word n ≡ word ++ (codes " " ++ (decimal n ++ (codes "\n" ++ [])))
counted_pieces-are word n = simp append_assoc

-- those of the line of the next deadline
pub next_pieces-are : (deadline : Option ℕ) → next_line deadline ≡ codes "next_deadline " ++ (or_dash moment_text deadline ++ (codes "\n" ++ []))
next_pieces-are deadline = simp append_assoc

-- those of the line of a host of which instances failed
pub failures_pieces-are : (it : HostFailures) (host : List ℕ) → host ≡ it.host
    → failures_line it ≡ codes "host " ++ (host ++ (codes " errors " ++ (decimal it.errors ++ (codes " no_reply " ++ (decimal it.no_replies ++ (codes "\n" ++ []))))))
failures_pieces-are it host e = rw e (simp append_assoc)

-- those of an import's
pub import_pieces-are : (it : ImportLine) (word name verdicts : List ℕ) (applied : ℕ) (first : List ℕ)
    → word ≡ import_kind_word it.kind → name ≡ it.name → verdicts ≡ it.verdicts → applied ≡ applied_count verdicts → first ≡ number_or_dash it.first_number
    → import_line it ≡ word ++ (codes " " ++ (name ++ (codes " rows=" ++ (decimal (length verdicts)
    ++ (codes " applied=" ++ (decimal applied ++ (codes " skipped=" ++ (decimal (length verdicts - applied)
    ++ (codes " first=" ++ (first ++ (codes "\n" ++ [])))))))))))
import_pieces-are it word name verdicts applied first e1 e2 e3 e4 e5 = rw (e1, e2, e4, e3, e5) (simp append_assoc)

regrouped : (a b c d e f g h i j k l : List ℕ) → a ++ b ++ c ++ d ++ e ++ f ++ g ++ h ++ i ++ j ++ k ++ l ≡ a ++ (b ++ (c ++ (d ++ (e ++ (f ++ (g ++ (h ++ (i ++ (j ++ (k ++ (l ++ [])))))))))))
regrouped a b c d e f g h i j k l = simp (append_assoc, append-nil)

line_then : (word : List ℕ) (n : ℕ) (rest more : List ℕ) → rest ≡ more → counted word n ++ rest ≡ word ++ (codes " " ++ (decimal n ++ (line_end ++ more)))
line_then word n rest more e = rw e (simp append_assoc)

-- those of a summary's lines
pub summary_pieces-are : (s : Summary)
    → summary_lines s ≡ codes "version " ++ (decimal s.version ++ (codes "\nnext " ++ (decimal s.next_number
    ++ (codes "\nworkunits " ++ (decimal s.workunits ++ (codes "\nresults " ++ (decimal s.results
    ++ (codes "\nunsent " ++ (decimal s.unsent ++ (codes "\nin_progress " ++ (decimal s.in_progress
    ++ (codes "\nover " ++ (decimal s.over ++ (codes "\narchived " ++ (decimal s.archived
    ++ (codes "\ngrants " ++ (decimal s.grants ++ (codes "\ncredit " ++ (decimal s.credit
    ++ (codes "\nimports " ++ (decimal s.imports ++ (codes "\nclasses " ++ (decimal s.classes
    ++ (codes "\n" ++ []))))))))))))))))))))))))
summary_pieces-are s =
    regrouped (counted (codes "version") s.version) (counted (codes "next") s.next_number) (counted (codes "workunits") s.workunits) (counted (codes "results") s.results) (counted (codes "unsent") s.unsent) (counted (codes "in_progress") s.in_progress) (counted (codes "over") s.over) (counted (codes "archived") s.archived) (counted (codes "grants") s.grants) (counted (codes "credit") s.credit) (counted (codes "imports") s.imports) (counted (codes "classes") s.classes)
    ∙ (line_then (codes "version") s.version _ _ (line_then (codes "next") s.next_number _ _ (line_then (codes "workunits") s.workunits _ _ (line_then (codes "results") s.results _ _ (line_then (codes "unsent") s.unsent _ _ (line_then (codes "in_progress") s.in_progress _ _ (line_then (codes "over") s.over _ _ (line_then (codes "archived") s.archived _ _ (line_then (codes "grants") s.grants _ _ (line_then (codes "credit") s.credit _ _ (line_then (codes "imports") s.imports _ _ (line_then (codes "classes") s.classes [] [] refl))))))))))))
