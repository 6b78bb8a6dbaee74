-- No line of an answer begins with '='.
use Rattle.std.proofs.Common.{ℕ, ◌-◌, length, List, [], ◌∷◌, ◌++◌, Option, IfSome, decimal, refl}
use Rattle.std.specs.Prelude.{codes}
use Rattle.wu_core.specs.declared.import.ImportKind.TheVariants as kind
use Rattle.wu_core.specs.Storable.{IsName}
use Rattle.wu_machine.specs.Requests.{Reply, Imported, Passed, Cancelled, Upgraded}
use Rattle.wu_report.specs.Texts.{applied_count, line_end, number_or_dash, pass_word, report_skip_word, send_skip_word, skip_lines}
use Rattle.wu_report.proofs.MarkLemmas.{IsInside, IsWhole, past_decimal, past_name, whole_append}
use Rattle.wu_report.proofs.MarkedSkips.{Begins, line_whole, report_inside, send_inside, skips_whole, with_parts}
use Rattle.wu_drive.specs.Marks.{HasValidName}
use Rattle.wu_report.proofs.MarkedLines.{begun_pass, past_number}
use Rattle.wu_drive.specs.Texts.{reply_text, rows_text}

-- ---- answers

rows_whole : (word name : List ℕ) → Begins word → IsName name → (skip_word : ℕ → Option (List ℕ)) → ((number : ℕ) → IfSome (skip_word number) IsInside)
    → (verdicts : List ℕ) → IsWhole (rows_text word name skip_word verdicts)
rows_whole word name begins named skip_word inside verdicts =
    let applied : ℕ = applied_count verdicts in
    let skipped : ℕ = length verdicts - applied in
    whole_append
    (with_parts word (codes " " ∷ name ∷ codes ": " ∷ decimal applied ∷ codes " applied, " ∷ decimal skipped ∷ codes " skipped" ∷ []) ++ line_end)
    (skip_lines skip_word verdicts)
    (line_whole word (codes " " ∷ name ∷ codes ": " ∷ decimal applied ∷ codes " applied, " ∷ decimal skipped ∷ codes " skipped" ∷ []) begins
    (λ rest. refl, (past_name name named, (λ rest. refl, (past_decimal applied, (λ rest. refl, (past_decimal skipped, (λ rest. refl, tt))))))))
    (skips_whole skip_word inside verdicts)

pub reply_whole : (answer : Reply) → HasValidName answer → IsWhole (reply_text answer)
reply_whole (Imported kind.Batch name first verdicts) named =
    line_whole (codes "batch ") (name ∷ codes ": " ∷ decimal (length verdicts) ∷ codes " added, first " ∷ number_or_dash first ∷ []) (λ rest. refl)
    (past_name name named, (λ rest. refl, (past_decimal (length verdicts), (λ rest. refl, (past_number first, tt)))))
reply_whole (Imported kind.Sent name first verdicts) named = rows_whole (codes "sent") name (λ rest. refl) named send_skip_word send_inside verdicts
reply_whole (Imported kind.Reported name first verdicts) named = rows_whole (codes "reported") name (λ rest. refl) named report_skip_word report_inside verdicts
reply_whole (Imported kind.Classes name first verdicts) named =
    line_whole (codes "classes ") (name ∷ codes ": " ∷ decimal (length verdicts) ∷ codes " applied" ∷ []) (λ rest. refl)
    (past_name name named, (λ rest. refl, (past_decimal (length verdicts), (λ rest. refl, tt))))
reply_whole (Passed pass handled) named = line_whole (pass_word pass) (codes ": " ∷ decimal handled ∷ []) (begun_pass pass) (λ rest. refl, (past_decimal handled, tt))
reply_whole (Cancelled name) named = line_whole (codes "cancel ") (name ∷ codes ": done" ∷ []) (λ rest. refl) (past_name name named, (λ rest. refl, tt))
reply_whole (Upgraded from to) named =
    line_whole (codes "upgrade: ") (decimal from ∷ codes " to " ∷ decimal to ∷ []) (λ rest. refl) (past_decimal from, (λ rest. refl, (past_decimal to, tt)))
