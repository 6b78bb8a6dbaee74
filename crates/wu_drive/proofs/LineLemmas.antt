-- The pieces of an answer, one after another, are its text.
use Rattle.std.proofs.Common.{◌≡◌, ℕ, ◌-◌, List, [], ◌++◌, length, decimal, append_assoc}
use Rattle.std.specs.Prelude.{codes, Option}
use Rattle.wu_report.specs.Texts.{applied_count, number_or_dash, skip_lines}
use Rattle.wu_drive.specs.Texts.{batch_text, classes_text, reply_text, rows_text}
use Rattle.wu_machine.specs.Requests.{Cancelled}

pub cancel_pieces-are : (name word : List ℕ) → word ≡ name → reply_text (Cancelled name) ≡ codes "cancel " ++ (word ++ (codes ": done" ++ (codes "\n" ++ [])))
cancel_pieces-are name word e = rw e (simp append_assoc)

pub batch_pieces-are : (name : List ℕ) (first : ℕ) (verdicts word number : List ℕ) → word ≡ name → number ≡ number_or_dash first
    → batch_text name first verdicts ≡ codes "batch " ++ (word ++ (codes ": " ++ (decimal (length verdicts) ++ (codes " added, first " ++ (number ++ (codes "\n" ++ []))))))
batch_pieces-are name first verdicts word number e1 e2 = rw (e1, e2) (simp append_assoc)

pub classes_pieces-are : (name verdicts word : List ℕ) → word ≡ name
    → classes_text name verdicts ≡ codes "classes " ++ (word ++ (codes ": " ++ (decimal (length verdicts) ++ (codes " applied\n" ++ []))))
classes_pieces-are name verdicts word e = rw e (simp append_assoc)

-- the first line of the answer to a file of rows
abbrev pub rows_pieces : (word name : List ℕ) (applied skipped : ℕ) → List ℕ
rows_pieces word name applied skipped =
    word ++ (codes " " ++ (name ++ (codes ": " ++ (decimal applied ++ (codes " applied, " ++ (decimal skipped ++ (codes " skipped\n" ++ [])))))))

pub rows_pieces-are : (word name : List ℕ) (skip : ℕ → Option (List ℕ)) (verdicts word₂ name₂ : List ℕ) (applied : ℕ) → word₂ ≡ word → name₂ ≡ name → applied ≡ applied_count verdicts
    → rows_text word name skip verdicts ≡ rows_pieces word₂ name₂ applied (length verdicts - applied) ++ skip_lines skip verdicts
rows_pieces-are word name skip verdicts word₂ name₂ applied e1 e2 e3 = rw (e1, e2, e3) (simp append_assoc)
