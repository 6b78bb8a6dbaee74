-- No line of a skipped row begins with '=': the parts of lines, the words of skips, and the lines.
use Rattle.std.proofs.Common.{◌≡◌, ℕ, ap, ◌∙◌, true, false, List, [], ◌∷◌, ◌++◌, Option, Some, None, IfSome, decimal, append_assoc, refl}
use Rattle.std.specs.List.{AllByRecursion, enumerate_from}
use Rattle.std.specs.Option.{option_map_or}
use Rattle.std.specs.Prelude.{⊤, codes}
use Rattle.wu_core.specs.declared.import.ImportKind.{ImportKind}
use Rattle.wu_core.specs.declared.import.ImportKind.TheVariants as kind
use Rattle.wu_rules.specs.declared.verdicts.ReportVerdict.{ReportVerdict}
use Rattle.wu_rules.specs.declared.verdicts.ReportVerdict.TheVariants as report
use Rattle.wu_rules.specs.declared.verdicts.SendVerdict.{SendVerdict}
use Rattle.wu_rules.specs.declared.verdicts.SendVerdict.TheVariants as send
use Rattle.wu_rules.specs.Verdicts.{report_verdict_word, send_verdict_word}
use Rattle.wu_report.specs.Texts.{line_end, report_skip_word, report_verdict_numbered, send_skip_word, send_verdict_numbered, skip_line, skip_lines, skip_word}
use Rattle.wu_report.proofs.MarkLemmas.{IsInside, is_unmarked, IsWhole, past, past_decimal, whole_flat_map}

-- ---- lines

-- the scan passes the part in a line, and at the front of one
abbrev pub Passes : List ℕ → Type 0
Passes part = (rest : List ℕ) → is_unmarked false (part ++ rest) ≡ is_unmarked false rest

abbrev pub Begins : List ℕ → Type 0
Begins part = (rest : List ℕ) → is_unmarked true (part ++ rest) ≡ is_unmarked false rest

-- the text, and parts after it
abbrev pub with_parts : List ℕ → List (List ℕ) → List ℕ
with_parts text [] = text
with_parts text (part ∷ parts) = with_parts (text ++ part) parts

parts_begin : (text : List ℕ) (parts : List (List ℕ)) → Begins text → AllByRecursion Passes parts → Begins (with_parts text parts)
parts_begin text [] begins all = begins
parts_begin text (part ∷ parts) begins all =
    parts_begin (text ++ part) parts (λ rest. ap (is_unmarked true) (append_assoc text part rest) ∙ begins (part ++ rest) ∙ all.0 rest) all.1

pub line_whole : (text : List ℕ) (parts : List (List ℕ)) → Begins text → AllByRecursion Passes parts → IsWhole (with_parts text parts ++ line_end)
line_whole text parts begins all rest =
    ap (is_unmarked true) (append_assoc (with_parts text parts) line_end rest) ∙ parts_begin text parts begins all (line_end ++ rest)

-- ---- skipped rows

pub send_inside : (number : ℕ) → IfSome (send_skip_word number) IsInside
send_inside number = by_verdict (send_verdict_numbered number)
  where
    by_verdict : (o : Option SendVerdict) → IfSome (option_map_or send_verdict_word o None) IsInside
    by_verdict None = tt
    by_verdict (Some send.Applied) = tt
    by_verdict (Some _) = refl

pub report_inside : (number : ℕ) → IfSome (report_skip_word number) IsInside
report_inside number = by_verdict (report_verdict_numbered number)
  where
    by_verdict : (o : Option ReportVerdict) → IfSome (option_map_or report_verdict_word o None) IsInside
    by_verdict None = tt
    by_verdict (Some report.Applied) = tt
    by_verdict (Some _) = refl

-- the words of each kind of file
pub skip_inside : (of : ImportKind) (number : ℕ) → IfSome (skip_word of number) IsInside
skip_inside kind.Sent number = send_inside number
skip_inside kind.Reported number = report_inside number
skip_inside _ number = tt

module _ (word : ℕ → Option (List ℕ)) (inside : (number : ℕ) → IfSome (word number) IsInside) where
  skip_whole : (row : ℕ × ℕ) → IsWhole (skip_line word row)
  skip_whole row = by_word (word row.1) (inside row.1)
    where
      by_word : (o : Option (List ℕ)) → IfSome o IsInside
          → IsWhole (option_map_or (λ why. codes "  row " ++ decimal row.0 ++ codes ": " ++ why ++ line_end) o [])
      by_word None is = λ rest. refl
      by_word (Some why) is =
          line_whole (codes "  row ") (decimal row.0 ∷ codes ": " ∷ why ∷ []) (λ rest. refl) (past_decimal row.0, (λ rest. refl, (past why is, tt)))

  pub skips_whole : (verdicts : List ℕ) → IsWhole (skip_lines word verdicts)
  skips_whole verdicts = whole_flat_map (λ _. ⊤) (skip_line word) (λ row _. skip_whole row) (enumerate_from 2 verdicts) (λ k d within. tt)
