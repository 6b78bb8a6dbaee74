-- The texts of one answer after another.
use Rattle.std.proofs.Common.{◌≡◌, ℕ, ◌+◌, ◌-◌, ◌≤◌, List, [], ◌∷◌, ◌++◌, length, take, drop, flat_map, Option, Some, sym, ap, ◌∙◌, subst, arith, append-nil, length-append, take-append-drop}
use Rattle.std.proofs.Math.Seq.{take-append_seam, take-append-add, take-length}
use Rattle.std.proofs.KnownBytes.{Appends-trans}
use Rattle.std.proofs.lemmas.List.Concat.{flat_map-append}
use Rattle.std.specs.Io.KnownBytes.{Appends}
use Rattle.wu_core.specs.declared.fault.Fault.TheVariants.{Output}
use Rattle.wu_machine.specs.declared.command.Answer.{Answer}
use Rattle.wu_drive.specs.declared.runs.Run.{Run}
use Rattle.wu_drive.specs.Texts.{reply_text}
use Rattle.wu_drive.specs.Writing.{WritesAnswers, answers_text}
use Rattle.wu_report.specs.Writing.{AppendsFront}
use Rattle.wu_machine.specs.Commands.{reply_of_answer}

abbrev text : Answer → List ℕ
text answer = reply_text (reply_of_answer answer)

pub answers_text-more : (answers : List Answer) (answer : Answer) → answers_text (answers ++ answer ∷ []) ≡ answers_text answers ++ text answer
answers_text-more answers answer =
    flat_map-append text answers (answer ∷ []) ∙ ap (λ l. flat_map text answers ++ l) (append-nil (text answer))

length-front : (answers : List Answer) (k : ℕ) → length (answers_text (take k answers)) ≤ length (answers_text answers)
length-front answers k =
    let parts : answers_text answers ≡ answers_text (take k answers) ++ answers_text (drop k answers) =
    ap (flat_map text) (sym (take-append-drop k answers)) ∙ flat_map-append text (take k answers) (drop k answers) in
    omega (arith, ap length parts, length-append (answers_text (take k answers)) (answers_text (drop k answers)))

-- each text was written whole
pub all_written : (a b : Option (List ℕ)) (answers : List Answer) (run : Run) → length answers ≡ run.acknowledged → Appends a b (answers_text answers)
    → WritesAnswers a b answers run
all_written a b answers run counted h = record {
  counted = counted;
  whole = λ _. h;
  front = (length (answers_text answers), length-front answers (run.acknowledged - 1), subst (Appends a b) (sym (take-length (answers_text answers))) h);
}

-- the last one was cut
pub last_cut : (a b c : Option (List ℕ)) (answers : List Answer) (answer : Answer) (run : Run) → length answers + 1 ≡ run.acknowledged → run.end ≡ Some Output
    → Appends a b (answers_text answers) → AppendsFront b c (text answer) → WritesAnswers a c (answers ++ answer ∷ []) run
last_cut a b c answers answer run counted ended earlier (count, last) =
    let before : run.acknowledged - 1 ≡ length answers = omega arith in
    let front : take (run.acknowledged - 1) (answers ++ answer ∷ []) ≡ answers = rw before (take-append_seam answers (answer ∷ [])) in
    let cut : take (length (answers_text answers) + count) (answers_text (answers ++ answer ∷ [])) ≡ answers_text answers ++ take count (text answer) =
    ap (take (length (answers_text answers) + count)) (answers_text-more answers answer) ∙ take-append-add (answers_text answers) (text answer) count in
    record {
      counted = length-append answers (answer ∷ []) ∙ counted;
      whole = λ other. absurd (other ended);
      front = (
        length (answers_text answers) + count,
        rw front (omega arith),
        subst (Appends a c) (sym cut) (Appends-trans a b c (answers_text answers) (take count (text answer)) earlier last),
      );
    }
