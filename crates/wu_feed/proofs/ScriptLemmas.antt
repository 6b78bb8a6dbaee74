-- The words of a line and the lines of a script, one after the other.
use Rattle.std.proofs.Common.{◌≡◌, ◌≤◌, ◌<◌, ◌+◌, ◌==◌, ℕ, zero, suc, Bool, true, false, List, [], ◌∷◌, ◌++◌, Bor, length, get_or, map, drop, filter, slice_get, Option, Some, None, Result, Ok, Err, append_assoc, if◌then◌else◌, arith, refl, sym, ap, ◌∙◌}
use Rattle.std.specs.List.{cons_option, enumerate_from, filter_map, list_any}
use Rattle.std.specs.Str.{IsUtf8, is_utf8}
use Rattle.std.proofs.lemmas.Bool.Decides.{nat_tests}
use Rattle.std.proofs.lemmas.List.{append-nil, drop_all, drop_more}
use Rattle.std.proofs.lemmas.Str.{IsUtf8-from_is_utf8, is_utf8-from_IsUtf8}
use Rattle.csv.specs.Machine.{line_feed}
use Rattle.csv.specs.Records.{field_at}
use Rattle.wu_core.specs.Reads.{IsOrWantsMemory}
use Rattle.wu_core.specs.declared.fault.Fault.{Fault}
use Rattle.wu_feed.proofs.FieldLemmas.{field_here}
use Rattle.wu_feed.proofs.ReadLemmas.{value_read}
use Rattle.wu_feed.specs.Scripts.{field_cause, has_bytes, line_with, script_line_of, words_among, words_at, words_unless, TellsLate}
use Rattle.wu_feed.specs.declared.script.LineCause.{LineCause}
use Rattle.wu_feed.specs.declared.script.LineCause.TheVariants as cause
use Rattle.wu_feed.specs.declared.script.ScriptLine.{ScriptLine}

-- a field that is closed and text is a word
pub no_cause : (field : List ℕ) → list_any (λ byte. byte == line_feed) field ≡ false → IsUtf8 field → field_cause field ≡ None
no_cause field closed text =
    let is = is_utf8-from_IsUtf8 field text in
    rw (closed, is) refl

pub no_text : (field : List ℕ) → list_any (λ byte. byte == line_feed) field ≡ false → ¬ (IsUtf8 field) → field_cause field ≡ Some cause.NotText
no_text field closed other = rw closed (by (is_utf8 field) refl)
  where
    by : (is : Bool) → is_utf8 field ≡ is → (if is then None else Some cause.NotText) ≡ Some cause.NotText
    by true is = absurd (other (IsUtf8-from_is_utf8 field is))
    by false is = refl

-- words before others
abbrev pub after_words : List (List ℕ) → Result (List (List ℕ)) LineCause → Result (List (List ℕ)) LineCause
after_words front (Ok words) = Ok (front ++ words)
after_words front (Err why) = Err why

pub no_words_before : (rest : Result (List (List ℕ)) LineCause) → after_words [] rest ≡ rest
no_words_before (Ok words) = refl
no_words_before (Err why) = refl

no_field : (fields : List (List ℕ)) (i : ℕ) → None ≡ field_at fields i → drop i fields ≡ []
unfolding field_at
no_field [] zero e = refl
no_field [] (suc i) e = refl
no_field (a ∷ more) zero e = cc e
no_field (a ∷ more) (suc i) e = no_field more i e

pushed : (front words : List (List ℕ)) (field : List ℕ) (why : Option LineCause) → after_words (front ++ field ∷ []) (words_unless why words) ≡ after_words front (words_unless why (field ∷ words))
pushed front words field None = ap Ok (append_assoc front (field ∷ []) words)
pushed front words field (Some why) = refl

-- the next field is a word
pub one_word : (front fields : List (List ℕ)) (i : ℕ) (field : List ℕ) (whole : Result (List (List ℕ)) LineCause) → Some field ≡ field_at fields i → field_cause field ≡ None
    → 0 < length field → after_words front (words_among (drop i fields)) ≡ whole → after_words (front ++ field ∷ []) (words_among (drop (i + 1) fields)) ≡ whole
one_word front fields i field whole is word long so_far =
    let here = field_here fields i field is in
    let some : has_bytes field ≡ true = grind (arith, nat_tests) in
    let rest = drop (i + 1) fields in
    pushed front (filter has_bytes rest) field (slice_get (filter_map field_cause rest) 0) ∙ rw (here, word, some) at so_far

-- it is empty
pub empty_field : (front fields : List (List ℕ)) (i : ℕ) (field : List ℕ) (whole : Result (List (List ℕ)) LineCause) → Some field ≡ field_at fields i → field_cause field ≡ None
    → length field ≡ 0 → after_words front (words_among (drop i fields)) ≡ whole → after_words front (words_among (drop (i + 1) fields)) ≡ whole
empty_field front fields i field whole is word short so_far =
    let here = field_here fields i field is in
    let none : has_bytes field ≡ false = grind (arith, nat_tests) in
    rw (here, word, none) at so_far

-- it is none
pub bad_field : (front fields : List (List ℕ)) (i : ℕ) (field : List ℕ) (why : LineCause) (whole : Result (List (List ℕ)) LineCause) → Some field ≡ field_at fields i
    → field_cause field ≡ Some why → after_words front (words_among (drop i fields)) ≡ whole → Err why ≡ whole
bad_field front fields i field why whole is bad so_far =
    let here = field_here fields i field is in
    rw (here, bad) at so_far

-- no field is left
pub all_words : (front fields : List (List ℕ)) (i : ℕ) (whole : Result (List (List ℕ)) LineCause) → None ≡ field_at fields i
    → after_words front (words_among (drop i fields)) ≡ whole → Ok front ≡ whole
all_words front fields i whole none so_far =
    let past = no_field fields i none in
    ap Ok (sym (append-nil front)) ∙ rw past at so_far

-- the lines from a place on, of which the first has the number after this one
abbrev pub lines_from : ℕ → List (List ℕ) → List ScriptLine
lines_from number lines = filter_map script_line_of (enumerate_from (number + 1) lines)

-- the lines from a place on are what the line there is and those after it
lines_at : (number : ℕ) (lines : List (Bor (List ℕ))) (i : ℕ) (d : Bor (List ℕ)) → i < length lines
    → lines_from number (map (λ l. l.now) (drop i lines)) ≡ cons_option (script_line_of (number + 1, (get_or lines i d).now)) (lines_from (number + 1) (map (λ l. l.now) (drop (i + 1) lines)))
lines_at number lines i d within = rw (drop_more lines i d within) refl

-- what a line is that has no byte, and one that has some
pub no_byte : (number : ℕ) (line : List ℕ) → (length line == 0) ≡ true → script_line_of (number, line) ≡ None
no_byte number line empty =
    let none : has_bytes line ≡ false = grind (arith, nat_tests) in
    rw none refl

has_byte : (number : ℕ) (line : List ℕ) → (length line == 0) ≡ false → script_line_of (number, line) ≡ line_with number (words_at number line)
has_byte number line some =
    let has : has_bytes line ≡ true = grind (arith, nat_tests) in
    rw has refl

pub line_made : (number : ℕ) (line : List ℕ) (words : Result (List (List ℕ)) LineCause) → (length line == 0) ≡ false → IsOrWantsMemory (Ok words) (Ok (words_at number line))
    → line_with number words ≡ script_line_of (number, line)
line_made number line words some read = ap (line_with number) (sym (value_read words (words_at number line) read)) ∙ sym (has_byte number line some)

pub late_refused : {T U : Type 0} (fault : Fault) (number : ℕ) (expected : T) (line : U) → TellsLate number (Err fault) expected → TellsLate number (Err fault) line
late_refused fault number expected line told = λ late. cc (told late)

-- the next line was read
pub line_added : (front : List ScriptLine) (item : ScriptLine) (number : ℕ) (lines : List (Bor (List ℕ))) (i : ℕ) (d : Bor (List ℕ)) (whole : List ScriptLine) → i < length lines
    → IsOrWantsMemory (Ok (Some item)) (Ok (script_line_of (number + 1, (get_or lines i d).now))) → front ++ lines_from number (map (λ l. l.now) (drop i lines)) ≡ whole
    → (front ++ item ∷ []) ++ lines_from (number + 1) (map (λ l. l.now) (drop (i + 1) lines)) ≡ whole
line_added front item number lines i d whole within read so_far =
    let at = lines_at number lines i d within in
    let here = value_read (Some item) (script_line_of (number + 1, (get_or lines i d).now)) read in
    append_assoc front (item ∷ []) (lines_from (number + 1) (map (λ l. l.now) (drop (i + 1) lines))) ∙ rw (at, here) at so_far

pub line_skipped : (front : List ScriptLine) (number : ℕ) (lines : List (Bor (List ℕ))) (i : ℕ) (d : Bor (List ℕ)) (whole : List ScriptLine) → i < length lines
    → IsOrWantsMemory (Ok None) (Ok (script_line_of (number + 1, (get_or lines i d).now))) → front ++ lines_from number (map (λ l. l.now) (drop i lines)) ≡ whole
    → front ++ lines_from (number + 1) (map (λ l. l.now) (drop (i + 1) lines)) ≡ whole
line_skipped front number lines i d whole within read so_far =
    let at = lines_at number lines i d within in
    let here = value_read None (script_line_of (number + 1, (get_or lines i d).now)) read in
    rw (at, here) at so_far

-- no line is left
pub all_lines : (front : List ScriptLine) (number : ℕ) (lines : List (Bor (List ℕ))) (i : ℕ) (whole : List ScriptLine) → length lines ≤ i
    → front ++ lines_from number (map (λ l. l.now) (drop i lines)) ≡ whole → front ≡ whole
all_lines front number lines i whole past so_far =
    let none = drop_all i lines past in
    sym (append-nil front) ∙ rw none at so_far
