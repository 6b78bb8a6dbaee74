-- A line without quotes and comments: `csv` gives the parts between its blanks.
use Rattle.std.proofs.Common.{◌≡◌, ◌∙◌, ◌++◌, ◌-◌, ◌∷◌, ◌==◌, ◌<◌, ◌≤◌, ◌+◌, Bor, ℕ, zero, suc, Bool, true, false, List, [], Option, Some, None, Result, Ok, Err, ap, append_assoc, arith, cond, drop, get_or, if◌then◌else◌, length, map, refl, slice_index, sym}
use Rattle.std.specs.List.{list_all, onto_first, slice_split}
use Rattle.std.specs.Str.{chars, is_utf8}
use Rattle.std.proofs.lemmas.Bool.{and_parts}
use Rattle.std.proofs.lemmas.Bool.Decides.{nat_tests}
use Rattle.std.proofs.lemmas.List.{append-nil}
use Rattle.csv.specs.Machine.{Read, line_feed, next_record, step}
use Rattle.csv.specs.Reading.{strip_bom}
use Rattle.csv.specs.Records.{field_at}
use Rattle.csv.specs.declared.parser.Action.{Action}
use Rattle.csv.specs.declared.parser.Action.TheVariants as act
use Rattle.csv.specs.declared.parser.State.{State}
use Rattle.csv.specs.declared.parser.State.TheVariants as st
use Rattle.wu_feed.proofs.ScriptLemmas.{after_words, all_words, bad_field, empty_field, one_word}
use Rattle.wu_feed.specs.declared.script.LineCause.{LineCause}
use Rattle.wu_feed.specs.Scripts.{field_cause, fields_if, fields_in, first_read, is_blank, is_plain_byte, script_config, text_of_line, words_among}

abbrev are_plain : List ℕ → Bool
are_plain = list_all is_plain_byte

-- ---- a plain byte, in a field or before one

abbrev moved : ℕ → State × Action
moved c = if is_blank c then (st.StartField, act.EndField) else (st.InField, act.Copy)

record Others (c : ℕ) : Type 0 where
  feed : (c == 10) ≡ false
  quote : (c == 34) ≡ false
  comment : (35 == c) ≡ false

others : (c : ℕ) → is_plain_byte c ≡ true → Others c
others c plain = record { feed = grind (arith, nat_tests); quote = grind (arith, nat_tests); comment = grind (arith, nat_tests) }

at_start : (c : ℕ) → is_plain_byte c ≡ true → step script_config st.StartRecord c ≡ moved c
at_start c plain = let it = others c plain in rw (it.feed, it.comment, it.quote) refl

at_field : (c : ℕ) → is_plain_byte c ≡ true → step script_config st.StartField c ≡ moved c
at_field c plain = let it = others c plain in rw (it.quote, it.feed) refl

in_field : (c : ℕ) → is_plain_byte c ≡ true → step script_config st.InField c ≡ moved c
in_field c plain = let it = others c plain in rw it.feed refl

-- ---- the parts of a line, after the bytes of a field at hand

abbrev onto : List ℕ → List (List ℕ) → List (List ℕ)
onto field [] = field ∷ []
onto field (part ∷ parts) = (field ++ part) ∷ parts

onto_more : (field : List ℕ) (c : ℕ) (parts : List (List ℕ)) → onto field (onto_first c parts) ≡ onto (field ++ c ∷ []) parts
onto_more field c [] = refl
onto_more field c (part ∷ parts) = ap (λ f. f ∷ parts) (sym (append_assoc field (c ∷ []) part))

no_more : (c : ℕ) (parts : List (List ℕ)) → onto [] (onto_first c parts) ≡ onto_first c parts
no_more c [] = refl
no_more c (part ∷ parts) = refl

onto_none : (line : List ℕ) → onto [] (slice_split is_blank line) ≡ slice_split is_blank line
onto_none [] = refl
onto_none (c ∷ line) =
    elim (is_blank c) as (λ b. onto [] (cond b ([] ∷ slice_split is_blank line) (onto_first c (slice_split is_blank line))) ≡ cond b ([] ∷ slice_split is_blank line) (onto_first c (slice_split is_blank line))) [
      | true ↦ refl
      | false ↦ no_more c (slice_split is_blank line)
    ]

-- ---- the machine over a line

abbrev whole : List (List ℕ) → List ℕ → List ℕ → Option Read
whole fields field line = Some (fields ++ onto field (slice_split is_blank line), st.StartRecord, [])

abbrev ReadsLine : State → List ℕ → Type 0
ReadsLine s line = (fields : List (List ℕ)) (field : List ℕ) → next_record script_config s fields field (line ++ line_feed ∷ []) ≡ whole fields field line

one_more : (c : ℕ) (line : List ℕ) (s : State) → step script_config s c ≡ moved c → (b : Bool) → is_blank c ≡ b → ReadsLine st.StartField line → ReadsLine st.InField line → ReadsLine s (c ∷ line)
unfolding next_record
one_more c line s moves true is next more fields field =
    rw (moves, is) (next (fields ++ field ∷ []) []
    ∙ ap (λ (fs : List (List ℕ)). Some (fs, st.StartRecord, [])) (ap (λ ps. (fields ++ field ∷ []) ++ ps) (onto_none line) ∙ append_assoc fields (field ∷ []) (slice_split is_blank line) ∙ ap (λ f. fields ++ f ∷ slice_split is_blank line) (sym (append-nil field))))
one_more c line s moves false is next more fields field =
    rw (moves, is) (more fields (field ++ c ∷ []) ∙ ap (λ (ps : List (List ℕ)). Some (fields ++ ps, st.StartRecord, [])) (sym (onto_more field c (slice_split is_blank line))))

no_byte : (s : State) → step script_config s line_feed ≡ (st.StartRecord, act.EndRecord) → ReadsLine s []
unfolding next_record
no_byte s ends fields field = rw ends (ap (λ (f : List ℕ). Some (fields ++ f ∷ [], st.StartRecord, [])) (sym (append-nil field)))

both_read : (line : List ℕ) → are_plain line ≡ true → ReadsLine st.StartField line × ReadsLine st.InField line
both_read [] plain = (no_byte st.StartField refl, no_byte st.InField refl)
both_read (c ∷ line) plain =
    let parts = and_parts (is_plain_byte c) (are_plain line) plain in
    let rest = both_read line parts.1 in (
      one_more c line st.StartField (at_field c parts.0) (is_blank c) refl rest.0 rest.1,
      one_more c line st.InField (in_field c parts.0) (is_blank c) refl rest.0 rest.1,
    )

-- ---- the text of a line

first_low : (c : ℕ) → is_plain_byte c ≡ true → (c == 239) ≡ false
first_low c plain = grind (arith, nat_tests)

no_bom : (line : List ℕ) → are_plain line ≡ true → strip_bom (line ++ line_feed ∷ []) ≡ line ++ line_feed ∷ []
unfolding strip_bom
no_bom [] plain = refl
no_bom (a ∷ []) plain = refl
no_bom (a ∷ b ∷ []) plain = let low = first_low a (and_parts (is_plain_byte a) _ plain).0 in rw low refl
no_bom (a ∷ b ∷ c ∷ line) plain = let low = first_low a (and_parts (is_plain_byte a) _ plain).0 in rw low refl

no_thirteen : (c : ℕ) → is_plain_byte c ≡ true → (c == 13) ≡ false
no_thirteen c plain = grind (arith, nat_tests)

no_return_at : (line : List ℕ) → are_plain line ≡ true → (i : ℕ) → (slice_index line i == 13) ≡ false
no_return_at [] plain i = refl
no_return_at (c ∷ line) plain zero = no_thirteen c (and_parts (is_plain_byte c) (are_plain line) plain).0
no_return_at (c ∷ line) plain (suc i) = no_return_at line (and_parts (is_plain_byte c) (are_plain line) plain).1 i

text_is : (line : List ℕ) → are_plain line ≡ true → text_of_line line ≡ line ++ line_feed ∷ []
text_is line plain = let none = no_return_at line plain (length line - 1) in rw none refl

-- ---- its fields, and its words

fields_are : (c : ℕ) (line : List ℕ) → are_plain (c ∷ line) ≡ true → fields_in (c ∷ line) ≡ slice_split is_blank (c ∷ line)
fields_are c line plain =
    let parts = and_parts (is_plain_byte c) (are_plain line) plain in
    let rest = both_read line parts.1 in
    let first = one_more c line st.StartRecord (at_start c parts.0) (is_blank c) refl rest.0 rest.1 [] [] in
    ap (λ text. fields_if (first_read text)) (text_is (c ∷ line) plain)
    ∙ ap (λ text. fields_if (next_record script_config st.StartRecord [] [] text)) (no_bom (c ∷ line) plain)
    ∙ ap fields_if first ∙ onto_none (c ∷ line)

pub plain_words : (line : List ℕ) → list_all is_plain_byte line ≡ true → words_among (slice_split is_blank line) ≡ words_among (fields_in line)
unfolding next_record strip_bom is_utf8 chars
plain_words [] plain = refl
plain_words (c ∷ line) plain = ap words_among (sym (fields_are c line plain))

-- ---- fields in a slice, by their places

here_at : (fields : List (Bor (List ℕ))) (i : ℕ) (d : Bor (List ℕ)) → i < length fields → Some (get_or fields i d).now ≡ field_at (map (λ field. field.now) fields) i
unfolding field_at
here_at [] i d within = absurd (omega (arith, within))
here_at (field ∷ fields) zero d within = refl
here_at (field ∷ fields) (suc i) d within = here_at fields i d (omega (arith, within))

none_at : (fields : List (Bor (List ℕ))) (i : ℕ) → length fields ≤ i → None ≡ field_at (map (λ field. field.now) fields) i
unfolding field_at
none_at [] i past = refl
none_at (field ∷ fields) zero past = absurd (omega (arith, past))
none_at (field ∷ fields) (suc i) past = none_at fields i (omega (arith, past))

module _ (front : List (List ℕ)) (fields : List (Bor (List ℕ))) (i : ℕ) (d : Bor (List ℕ)) (whole : Result (List (List ℕ)) LineCause) (within : i < length fields)
    (so_far : after_words front (words_among (drop i (map (λ field. field.now) fields))) ≡ whole) where
  pub word_there : field_cause (get_or fields i d).now ≡ None → 0 < length (get_or fields i d).now
      → after_words (front ++ (get_or fields i d).now ∷ []) (words_among (drop (i + 1) (map (λ field. field.now) fields))) ≡ whole
  word_there word long = one_word front (map (λ field. field.now) fields) i (get_or fields i d).now whole (here_at fields i d within) word long so_far

  pub empty_there : field_cause (get_or fields i d).now ≡ None → length (get_or fields i d).now ≡ 0 → after_words front (words_among (drop (i + 1) (map (λ field. field.now) fields))) ≡ whole
  empty_there word short = empty_field front (map (λ field. field.now) fields) i (get_or fields i d).now whole (here_at fields i d within) word short so_far

  pub bad_there : (why : LineCause) → field_cause (get_or fields i d).now ≡ Some why → Err why ≡ whole
  bad_there why bad = bad_field front (map (λ field. field.now) fields) i (get_or fields i d).now why whole (here_at fields i d within) bad so_far

pub all_there : (front : List (List ℕ)) (fields : List (Bor (List ℕ))) (i : ℕ) (whole : Result (List (List ℕ)) LineCause) → length fields ≤ i
    → after_words front (words_among (drop i (map (λ field. field.now) fields))) ≡ whole → Ok front ≡ whole
all_there front fields i whole past so_far = all_words front (map (λ field. field.now) fields) i whole (none_at fields i past) so_far
