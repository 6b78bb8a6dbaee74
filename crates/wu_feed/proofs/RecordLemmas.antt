-- The records that a reader has taken are the first of all the records of its text.
use Rattle.std.proofs.Common.{◌≡◌, ◌≤◌, ◌<◌, ◌+◌, ℕ, Bool, true, false, List, [], ◌∷◌, ◌++◌, length, take, zero, suc, Option, Some, None, if◌then◌else◌, ◌==◌, add-one, arith, refl, ap, ◌∙◌}
use Rattle.std.proofs.lemmas.List.{append-nil, take-append-le, take_all}
use Rattle.csv.specs.Machine.{Read, after_end, ends_at_end, ends_with, fields_after, field_after, in_field, is_end, next_record, start_field, step}
use Rattle.csv.specs.Reading.{ExplainsRead, Reached, stops_reader, default_config, records, records_from, records_next}
use Rattle.csv.specs.declared.error.ErrorKind.{ErrorKind}
use Rattle.csv.specs.declared.error.ErrorKind.TheVariants as kind
use Rattle.csv.specs.declared.reader.Reader.{Reader}
use Rattle.csv.specs.declared.parser.Action.{Action}
use Rattle.csv.specs.declared.parser.State.{State}
use Rattle.csv.specs.declared.parser.State.TheVariants as st
use Rattle.csv.specs.declared.parser.Terminator.TheVariants as term

-- no record has begun
abbrev pub is_between_records : State → Bool
is_between_records st.StartRecord = true
is_between_records st.AfterCr = true
is_between_records st.StartField = false
is_between_records st.InField = false
is_between_records st.InQuoted = false
is_between_records st.AfterQuote = false
is_between_records st.InEscape = false
is_between_records st.InComment = false

-- where a step ends a record, none has begun after it
abbrev EndsBetween : State × Action → Type 0
EndsBetween next = is_end next.1 ≡ true → is_between_records next.0 ≡ true

either : (b : Bool) (x y : State × Action) → EndsBetween x → EndsBetween y → EndsBetween (if b then x else y)
either true x y f g = f
either false x y f g = g

after_end-between : (c : ℕ) → is_between_records (after_end term.CRLF c) ≡ true
after_end-between c = by (c == 13)
  where
    by : (b : Bool) → is_between_records (if b then st.AfterCr else st.StartRecord) ≡ true
    by true = refl
    by false = refl

in_field-between : (c : ℕ) → EndsBetween (in_field default_config c)
in_field-between c =
    either (c == 44) _ _ (λ e. cc e) (either (ends_with term.CRLF c) _ _ (λ e. after_end-between c) (λ e. cc e))

start_field-between : (c : ℕ) → EndsBetween (start_field default_config c)
start_field-between c = either (c == 34) _ _ (λ e. cc e) (in_field-between c)

step-between : (s : State) (c : ℕ) → EndsBetween (step default_config s c)
step-between st.StartRecord c = either (ends_with term.CRLF c) _ _ (λ e. cc e) (start_field-between c)
step-between st.StartField c = start_field-between c
step-between st.InField c = in_field-between c
step-between st.InQuoted c = either (c == 34) _ _ (λ e. cc e) (λ e. cc e)
step-between st.AfterQuote c = either (c == 34) _ _ (λ e. cc e) (in_field-between c)
step-between st.InEscape c = λ e. cc e
step-between st.InComment c = either (c == 10) _ _ (λ e. cc e) (λ e. cc e)
step-between st.AfterCr c = either (c == 10) _ _ (λ e. cc e) (either (ends_with term.CRLF c) _ _ (λ e. cc e) (start_field-between c))

-- what is left after a record is shorter than this, and no record has begun in it
abbrev Leaves : ℕ → Read → Type 0
Leaves n p = (length p.2 ≤ n) × (is_between_records p.1 ≡ true)

some_of : (b : Bool) (x y : Read) → (if b then Some x else None) ≡ Some y → x ≡ y
some_of true x y e = cc e
some_of false x y e = cc e

ended : (s : State) (fields : List (List ℕ)) (field : List ℕ) (p : Read) → next_record default_config s fields field [] ≡ Some p → Leaves 0 p
unfolding next_record
ended s fields field p e =
    let same = some_of (ends_at_end s) _ p e in
    rw (← same) (omega arith, refl)

takes : (s : State) (fields : List (List ℕ)) (field : List ℕ) (c : ℕ) (rest : List ℕ) (p : Read)
    → next_record default_config s fields field (c ∷ rest) ≡ Some p → Leaves (length rest) p
unfolding next_record
takes s fields field c [] p e = by (is_end (step default_config s c).1) refl e
  where
    by : (b : Bool) → is_end (step default_config s c).1 ≡ b → next_record default_config s fields field (c ∷ []) ≡ Some p → Leaves 0 p
    by true ends e =
        let same : (fields_after (step default_config s c).1 fields field, (step default_config s c).0, []) ≡ p = cc (rw ends at e) in
        rw (← same) (omega arith, step-between s c ends)
    by false goes e = ended (step default_config s c).0 _ _ p (rw goes at e)
takes s fields field c (d ∷ more) p e =
    by (is_end (step default_config s c).1) refl e (takes (step default_config s c).0 (fields_after (step default_config s c).1 fields field) (field_after (step default_config s c).1 c field) d more p)
  where
    by : (b : Bool) → is_end (step default_config s c).1 ≡ b → next_record default_config s fields field (c ∷ d ∷ more) ≡ Some p
        → (next_record default_config (step default_config s c).0 (fields_after (step default_config s c).1 fields field) (field_after (step default_config s c).1 c field) (d ∷ more) ≡ Some p → Leaves (length more) p)
        → Leaves (suc (length more)) p
    by true ends e after =
        let same : (fields_after (step default_config s c).1 fields field, (step default_config s c).0, d ∷ more) ≡ p = cc (rw ends at e) in
        rw (← same) (omega arith, step-between s c ends)
    by false goes e after =
        let (short, between) = after (rw goes at e) in
        (omega arith, between)

-- a record takes at least a byte
shrinks : (s : State) (xs : List ℕ) (p : Read) → is_between_records s ≡ true → next_record default_config s [] [] xs ≡ Some p
    → (length p.2 < length xs) × (is_between_records p.1 ≡ true)
unfolding next_record
shrinks s (c ∷ rest) p between e =
    let (short, after) = takes s [] [] c rest p e in
    (omega arith, after)
shrinks st.StartRecord [] p between e = cc e
shrinks st.AfterCr [] p between e = cc e
shrinks st.StartField [] p between e = cc between
shrinks st.InField [] p between e = cc between
shrinks st.InQuoted [] p between e = cc between
shrinks st.AfterQuote [] p between e = cc between
shrinks st.InEscape [] p between e = cc between
shrinks st.InComment [] p between e = cc between

-- more turns than bytes give every record
enough : (n m : ℕ) (s : State) (xs : List ℕ) → is_between_records s ≡ true → length xs < n → length xs < m
    → records_from default_config n s xs ≡ records_from default_config m s xs
unfolding records_from
enough zero m s xs between a b = absurd (omega arith)
enough (suc n) zero s xs between a b = absurd (omega arith)
enough (suc n) (suc m) s xs between a b = by (next_record default_config s [] [] xs) refl (enough n m)
  where
    by : (o : Option Read) → next_record default_config s [] [] xs ≡ o
        → ((t : State) (ys : List ℕ) → is_between_records t ≡ true → length ys < n → length ys < m → records_from default_config n t ys ≡ records_from default_config m t ys)
        → records_next (records_from default_config n) o ≡ records_next (records_from default_config m) o
    by None e later = refl
    by (Some p) e later =
        let (short, after) = shrinks s xs p between e in
        ap (λ more. p.0 ∷ more) (later p.1 p.2 after (omega arith) (omega arith))

reached_records : (rows : List (List (List ℕ))) (n : ℕ) (s s2 : State) (xs ys : List ℕ) → is_between_records s ≡ true → length xs < n
    → Reached default_config s xs rows s2 ys
    → records_from default_config n s xs ≡ rows ++ records_from default_config (length ys + 1) s2 ys
unfolding Reached records_from
reached_records [] n s s2 xs ys between a h =
    let (state, left) = h in
    rw (← state, ← left) (enough n (length xs + 1) s xs between a (omega arith))
reached_records (r ∷ rows) zero s s2 xs ys between a h = absurd (omega arith)
reached_records (r ∷ rows) (suc n) s s2 xs ys between a h =
    let (p, next, same, more) = h in
    let (short, after) = shrinks s xs p between next in
    rw (next, same) (ap (λ more. p.0 ∷ more) (reached_records rows n p.1 s2 p.2 ys after (omega arith) more))

-- where no record follows, those are all
pub all_read : (xs ys : List ℕ) (rows : List (List (List ℕ))) (s : State) → Reached default_config st.StartRecord xs rows s ys
    → next_record default_config s [] [] ys ≡ None → records default_config xs ≡ rows
unfolding records_from
all_read xs ys rows s h none =
    let all = reached_records rows (length xs + 1) st.StartRecord s xs ys refl (omega arith) h in
    let rest : records_from default_config (length ys + 1) s ys ≡ [] = rw (add-one, none) refl in
    all ∙ rw (rest, append-nil rows) refl

-- those are the first of all
pub some_read : (xs ys : List ℕ) (rows : List (List (List ℕ))) (s : State) (n : ℕ) → Reached default_config st.StartRecord xs rows s ys
    → length rows ≡ n → rows ≡ take n (records default_config xs)
some_read xs ys rows s n h long =
    let all = reached_records rows (length xs + 1) st.StartRecord s xs ys refl (omega arith) h in
    let rest = records_from default_config (length ys + 1) s ys in
    rw (all, take-append-le n rows rest (omega arith), take_all n rows (omega arith)) refl

-- a flexible reader of bytes is stopped by whatever error it tells
pub stopped : {R : Type 0} (rem : R → Option (List ℕ)) (old new : Reader R) (why : ErrorKind) → old.flexible ≡ true → ExplainsRead rem old new false why → stops_reader why ≡ true
stopped rem old new (kind.Io e) flexible told = refl
stopped rem old new kind.OutOfMemory flexible told = refl
stopped rem old new (kind.UnequalLengths pos expected len) flexible told = cc (flexible, told.0)
stopped rem old new (kind.Utf8 pos err) flexible told = cc told.0
stopped rem old new (kind.Serialize why) flexible told = absurd told
stopped rem old new (kind.Deserialize pos err) flexible told = absurd told
