-- The lines of a session's input, as they are heard.
use Rattle.std.specs.Prelude.{◌≡◌, ◌⊎◌, ◌==◌, ◌+◌, ◌-◌, ◌≤◌, ◌<◌, ◌≢◌, ℕ, Bool, true, List, [], ◌∷◌, ◌++◌, All, length, map, take, nat_lt, if◌then◌else◌, Option, Some, None, Result, Ok, Err, Vec, IfSome, OnSome}
use Rattle.std.specs.Io.{IsEmptyOrEndsWith, StopsAt}
use Rattle.std.specs.Io.BufRead.{DropsThrough, take_through}
use Rattle.std.specs.Io.KnownBytes.{Consumes, IsAtEnd}
use Rattle.wu_core.specs.declared.fault.Fault.TheVariants.{BadFile, Memory}
use Rattle.wu_core.specs.declared.fault.FileCause.TheVariants.{Unreadable}
use Rattle.wu_arguments.specs.declared.refusal.Refusal.{Refusal}
use Rattle.wu_arguments.specs.declared.refusal.Refusal.TheVariants as refusal
use Rattle.wu_arguments.specs.declared.usage.Usage.TheVariants as usage
use Rattle.wu_cli.specs.declared.hearing.TheConstants.{LONGEST_LINE}

-- ---- what an input has to say

-- One more byte stands at the front of the first line.
abbrev pub begin_line : ℕ → List (List ℕ) → List (List ℕ)
begin_line byte [] = (byte ∷ []) ∷ []
begin_line byte (line ∷ lines) = (byte ∷ line) ∷ lines

-- The lines of an input, without their ends (10). The last one may lack its end.
abbrev pub lines_of : List ℕ → List (List ℕ)
lines_of [] = []
lines_of (byte ∷ bytes) = if byte == 10 then [] ∷ lines_of bytes else begin_line byte (lines_of bytes)

-- What is heard of a line: its text, or that it is too long.
abbrev pub heard_line : List ℕ → Result (List ℕ) Refusal
heard_line line = if nat_lt LONGEST_LINE (length line) then Err (refusal.Words usage.LongLine) else Ok line

-- What is heard of an input, line by line.
abbrev pub heard_lines : List ℕ → List (Result (List ℕ) Refusal)
heard_lines bytes = map heard_line (lines_of bytes)

-- ---- what was heard of it

-- What was heard of a line: its text, or why it has none.
abbrev pub heard_text : {A : Type 0} → Result (Vec ℕ A) Refusal → Result (List ℕ) Refusal
heard_text (Ok text) = Ok text.items
heard_text (Err why) = Err why

-- Of an input whose bytes are known, these lines were heard, and the rest is left.
abbrev pub Hears : Option (List ℕ) → Option (List ℕ) → List (Result (List ℕ) Refusal) → Type 0
Hears old new heard = IfSome old (λ bytes. (rest : List ℕ) × (new ≡ Some rest) × (heard_lines bytes ≡ heard ++ heard_lines rest))

-- An input could not be read further.
abbrev pub IsUnread : Refusal → Type 0
IsUnread why = (why ≡ refusal.Fault Memory) ⊎ (why ≡ refusal.Fault (BadFile 0 Unreadable))

-- The next line was heard; or the input is at its end; or it could not be read.
abbrev pub HearsNext : {A : Type 0} → Option (List ℕ) → Option (List ℕ) → Result (Option (Result (Vec ℕ A) Refusal)) Refusal → Type 0
HearsNext old new (Ok (Some heard)) = Hears old new (heard_text heard ∷ [])
HearsNext old new (Ok None) = IsAtEnd old × Hears old new []
HearsNext old new (Err why) = IsUnread why

-- ---- how a line is read

-- What is kept of a line when a part of it comes after what is kept already.
abbrev pub kept_line : List ℕ → List ℕ → List ℕ
kept_line text part = text ++ take (LONGEST_LINE + 1 - length text) part

-- So many of the bytes that are ready belong to a line, and it ends there or not. It ends, too, where none are ready.
pub record IsPartOfLine (ready : List ℕ) (count : ℕ) (ended : Bool) : Type 0 where
  pub within : count ≤ length ready
  pub some : 0 < length ready → 0 < count
  pub stops : StopsAt (take count ready) 10
  pub more : ended ≢ true → All (λ byte. byte ≢ 10) (take count ready)
  pub whole : ended ≡ true → IsEmptyOrEndsWith (take count ready) 10

-- A part of a line was taken and kept, and the line ended there or not.
pub record TakesPart (old new : Option (List ℕ)) (text_old text_new : List ℕ) (ended : Bool) : Type 0 where
  pub part : List ℕ
  pub kept : text_new ≡ kept_line text_old part
  pub taken : Consumes old new part
  pub stops : StopsAt part 10
  pub more : ended ≢ true → All (λ byte. byte ≢ 10) part
  pub whole : ended ≡ true → IsEmptyOrEndsWith part 10
  pub end : ended ≡ true → length part ≡ 0 → OnSome old (IsAtEnd new)

-- This is kept of the first line of an input: its bytes with its end, and of a longer line the first of them.
abbrev pub IsKeptOf : List ℕ → List ℕ → Type 0
IsKeptOf bytes text = text ≡ take (LONGEST_LINE + 1) (take_through 10 bytes)

-- A line was taken, this of it was kept, and what follows it is left.
abbrev pub KeepsLine : Option (List ℕ) → Option (List ℕ) → List ℕ → Type 0
KeepsLine old new text = IfSome old (λ bytes. IsKeptOf bytes text) × DropsThrough old new 10
