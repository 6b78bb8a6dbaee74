-- What a call leaves in a writer whose contents are known.
use Rattle.std.specs.Prelude.{ℕ, ◌<◌, List, length, take, Option, Result, IfErr, IsOkUnless, MatchResult}
use Rattle.std.specs.Fmt.{decimal}
use Rattle.std.specs.Io.KnownBytes.{Appends}
use Rattle.hex.specs.Hex.{encode_lower}
use Rattle.wu_core.specs.declared.fault.Fault.{Fault}
use Rattle.wu_core.specs.declared.fault.Fault.TheVariants.{Output}
use Rattle.wu_report.specs.declared.output.Piece.{Piece}
use Rattle.wu_report.specs.declared.output.Piece.TheVariants.{Text, Number, Place, When, Due, Hex}
use Rattle.wu_report.specs.Texts.{or_dash, moment_text}

-- A prefix of the bytes was appended.
abbrev pub AppendsFront : Option (List ℕ) → Option (List ℕ) → List ℕ → Type 0
AppendsFront old new bytes = (count : ℕ) × Appends old new (take count bytes)

-- With success exactly these bytes were appended, and otherwise a prefix of them.
abbrev pub WritesBytes : {T E : Type 0} → Option (List ℕ) → Option (List ℕ) → List ℕ → Result T E → Type 0
WritesBytes old new bytes result = MatchResult result (λ _. Appends old new bytes) (λ _. AppendsFront old new bytes)

-- With success exactly this text was appended to the contents of the writer, and otherwise a prefix of it.
abbrev pub WritesTo : {W T E : Type 0} → (W → Option (List ℕ)) → W → W → List ℕ → Result T E → Type 0
WritesTo contents old new text result = WritesBytes (contents old) (contents new) text result

-- A prefix of the bytes was appended that is not all of them.
unfoldable pub IsCut : Option (List ℕ) → Option (List ℕ) → List ℕ → Type 0
IsCut old new bytes = (count : ℕ) × (count < length bytes) × Appends old new (take count bytes)

-- A call that fails has cut the text: a text that went out whole is never reported as failed.
abbrev pub CutsWhatFails : {W T E : Type 0} → (W → Option (List ℕ)) → W → W → List ℕ → Result T E → Type 0
CutsWhatFails contents old new text result = IfErr result (λ _. IsCut (contents old) (contents new) text)

-- What a call prints that does not flush.
pub record Prints {W T : Type 0} (contents : W → Option (List ℕ)) (old new : W) (text : List ℕ) (result : Result T Fault) : Type 0 where
  -- With Ok exactly the text is written, and else a prefix of it.
  pub bytes : WritesTo contents old new text result
  -- What is reported as failed was cut: a text that went out whole never is.
  pub cut : CutsWhatFails contents old new text result
  -- The only fault is `Output`.
  pub fault : IsOkUnless result Output

-- What a call prints that flushes. The flush may fail after the whole text.
pub record PrintsAndFlushes {W T : Type 0} (contents : W → Option (List ℕ)) (old new : W) (text : List ℕ) (result : Result T Fault) : Type 0 where
  -- With Ok exactly the text is written, and else a prefix of it.
  pub bytes : WritesTo contents old new text result
  -- The only fault is `Output`.
  pub fault : IsOkUnless result Output

-- The text of a piece.
abbrev pub piece_text : Piece → List ℕ
piece_text (Text text) = text.now
piece_text (Number number) = decimal number
piece_text (Place place) = or_dash decimal place
piece_text (When moment) = or_dash moment_text moment
piece_text (Due deadline) = or_dash moment_text deadline
piece_text (Hex bytes) = encode_lower bytes.now
