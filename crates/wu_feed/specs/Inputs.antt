-- Inputs and outputs, as hex writes them.
use Rattle.std.specs.Prelude.{◌≡◌, ℕ, nat_le, if◌then◌else◌, List, length, Option, Some, None, Result, Ok, Err}
use Rattle.std.specs.declared.vec.Vec.{Vec}
use Rattle.hex.specs.Hex.{decode_of}
use Rattle.hex.specs.declared.error.FromHexError.{FromHexError}
use Rattle.hex.specs.declared.error.FromHexError.TheVariants.{OutOfMemory}
use Rattle.wu_core.specs.declared.fault.Fault.{Fault}
use Rattle.wu_core.specs.declared.fault.Fault.TheVariants.{Memory}
use Rattle.wu_core.specs.Limits.{longest_input, longest_output}

-- The decoded bytes; `None` if they are too long or could not be decoded.
abbrev pub short_enough : ℕ → Result (List ℕ) FromHexError → Option (List ℕ)
short_enough longest (Ok bytes) = if nat_le (length bytes) longest then Some bytes else None
short_enough longest (Err e) = None

-- Decoded bytes are kept if they are not too long. Out of memory is a fault; a text that is no hex gives `None`.
abbrev pub KeepsDecoded : {A : Type 0} → ℕ → Result (Vec ℕ A) FromHexError → Result (Option (List ℕ)) Fault → Type 0
KeepsDecoded longest (Ok bytes) result = result ≡ Ok (short_enough longest (Ok bytes.items))
KeepsDecoded longest (Err OutOfMemory) result = result ≡ Err Memory
KeepsDecoded longest (Err why) result = result ≡ Ok None

-- The input that hex digits write, or `None`.
abbrev pub input_of : List ℕ → Option (List ℕ)
input_of text = short_enough longest_input (decode_of text)

-- The output that hex digits write, or `None`.
abbrev pub output_of : List ℕ → Option (List ℕ)
output_of text = short_enough longest_output (decode_of text)
