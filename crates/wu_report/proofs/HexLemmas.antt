-- The hex text of bytes is that of each byte, one after another.
use Rattle.std.proofs.Common.{◌≡◌, ℕ, List, [], ◌∷◌, ◌++◌, flat_map, refl, ap}
use Rattle.hex.specs.Hex.{encode_lower, encode_with}

abbrev pub byte_digits : ℕ → List ℕ
byte_digits byte = encode_lower (byte ∷ [])

pub encode_lower-each : (bytes : List ℕ) → encode_lower bytes ≡ flat_map byte_digits bytes
unfolding encode_with
encode_lower-each [] = refl
encode_lower-each (byte ∷ rest) = ap (λ l. byte_digits byte ++ l) (encode_lower-each rest)
