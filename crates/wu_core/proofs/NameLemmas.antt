-- A name is ASCII, and so it is text.
use Rattle.std.proofs.Common.{◌≡◌, ℕ, ◌<◌, Bool, true, false, ◌&&◌, List, length, nat_le, IsUtf8, arith}
use Rattle.std.proofs.lemmas.Bool.Decides.{nat_tests}
use Rattle.std.proofs.lemmas.List.Sums.{AllPass-from_list_all}
use Rattle.std.proofs.lemmas.Str.{IsUtf8-from_ascii}
use Rattle.std.proofs.lemmas.Str.Ascii.{IsAscii-from_all}
use Rattle.std.specs.List.{list_all}
use Rattle.wu_core.specs.Names.{is_name, is_name_byte}

byte_is_ascii : (byte : ℕ) → is_name_byte byte ≡ true → byte < 128
byte_is_ascii byte h = grind (arith, nat_tests)

pub second : (a b : Bool) → (a && b) ≡ true → b ≡ true
second true b h = h
second false b h = cc

pub IsUtf8-from_is_name : (text : List ℕ) → is_name text ≡ true → IsUtf8 text
IsUtf8-from_is_name text h =
    let passes = AllPass-from_list_all is_name_byte text (second (nat_le 1 (length text) && nat_le (length text) 64) (list_all is_name_byte text) h) in
    IsUtf8-from_ascii text (IsAscii-from_all text (λ k d within. byte_is_ascii _ (passes k d within)))
