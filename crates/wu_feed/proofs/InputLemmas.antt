-- Inputs and outputs are not too long.
use Rattle.std.proofs.Common.{◌≡◌, ◌⊎◌, ◌≤◌, ℕ, Bool, true, false, inl, inr, List, length, nat_le, Option, Result, Ok, Err, Some, None, IfOk, IfErr, if◌then◌else◌, arith, refl, ap, subst, sym, ◌∙◌}
use Rattle.std.proofs.lemmas.Bool.Decides.{nat_tests}
use Rattle.std.specs.declared.vec.Vec.{Vec}
use Rattle.hex.specs.Hex.{decode_of}
use Rattle.hex.specs.declared.error.FromHexError.{FromHexError}
use Rattle.hex.specs.declared.error.FromHexError.TheVariants.{OutOfMemory}
use Rattle.wu_core.specs.Reads.{IsOrWantsMemory}
use Rattle.wu_core.specs.declared.fault.Fault.{Fault}
use Rattle.wu_feed.specs.Inputs.{KeepsDecoded, short_enough}

pub short_enough-short : (longest : ℕ) (decoded : Result (List ℕ) FromHexError) (found : List ℕ) → short_enough longest decoded ≡ Some found → length found ≤ longest
short_enough-short longest (Ok bytes) found e = fits (nat_le (length bytes) longest) refl e
  where
    fits : (b : Bool) → nat_le (length bytes) longest ≡ b → (if b then Some bytes else None) ≡ Some found → length found ≤ longest
    fits true is e = let same : bytes ≡ found = cc e in rw (← same) (grind (arith, nat_tests))
    fits false is e = cc e
short_enough-short longest (Err why) found e = cc e

-- no hex, or want of memory
decoded_none : (A : Type 0) (longest : ℕ) (text : List ℕ) (why : FromHexError) (result : Result (Option (List ℕ)) Fault) → KeepsDecoded {A = A} longest (Err why) result → decode_of text ≡ Err why
    → IsOrWantsMemory result (Ok (short_enough longest (decode_of text)))
decoded_none A longest text OutOfMemory result kept is = inr kept
decoded_none A longest text _ result kept is = inl (kept ∙ ap (λ (d : Result (List ℕ) FromHexError). Ok (short_enough longest d)) (sym is))

-- what a text writes is given, want of memory aside
pub decoded_gives : {A : Type 0} (longest : ℕ) (text : List ℕ) (decoded : Result (Vec ℕ A) FromHexError) (result : Result (Option (List ℕ)) Fault) → KeepsDecoded longest decoded result
    → IfOk decoded (λ bytes. decode_of text ≡ Ok bytes.items) → IfErr decoded (λ why. (why ≡ OutOfMemory) ⊎ (decode_of text ≡ Err why)) → IsOrWantsMemory result (Ok (short_enough longest (decode_of text)))
decoded_gives longest text (Ok bytes) result kept found failed = inl (kept ∙ ap (λ (d : Result (List ℕ) FromHexError). Ok (short_enough longest d)) (sym found))
decoded_gives {A} longest text (Err why) result kept found (inl wanted) = inr (subst (λ (w : FromHexError). KeepsDecoded {A = A} longest (Err w) result) wanted kept)
decoded_gives {A} longest text (Err why) result kept found (inr is) = decoded_none A longest text why result kept is
