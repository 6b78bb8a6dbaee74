-- What the typed getter of clap reads of a number.
use Rattle.std.proofs.Common.{◌≡◌, ◌∙◌, ℕ, List, ap, refl, subst}
use Rattle.std.specs.Prelude.{Option, Some, None}
use Rattle.std.specs.Str.Parse.{digits_value, without_leading_plus}
use Rattle.clap.specs.Words.{one_of, one_text, rows_of}
use Rattle.clap.specs.declared.parser.matches.Found.{Found}
use Rattle.clap.proofs.WalkLemmas.{one_text-rows}
use Rattle.wu_arguments.specs.CommandLine.{option_name}
use Rattle.wu_arguments.specs.Lines.{IsNumberIn}
use Rattle.wu_arguments.specs.Refusals.{IsNumberText, LacksNumberText}
use Rattle.wu_arguments.specs.declared.option.LineOption.{LineOption}

abbrev IsWritten : ℕ → Option (List ℕ) → Type 0
IsWritten n text = (t : List ℕ) × (text ≡ Some t) × (n ≡ digits_value 10 (without_leading_plus t))

written : (n : ℕ) (text : Option (List ℕ)) → (text ≡ None → ⊥) → ((t : List ℕ) → text ≡ Some t → n ≡ digits_value 10 (without_leading_plus t)) → IsWritten n text
written n None none some = absurd (none refl)
written n (Some t) none some = (t, refl, some t refl)

pub number_read : (found : Found) (id : List ℕ) (option : LineOption) (n : ℕ) → id ≡ option_name option → (one_text found id ≡ None → ⊥)
    → ((t : List ℕ) → one_text found id ≡ Some t → n ≡ digits_value 10 (without_leading_plus t)) → IsNumberIn (rows_of found) option n
number_read found id option n is none some =
    subst (IsWritten n) (one_text-rows found id ∙ ap (λ (i : List ℕ). one_of i (rows_of found)) is) (written n (one_text found id) none some)

-- where the getter reads none, no text of the option writes a number
pub number_lacks : (found : Found) (id : List ℕ) (option : LineOption) → id ≡ option_name option
    → ((t : List ℕ) → one_text found id ≡ Some t → IsNumberText t → ⊥) → LacksNumberText (rows_of found) option
number_lacks found id option is none t some =
    none t (one_text-rows found id ∙ (ap (λ (i : List ℕ). one_of i (rows_of found)) is ∙ some))
