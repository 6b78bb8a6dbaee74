-- What the function of a subcommand gives is what was asked.
use Rattle.std.proofs.Common.{◌≡◌, ◌∙◌, ℕ, Bool, true, false, if◌then◌else◌, List, [], ◌∷◌, Option, Some, Result, Ok, Err, IfOk, IfErr, ap, bytes_eq, find, inl, inr, refl, subst, sym}
use Rattle.std.proofs.lemmas.Slice.Eq.{bytes_eq-Decides}
use Rattle.clap.specs.Words.{Row, subcommand_of}
use Rattle.wu_arguments.specs.CommandLine.{all_subcommands, program, subcommand_name, subcommand_named}
use Rattle.wu_arguments.specs.Lines.{IsOrder}
use Rattle.wu_arguments.specs.Refusals.{Explains, IsIncomplete, IsOrderOf, RefusesValues, LacksOfNamed, OfTaken}
use Rattle.wu_arguments.specs.declared.order.Order.{Order}
use Rattle.wu_arguments.specs.declared.order.Order.TheVariants as order
use Rattle.wu_arguments.specs.declared.subcommand.Subcommand.{Subcommand}
use Rattle.wu_arguments.specs.declared.usage.Usage.{Usage}

-- ---- the subcommand of a name

chosen : (b : Bool) (name : List ℕ) (one asked : Subcommand) (rest : Option Subcommand) → bytes_eq name (subcommand_name one) ≡ b
    → (if b then Some one else rest) ≡ Some asked → (rest ≡ Some asked → name ≡ subcommand_name asked) → name ≡ subcommand_name asked
chosen true name one asked rest same is more =
    let its : one ≡ asked = cc is in
    (bytes_eq-Decides name (subcommand_name one)).0 same ∙ ap subcommand_name its
chosen false name one asked rest same is more = more is

pub its_name : (name : List ℕ) (asked : Subcommand) (all : List Subcommand) → find (λ one. bytes_eq name (subcommand_name one)) all ≡ Some asked
    → name ≡ subcommand_name asked
its_name name asked [] is = absurd (cc is)
its_name name asked (one ∷ all) is = chosen (bytes_eq name (subcommand_name one)) name one asked _ refl is (its_name name asked all)

module _ (name : List ℕ) (rows : List Row) (asked : Subcommand) (among : Option (List ℕ × List Row)) (is : among ≡ Some (name, rows))
    (named : subcommand_named name ≡ Some asked) where
  entered : (words : List (List ℕ)) (other : Subcommand) → among ≡ subcommand_of program words → asked ≡ other
      → subcommand_of program words ≡ Some (subcommand_name other, rows)
  entered words other its same =
      sym its ∙ is ∙ ap {B = Option (List ℕ × List Row)} (λ n. Some (n, rows)) (its_name name asked all_subcommands named ∙ ap subcommand_name same)

  -- what words ask for in which clap finds it
  pub found : (result : Result Order Usage) → IfOk result (IsOrder rows asked) → IfErr result (RefusesValues rows asked) → record {
    order : IfOk result (λ order. OfTaken (λ words. IsOrderOf words order) among);
    refused : IfErr result (λ usage. OfTaken (λ words. Explains words usage) among);
  }
  found (Ok order) ordered refused = record {
    order = λ words taken its. (taken, (asked, rows, entered words asked its refl, ordered));
    refused = tt;
  }
  found (Err usage) ordered (inl (inl (why, lacks))) = record {
    order = tt;
    refused = λ words taken its.
        subst (Explains words) (sym why)
        (taken, subst IsIncomplete (sym is ∙ its) (subst (LacksOfNamed rows) (sym named) lacks));
  }
  found (Err usage) ordered (inl (inr why)) = record { order = tt; refused = λ words taken its. subst (Explains words) (sym why) tt }
  found (Err usage) ordered (inr (why, shows, view)) = record {
    order = tt;
    refused = λ words taken its. subst (Explains words) (sym why) (rows, entered words _ its shows, view);
  }
