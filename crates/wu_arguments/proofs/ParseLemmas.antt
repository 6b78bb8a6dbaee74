-- What clap says of a parse by the program's command.
use Rattle.std.proofs.lemmas.Bool.{and_parts}
use Rattle.std.proofs.Common.{◌≡◌, inl, inr, List, ℕ, refl, subst, true}
use Rattle.clap.specs.Words.{App, HasKind, HasMatchesOf, IsAmong, fault_of, is_simple, is_simple_and_free, kind_of, subcommand_of, subcommand_rows_of}
use Rattle.clap.specs.declared.error.Error.{Error}
use Rattle.clap.specs.declared.parser.matches.ArgMatches.{ArgMatches}
use Rattle.wu_arguments.specs.CommandLine.{program}
use Rattle.wu_arguments.specs.Refusals.{IsRefusalBy, IsTold}
use Rattle.wu_arguments.specs.declared.usage.Usage.{Usage}
use Rattle.wu_arguments.specs.declared.usage.Usage.TheVariants.{Refused, UnknownView, UnknownTopic, UnknownKind, NotText, LongLine, Incomplete, Memory}

pub program_is_free : is_simple_and_free program ≡ true
program_is_free = refl

module _ (app : App) (words : List (List ℕ)) (free : is_simple_and_free app ≡ true) where
  explained : (error : Error) (usage : Usage) → IsTold error usage → HasKind (fault_of app words) error → IsRefusalBy app words usage
  explained error (Refused text) told (inl memory) = absurd (told memory)
  explained error (Refused text) told (inr among) = λ none. subst (IsAmong (kind_of error)) none among
  explained error UnknownView told kinds = told
  explained error (UnknownTopic near) told kinds = told
  explained error UnknownKind told kinds = told
  explained error NotText told kinds = told
  explained error LongLine told kinds = told
  explained error Incomplete told kinds = told
  explained error Memory told kinds = tt

  pub found_by : (found : ArgMatches) → HasMatchesOf app words found → subcommand_rows_of found ≡ subcommand_of app words
  found_by found matches = (matches (and_parts (is_simple app) _ free).0).1

  pub refused_by : (error : Error) (usage : Usage) → IsTold error usage → (is_simple_and_free app ≡ true → HasKind (fault_of app words) error) → IsRefusalBy app words usage
  refused_by error usage told kinds = explained error usage told (kinds free)
