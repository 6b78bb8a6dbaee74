-- What `explain` does: the text of a topic goes out, or the words name none.
use Rattle.std.specs.Prelude.{◌≡◌, ◌≤◌, ◌⊎◌, ℕ, List, length, IfErr, Option, Result, Err, ⊤}
use Rattle.wu_core.specs.declared.fault.Fault.TheVariants as fault
use Rattle.wu_report.specs.Writing.{WritesTo}
use Rattle.wu_arguments.specs.declared.usage.Usage.{Usage}
use Rattle.wu_arguments.specs.declared.usage.Usage.TheVariants.{UnknownTopic}
use Rattle.wu_cli.specs.declared.trouble.Trouble.{Trouble}
use Rattle.wu_cli.specs.declared.trouble.Trouble.TheVariants as trouble

-- The text of the topic, which is not empty, goes out; if the output fails, a prefix of it does.
abbrev pub TellsTopic : {W : Type 0} → (W → Option (List ℕ)) → W → W → Result (Unit {0}) Trouble → Type 0
TellsTopic contents old new done =
    (text : List ℕ) × (1 ≤ length text) × WritesTo contents old new text done × IfErr done (λ told. told ≡ trouble.Fault fault.Output)

-- The words are refused as no topic, with or without one that is near.
abbrev pub IsUnknownTopic : Usage → Type 0
IsUnknownTopic (UnknownTopic near) = ⊤
IsUnknownTopic _ = ⊥

-- The words name no topic, and nothing goes out.
pub record IsNoTopic {W : Type 0} (old new : W) (done : Result (Unit {0}) Trouble) : Type 0 where
  pub usage : Usage
  pub unknown : IsUnknownTopic usage
  pub told : done ≡ Err (trouble.Usage usage)
  pub unwritten : new ≡ old

-- The text of the topic goes out; or the words name no topic, and nothing goes out.
abbrev pub ExplainsTopic : {W : Type 0} → (W → Option (List ℕ)) → W → W → Result (Unit {0}) Trouble → Type 0
ExplainsTopic contents old new done =
    TellsTopic contents old new done ⊎ IsNoTopic old new done
