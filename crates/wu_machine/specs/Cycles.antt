-- The commands that do all that a project's workunits wait for at one moment.
use Rattle.std.specs.Prelude.{ℕ, List, [], ◌∷◌}
use Rattle.wu_machine.specs.declared.command.Command.{Command}
use Rattle.wu_machine.specs.declared.command.Command.TheVariants.{Transition, Validate, Assimilate, Delete, Purge}

-- The commands of a cycle at a moment. A transition follows each validation and each assimilation.
abbrev pub cycle : ℕ → ℕ → ℕ → List Command
cycle now limit min_age =
    Transition now limit ∷ Validate limit ∷ Transition now limit ∷ Assimilate now limit ∷ Transition now limit
    ∷ Delete limit ∷ Purge now limit min_age ∷ []
