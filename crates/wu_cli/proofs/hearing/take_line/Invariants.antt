-- What was taken so far has no line end, and is kept as far as it goes.
use Rattle.std.proofs.Common.{◌≡◌, ◌≢◌, ◌+◌, ℕ, List, All, take, vec_items}
use Rattle.std.specs.Io.KnownBytes.{Consumes}
use Rattle.wu_cli.specs.declared.hearing.TheConstants.{LONGEST_LINE}
use Rattle.wu_cli.proofs.hearing.take_line.Given as goal

abbrev pub invariant-loop : goal.invariant-loop
invariant-loop g l = (seen : List ℕ) × (vec_items l.text ≡ take (LONGEST_LINE + 1) seen) × All (λ byte. byte ≢ 10) seen
    × Consumes (g.R.Read.remaining l.initial.input) (g.R.Read.remaining l.input) seen
