-- The verdicts that digits mean.
use Rattle.std.specs.Prelude.{ℕ, ◌-◌, List, map}

abbrev pub verdicts_of : List ℕ → List ℕ
verdicts_of digits = map (λ digit. digit - 48) digits
