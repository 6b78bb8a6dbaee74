-- What the questions that count rows answer.
use Rattle.std.specs.Prelude.{◌≡◌, List, [], ◌∷◌, length}
use Rattle.sqlite.specs.Order.{Row}
use Rattle.sqlite_sql.specs.Aggregate.{count}

-- The answer is the number of all rows; a count goes up to 2^63 - 1, as the integers of SQL do.
pub record CountsAll (rows answer : List Row) : Type 0 where
  pub one : answer ≡ (count (length rows) ∷ []) ∷ []
