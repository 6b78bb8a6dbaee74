-- What words ask of a project, whatever their files hold.
use Rattle.std.specs.Prelude.{◌≡◌, ◌⊎◌, ℕ, [], List, Option, Result, Ok, Err, ⊤}
use Rattle.wu_arguments.specs.Refusals.{Explains, IsOrderOf}
use Rattle.wu_arguments.specs.declared.order.Order.{Order}
use Rattle.wu_arguments.specs.declared.order.Order.TheVariants as order
use Rattle.wu_arguments.specs.declared.usage.Usage.{Usage}
use Rattle.wu_cli.specs.Working.{AsksOfLine, AsksOfScript}
use Rattle.wu_cli.specs.declared.trouble.Trouble.{Trouble}
use Rattle.wu_cli.specs.declared.trouble.Trouble.TheVariants as trouble
use Rattle.wu_cli.specs.declared.work.Work.{Work}

-- A file may hold anything: no clause can say what is at a path.
abbrev pub may_hold : List ℕ → ℕ → Option (List ℕ) → Type 0
may_hold path most content = ⊤

-- The path of the database that an order names.
abbrev pub database_in : Order → List ℕ
database_in (order.Line line) = line.db
database_in (order.Script script) = script.db
database_in (order.Session path) = path
database_in (order.Check path) = path
database_in (order.Export it) = it.db
database_in (order.Lint it) = []
database_in (order.Explain topic) = []

-- What a line or a script asks for; no other order asks for work.
abbrev pub AsksOfOrder : Order → Result Work Trouble → Type 0
AsksOfOrder (order.Line line) asked = AsksOfLine may_hold line asked
AsksOfOrder (order.Script script) asked = AsksOfScript may_hold script asked
AsksOfOrder _ asked = ⊥

-- The words are this order, and it asks for this work.
pub record AsksFor (words : List (List ℕ)) (asked : Order) (work : Work) : Type 0 where
  pub ordered : IsOrderOf words asked
  pub asks : AsksOfOrder asked (Ok work)

-- The words are no order, for this reason; or they are one, and what it asks for is refused.
abbrev pub RefusesWords : List (List ℕ) → Trouble → Type 0
RefusesWords words told =
    ((usage : Usage) × Explains words usage × (told ≡ trouble.Usage usage))
    ⊎ ((asked : Order) × IsOrderOf words asked × AsksOfOrder asked (Err told))
