-- What a pass answers over a world, and what the status of that world says of it.
use Rattle.std.specs.Prelude.{◌≡◌, ℕ, min, true, Ok}
use Rattle.wu_core.specs.World.{World}
use Rattle.wu_rules.specs.declared.due.Pass.{Pass}
use Rattle.wu_machine.specs.Machine.{IsUpToDate, is_limit_right, reply}
use Rattle.wu_machine.specs.Requests.{AskPass, Passed}
use Rattle.wu_views.specs.Waiting.{due_count}

-- A pass with the least age 0 answers the number of its line in the status of its moment, up to its limit.
abbrev pub PassesAnswerStatus : Type 0
PassesAnswerStatus =
    (world : World) (pass : Pass) (now limit : ℕ) → IsUpToDate world → is_limit_right pass limit 0 ≡ true
    → reply world (AskPass pass now limit 0) ≡ Ok (Passed pass (min limit (due_count now world pass)))
