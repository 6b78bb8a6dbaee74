-- A pass answers how many workunits wait for it, up to its limit.
use Rattle.std.proofs.Common.{◌≡◌, ◌∙◌, ℕ, Result, Ok, filter, min, true, ap, refl}
use Rattle.std.proofs.lemmas.List.{length-take}
use Rattle.std.proofs.lemmas.List.Sums.{length-filter}
use Rattle.wu_core.specs.World.{World}
use Rattle.wu_core.specs.declared.fault.Fault.{Fault}
use Rattle.wu_core.specs.declared.workunit.Workunit.{Workunit}
use Rattle.wu_rules.specs.Due.{changes}
use Rattle.wu_rules.specs.declared.due.Pass.{Pass}
use Rattle.wu_machine.specs.Machine.{IsUpToDate, is_limit_right, reply}
use Rattle.wu_machine.specs.Passes.{handled}
use Rattle.wu_machine.specs.Requests.{AskPass, Passed, Reply}
use Rattle.wu_views.specs.Waiting.{due_count}

handled_due : (world : World) (pass : Pass) (now limit : ℕ) → handled pass now 0 limit world ≡ min limit (due_count now world pass)
handled_due world pass now limit =
    length-take limit (filter (changes pass now 0) world.workunits)
    ∙ ap (min limit) (length-filter (λ (w : Workunit). changes pass now 0 w) world.workunits)

pub passes_answer : (world : World) (pass : Pass) (now limit : ℕ) → IsUpToDate world → is_limit_right pass limit 0 ≡ true
    → reply world (AskPass pass now limit 0) ≡ Ok (Passed pass (min limit (due_count now world pass)))
passes_answer world pass now limit is right =
    let here : reply world (AskPass pass now limit 0) ≡ Ok (Passed pass (handled pass now 0 limit world)) = rw (is, right) refl in
    here ∙ ap {B = Result Reply Fault} (λ count. Ok (Passed pass count)) (handled_due world pass now limit)
