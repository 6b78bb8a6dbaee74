use Rattle.std.proofs.Common.{◌≡◌, ◌≢◌, ℕ, eqb}
use Rattle.wu_core.specs.declared.workunit.Archived.{Archived}
use Rattle.wu_audit.proofs.KeyLemmas.{keys_from_map, numbers_apart, once_found}
use Rattle.wu_audit.proofs.once.first_repeated_number.Goals as goal

pub returns : goal.returns
returns c =
    once_found (λ (row : Archived) (n : ℕ). n ≡ row.number) eqb (λ one other. one.number ≢ other.number) c.args.archived.now c.in_ok-numbers.numbers.items _ c.as_slice.ensures.value
    (keys_from_map (λ row. row.number) c.args.archived.now _ c.in_ok-numbers.ensures) (λ x y a b. numbers_apart x.number y.number a b) c.first_repeat.result c.first_repeat.ensures
