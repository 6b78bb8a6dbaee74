use Rattle.std.proofs.Common.{◌≡◌, ℕ, eqb}
use Rattle.wu_core.specs.declared.workunit.Archived.{Archived}
use Rattle.wu_audit.specs.Records.{IsArchivedIfDone}
use Rattle.wu_audit.specs.Sets.{IsHeldIfDone}
use Rattle.wu_audit.proofs.KeyLemmas.{keys_from_map}
use Rattle.wu_audit.proofs.SetLemmas.{first_like, number_told, set_holds}
use Rattle.wu_audit.proofs.lacks.first_unkept.Goals as goal

pub returns : goal.returns
returns c =
    let tells = λ (number : ℕ). set_holds (λ (row : Archived) (n : ℕ). n ≡ row.number) eqb c.args.archived.now
    c.in_ok-keys.keys.items c.as_slice.result.now c.in_ok-numbers.numbers c.as_slice.ensures.value
    (keys_from_map (λ row. row.number) c.args.archived.now _ c.in_ok-keys.ensures) c.in_ok-numbers.ensures
    number (λ row. row.number ≡ number) (λ row a at. number_told number row.number a at) in
    first_like (IsHeldIfDone c.in_ok-numbers.numbers) (IsArchivedIfDone c.args.archived.now)
    (λ w. (λ held done. (tells w.number).0 (held done), λ kept done. (tells w.number).1 (kept done)))
    c.args.workunits.now c.first_done_unheld.result c.first_done_unheld.ensures
