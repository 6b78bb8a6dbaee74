use Rattle.std.proofs.Common.{◌≡◌, ℕ, List, bytes_eq}
use Rattle.wu_core.specs.declared.workunit.Archived.{Archived}
use Rattle.wu_audit.specs.Keys.{IsArchivedName}
use Rattle.wu_audit.specs.Records.{IsNameFree}
use Rattle.wu_audit.specs.Sets.{IsNotHeldUnlessDone, holds_name}
use Rattle.wu_audit.proofs.SetLemmas.{first_like, name_told, none_held, set_holds}
use Rattle.wu_audit.proofs.lacks.first_taken.Goals as goal

pub returns : goal.returns
returns c =
    let tells = λ (name : List ℕ). none_held (holds_name c.in_ok-names.names name) (λ (row : Archived). row.name ≡ name) c.args.archived.now
    (set_holds IsArchivedName (λ a b. bytes_eq a.now b.now) c.args.archived.now
    c.in_ok-keys.keys.items c.as_slice.result.now c.in_ok-names.names c.as_slice.ensures.value c.in_ok-keys.ensures c.in_ok-names.ensures
    (record { ref_ptr = (0, 0); now = name }) (λ row. row.name ≡ name) (λ row a at. name_told name row.name a.now at)) in
    first_like (IsNotHeldUnlessDone c.in_ok-names.names) (IsNameFree c.args.archived.now)
    (λ w. (λ held undone. (tells w.name).0 (held undone), λ free undone. (tells w.name).1 (free undone)))
    c.args.workunits.now c.first_held.result c.first_held.ensures
