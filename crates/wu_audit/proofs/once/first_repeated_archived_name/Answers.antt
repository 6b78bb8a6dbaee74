use Rattle.std.proofs.Common.{◌≢◌, bytes_eq}
use Rattle.wu_audit.specs.Keys.{IsArchivedName}
use Rattle.wu_audit.proofs.KeyLemmas.{once_found, texts_apart}
use Rattle.wu_audit.proofs.once.first_repeated_archived_name.Goals as goal

pub returns : goal.returns
returns c =
    once_found IsArchivedName (λ a b. bytes_eq a.now b.now) (λ one other. one.name ≢ other.name) c.args.archived.now c.in_ok-names.names.items _ c.as_slice.ensures.value
    c.in_ok-names.ensures (λ x y a b. texts_apart x.name y.name a.now b.now) c.first_repeat.result c.first_repeat.ensures
