use Rattle.std.proofs.Common.{◌&&◌, bytes_eq, eqb}
use Rattle.wu_audit.specs.Keys.{AreOtherImports, IsImportKey}
use Rattle.wu_audit.proofs.KeyLemmas.{once_found}
use Rattle.wu_audit.proofs.ImportKeyLemmas.{imports_apart}
use Rattle.wu_audit.proofs.once.first_repeated_import.Goals as goal

pub returns : goal.returns
returns c =
    once_found IsImportKey (λ a b. eqb a.0 b.0 && bytes_eq a.1.now b.1.now) AreOtherImports c.args.imports.now c.in_ok-keys.keys.items _ c.as_slice.ensures.value
    c.in_ok-keys.ensures (λ x y a b. imports_apart x y a b) c.first_repeat.result c.first_repeat.ensures
