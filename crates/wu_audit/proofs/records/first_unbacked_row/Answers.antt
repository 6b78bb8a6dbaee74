use Rattle.std.proofs.Common.{rules}
use Rattle.wu_audit.specs.Records.{IsBackedRow}
use Rattle.wu_audit.proofs.PlaceLemmas.{against_from_test}
use Rattle.wu_audit.proofs.records.first_unbacked_row.Goals as goal

pub returns : goal.returns
returns c = against_from_test (IsBackedRow c.args.workunits.now) c.args.archived.now _ c.first_against.ensures (λ x b told. search rules)
