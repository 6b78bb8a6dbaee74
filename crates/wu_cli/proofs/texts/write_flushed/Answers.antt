use Rattle.std.proofs.Common.{flat_map}
use Rattle.wu_cli.proofs.TextLemmas.{flushed}
use Rattle.wu_report.specs.Writing.{piece_text}
use Rattle.wu_cli.proofs.texts.write_flushed.Goals as goal

pub returns : goal.returns
returns g c = record { bytes = flushed _ _ _ (flat_map piece_text c.args.pieces.now) c.flush.result c.in_ok-write_pieces.ensures.bytes c.flush.ensures.bytes; fault = c.flush.ensures.fault }
