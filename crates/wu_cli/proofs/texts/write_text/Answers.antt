use Rattle.std.proofs.Common.{subst}
use Rattle.std.proofs.lemmas.List.{append-nil}
use Rattle.std.specs.Io.KnownBytes.{Appends}
use Rattle.wu_cli.proofs.TextLemmas.{flushed}
use Rattle.wu_cli.proofs.texts.write_text.Goals as goal

pub returns : goal.returns
returns g c =
    let whole = subst (Appends (g.W.Write.contents c.args.out.now) (g.W.Write.contents c.write_pieces.new.out)) (append-nil c.args.text.now) c.in_ok-write_pieces.ensures.bytes in
    record { bytes = flushed _ _ _ c.args.text.now c.flush.result whole c.flush.ensures.bytes; fault = c.flush.ensures.fault }
