use Rattle.std.proofs.Common.{get_or, sym, subst, arith}
use Rattle.std.proofs.lemmas.Grind.{get_or_default_zero}
use Rattle.std.proofs.lemmas.List.{take_all}
use Rattle.std.specs.Io.KnownBytes.{Appends}
use Rattle.wu_report.proofs.HexLemmas.{byte_digits, encode_lower-each}
use Rattle.wu_report.proofs.WritingLemmas.{prints_all, prints_until}
use Rattle.wu_report.proofs.output.write_hex.Goals as goal

pub returns-in_err-write_hex_byte : goal.returns-in_err-write_hex_byte
returns-in_err-write_hex_byte g c =
    let bytes = c.args.bytes.now in
    let i = c.loop-byte.byte-index in
    let byte = get_or bytes i 0 in
    let at = sym (get_or_default_zero bytes i byte c.loop-byte-test.true) in
    rw (encode_lower-each bytes)
    (prints_until g.W.Write.contents byte_digits bytes i byte c.loop-byte-test.true at _ _ _ c.loop-byte.invariant
    c.in_err-write_hex_byte.field-0.0 c.from_residual.result c.from_residual.ensures.1 c.in_err-write_hex_byte.ensures)

pub returns : goal.returns
returns g c =
    let bytes = c.args.bytes.now in
    let all = take_all c.loop-byte.byte-index bytes (omega arith) in
    prints_all g.W.Write.contents _ _ _ _ (subst (Appends _ _) (sym (encode_lower-each bytes)) (rw all at c.loop-byte.invariant))
