use Rattle.std.proofs.Common.{◌≡◌, pos, ◌*ℤ◌, w64, arith, ap}
use Rattle.std.proofs.lemmas.Int.{to_z_pos}
use Rattle.jiff_core.proofs.SignedLemmas.{signed_arith}
use Rattle.wu_report.proofs.DayLemmas.{timestamp_text-is}
use Rattle.wu_report.proofs.output.write_seconds.Goals as goal

pub returns : goal.returns
returns g c =
    let seconds = to_z_pos w64 c.args.seconds (omega arith) in
    let at : c.to_plain.result.nanosecond ≡ pos c.args.seconds *ℤ pos 1_000_000_000 = omega (arith, signed_arith, c.in-Ok.ensures.value, ap (λ t. t.nanosecond) c.to_plain.ensures, seconds) in
    let text = timestamp_text-is c.new.result c.to_plain.result c.args.seconds c.timestamp_text-text.result.bytes c.new.ensures at (omega arith) c.timestamp_text-text.ensures in
    rw (← text, ← c.as_str.ensures.value, ← c.as_bytes.ensures.value) c.write_bytes.ensures
