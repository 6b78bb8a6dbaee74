-- What is unfolded to compute a script or a file that is a literal.
use Rattle.std.specs.Prelude.{⊤}
use Rattle.std.specs.Char.{encode_utf8}
use Rattle.std.specs.Str.{chars, is_utf8}
use Rattle.csv.proofs.OnLiterals.{csv_on_literals}
use Rattle.wu_feed.specs.Rows.{rows_from}

unfoldable pub scripts_on_literals : ⊤
unfolding csv_on_literals chars encode_utf8 is_utf8
scripts_on_literals = tt

unfoldable pub rows_on_literals : ⊤
unfolding csv_on_literals rows_from
rows_on_literals = tt
