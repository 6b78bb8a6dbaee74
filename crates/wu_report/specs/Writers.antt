-- What a writer of lines leaves where it writes.
use Rattle.std.specs.Prelude.{◌≡◌, ℕ, List, Option}
use Rattle.std.specs.Io.KnownBytes.{Appends}
use Rattle.wu_report.specs.declared.views.LineWriter.{LineWriter}
use Rattle.wu_report.specs.Writing.{IsCut}

-- The writer writes to the same place, and this text was appended there.
pub record WritesLine {W : Type 0} (contents : W → Option (List ℕ)) (old new : LineWriter W) (text : List ℕ) : Type 0 where
  pub same_reference : new.out.ghost_name ≡ old.out.ghost_name
  pub text_is : Appends (contents old.out.now) (contents new.out.now) text

-- The writer writes to the same place, and this text was cut there.
pub record CutsLine {W : Type 0} (contents : W → Option (List ℕ)) (old new : LineWriter W) (text : List ℕ) : Type 0 where
  pub same_reference : new.out.ghost_name ≡ old.out.ghost_name
  pub cut : IsCut (contents old.out.now) (contents new.out.now) text
