-- The marks of the worked examples.
use Rattle.std.specs.Prelude.{ℕ, false, Option, None}
use Rattle.wu_core.specs.declared.marks.Marks.{Marks}

-- Only the transitioner has something to do, from this moment on.
abbrev pub wakes_at : Option ℕ → Marks
wakes_at moment = record {
  wake = moment;
  to_validate = false;
  to_assimilate = false;
  to_delete = false;
  purge_from = None;
}
