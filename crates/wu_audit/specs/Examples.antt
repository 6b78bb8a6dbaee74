-- Worked examples: a sound world, and rows that are wrong.
use Rattle.std.specs.Prelude.{List, ℕ, [], ◌∷◌, Some, None, true}
use Rattle.wu_core.specs.declared.workunit.Archived.{Archived}
use Rattle.wu_core.specs.declared.workunit.Workunit.{Workunit}
use Rattle.wu_core.specs.declared.states.Assimilate.TheVariants as assimilate
use Rattle.wu_core.specs.declared.states.ValidateState.TheVariants as validate
use Rattle.wu_core.specs.declared.import.ImportKind.TheVariants as kind
use Rattle.wu_core.specs.Mask.{no_errors}
use Rattle.wu_core.specs.Parameters.{default_parameters}
use Rattle.wu_core.specs.World.{World, Import, empty_world}
use Rattle.wu_rules.specs.Examples.{aa, credit, h1, h2, job, reporting, success}

-- A workunit on which two hosts agreed, and that was assimilated.
abbrev pub agreed : Workunit
agreed = record (job default_parameters (success h1 aa validate.Valid ∷ success h2 aa validate.Valid ∷ [])) {
  canonical = Some 0;
  assimilate = assimilate.Done;
  done_at = Some reporting;
}

-- The archived row of that workunit.
abbrev pub kept_row : Archived
kept_row = record {
  number = 1;
  name = agreed.name;
  error_mask = no_errors;
  canonical = Some 0;
  output = aa;
  done_at = reporting;
}

-- The world of that workunit, with its two grants.
abbrev pub one_agreed : World
one_agreed = record empty_world {
  workunits = agreed ∷ [];
  grants = credit 0 h1 ∷ credit 1 h2 ∷ [];
  archived = kept_row ∷ [];
  next_number = 2;
}

-- ---- rows that are wrong

-- That workunit, assimilated without a moment.
abbrev pub unstamped : Workunit
unstamped = record agreed { done_at = None }

-- That workunit, with a number that no row can have.
abbrev pub unstorable : Workunit
unstorable = record agreed { number = 9223372036854775808 }

-- That workunit, decided and also given up.
abbrev pub decided_and_given_up : Workunit
decided_and_given_up = record agreed { error_mask = record no_errors { cancelled = true } }

-- That archived row, of the year 2100.
abbrev pub kept_too_late : Archived
kept_too_late = record kept_row { done_at = 4102444800 }

-- That archived row, with the bit of an error that this project never sets.
abbrev pub kept_unsendable : Archived
kept_unsendable = record kept_row { error_mask = record no_errors { couldnt_send_result = true } }

-- That archived row, with another canonical result.
abbrev pub kept_otherwise : Archived
kept_otherwise = record kept_row { canonical = Some 1 }

-- A file of sends with this verdict.
abbrev pub sent_with : ℕ → Import
sent_with verdict = record {
  kind = kind.Sent;
  name = h1;
  template = [];
  content = [];
  first_number = 0;
  verdicts = verdict ∷ [];
}

-- A workunit that is not assimilated, with the name of an archived one.
abbrev pub named_again : Workunit
named_again = record (job default_parameters []) { number = 2 }

-- Two workunits with one number.
abbrev pub same_numbers : List Workunit
same_numbers = agreed ∷ agreed ∷ []

abbrev pub same_names : List Workunit
same_names = agreed ∷ named_again ∷ []

abbrev pub same_rows : List Archived
same_rows = kept_row ∷ kept_row ∷ []
