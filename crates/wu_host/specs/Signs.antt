-- What a writer hands on, if a progress line may have to be wiped before its first bytes.
use Rattle.std.specs.Prelude.{ℕ, Bool, true, false, List, Option, None}

-- Exactly what the writer is given; nothing is known if a line has to be wiped first.
abbrev pub handed_on : Bool → Option (List ℕ) → Option (List ℕ)
handed_on true known = None
handed_on false known = known
