-- What the files of a line hold, as their reader gives it.
use Rattle.std.specs.Prelude.{◌≡◌, ◌⊎◌, ℕ, Bool, true, false, List, [], ◌∷◌, Option, Some, None, Result, Err}
use Rattle.wu_core.specs.Reads.{IsOrWantsMemory, TellsRefusal}
use Rattle.wu_core.specs.declared.fault.Fault.{Fault}
use Rattle.wu_core.specs.declared.fault.Fault.TheVariants.{Memory}
use Rattle.wu_core.specs.declared.import.ImportKind.{ImportKind}
use Rattle.wu_core.specs.declared.import.ImportKind.TheVariants.{Batch}
use Rattle.wu_feed.specs.Limits.{longest_file, longest_template}
use Rattle.wu_arguments.specs.Actions.{prepared}
use Rattle.wu_arguments.specs.declared.action.Action.{Action}
use Rattle.wu_arguments.specs.declared.line.Asking.{Asking}
use Rattle.wu_arguments.specs.declared.line.Asking.TheVariants as asking

-- Whether a line names files: only an import does.
abbrev pub names_files : Asking → Bool
names_files (asking.Import kind name file template) = true
names_files _ = false

-- `gives path most content`: this content is given of the file at the path, of which at most `most` bytes and one more
-- are read.
module _ (gives : List ℕ → ℕ → Option (List ℕ) → Type 0) where
  -- This is the content of a template; a template that is left out has no byte.
  abbrev pub IsTemplateOf : Option (List ℕ) → Option (List ℕ) → Type 0
  IsTemplateOf (Some path) content = gives path longest_template content
  IsTemplateOf None content = content ≡ Some []

  -- These are the contents of an import's files: the jobs and the template of a batch, or the rows of another import.
  abbrev pub AreContentsOfImport : ImportKind → List ℕ → Option (List ℕ) → List (Option (List ℕ)) → Type 0
  AreContentsOfImport Batch file template contents =
      (jobs parameters : Option (List ℕ)) × (contents ≡ jobs ∷ parameters ∷ []) × gives file longest_file jobs × IsTemplateOf template parameters
  AreContentsOfImport kind file template contents = (rows : Option (List ℕ)) × (contents ≡ rows ∷ []) × gives file longest_file rows

  -- These are the contents of a line's files, in the order of its usage line. Only an import has files.
  abbrev pub AreContentsOf : Asking → List (Option (List ℕ)) → Type 0
  AreContentsOf (asking.Import kind name file template) contents = AreContentsOfImport kind file template contents
  AreContentsOf asking contents = contents ≡ []

  -- A line asks for this, given some contents of its files.
  pub record PreparesRead (asking : Asking) (asked : Result Action Fault) : Type 0 where
    pub contents : List (Option (List ℕ))
    pub are : AreContentsOf asking contents
    pub action : IsOrWantsMemory asked (prepared asking contents)
    pub told : TellsRefusal asked (prepared asking contents)

  -- A line asks for this, or it names files and their reading was out of memory.
  abbrev pub Prepares : Asking → Result Action Fault → Type 0
  Prepares asking asked = PreparesRead asking asked ⊎ ((asked ≡ Err Memory) × (names_files asking ≡ true))
