-- Templates, as `toml` reads their documents.
use Rattle.std.specs.Prelude.{◌≡◌, ◌⊎◌, ℕ, ◌<◌, nat_le, Bool, true, ◌&&◌, ◌||◌, if◌then◌else◌, ℤ, pos, bytes_eq, codes, List, length, Option, Some, None, Result, Ok, Err}
use Rattle.std.specs.Str.{is_utf8}
use Rattle.toml.specs.Data.{Data, Members, no_members, member, as_integer, get_member}
use Rattle.toml.specs.Errors.{IsMemory}
use Rattle.toml.specs.Parse.{parse_document}
use Rattle.toml.specs.declared.de.error.Error.{Error}
use Rattle.wu_core.specs.Parameters.{Parameters, default_parameters}
use Rattle.wu_core.specs.Templates.{template_parameters}
use Rattle.wu_core.specs.declared.fault.Fault.{Fault}
use Rattle.wu_core.specs.declared.fault.Fault.TheVariants.{BadTemplate, Memory}
use Rattle.wu_core.specs.declared.fault.TemplateKey.{TemplateKey}
use Rattle.wu_core.specs.declared.fault.TemplateKey.TheVariants as key
use Rattle.wu_feed.specs.Limits.{longest_template}

-- The document that a text is, or `None`.
abbrev pub document_of : List ℕ → Option Members
document_of text = if nat_le (length text) longest_template && is_utf8 text then parse_document text else None

-- The text is no document, and the fault says so.
abbrev pub IsNoDocument : List ℕ → Fault → Type 0
IsNoDocument text fault = (fault ≡ BadTemplate key.Document) × (document_of text ≡ None)

-- A document that was read is kept. An error that is out of memory is reported as that, and any other as no document.
abbrev pub KeepsDocument : {T : Type 0} → Result T Error → Result T Fault → Type 0
KeepsDocument (Ok document) result = result ≡ Ok document
KeepsDocument (Err error) result = (IsMemory error × (result ≡ Err Memory)) ⊎ ((¬ (IsMemory error)) × (result ≡ Err (BadTemplate key.Document)))

-- A text that is too long for a template is refused as no document, whatever memory there is.
abbrev pub TellsLongTemplate : {T : Type 0} → Result T Fault → List ℕ → Type 0
TellsLongTemplate result text = longest_template < length text → result ≡ Err (BadTemplate key.Document)

-- Whether a template may have this key.
abbrev pub is_key : List ℕ → Bool
is_key text =
    bytes_eq text (codes "min_quorum") || bytes_eq text (codes "target_nresults") || bytes_eq text (codes "max_error_results")
    || bytes_eq text (codes "max_total_results") || bytes_eq text (codes "max_success_results") || bytes_eq text (codes "delay_bound")
    || bytes_eq text (codes "credit")

-- Whether the document has only keys of a template.
abbrev pub has_only_keys : Members → Bool
has_only_keys no_members = true
has_only_keys (member key value more) = is_key key && has_only_keys more

-- The value of a key if it is a whole number; the default if the key is absent.
abbrev pub value_or : ℕ → Option Data → Option ℤ
value_or default None = Some (pos default)
value_or default (Some value) = as_integer value

-- The value of each key, or its default; `None` if it is no whole number.
abbrev pub value_of_key : Members → TemplateKey → Option ℤ
value_of_key document key.MinQuorum = value_or default_parameters.min_quorum (get_member (codes "min_quorum") document)
value_of_key document key.TargetNresults = value_or default_parameters.target_nresults (get_member (codes "target_nresults") document)
value_of_key document key.MaxErrorResults = value_or default_parameters.max_error_results (get_member (codes "max_error_results") document)
value_of_key document key.MaxTotalResults = value_or default_parameters.max_total_results (get_member (codes "max_total_results") document)
value_of_key document key.MaxSuccessResults = value_or default_parameters.max_success_results (get_member (codes "max_success_results") document)
value_of_key document key.DelayBound = value_or default_parameters.delay_bound (get_member (codes "delay_bound") document)
value_of_key document key.Credit = value_or default_parameters.credit (get_member (codes "credit") document)
value_of_key document key.Document = None
value_of_key document key.Unknown = None

-- The parameters that a document sets, or its first fault.
abbrev pub document_parameters : Members → Result Parameters Fault
document_parameters document = if has_only_keys document then template_parameters (value_of_key document) else Err (BadTemplate key.Unknown)

abbrev pub parameters_if : Option Members → Result Parameters Fault
parameters_if (Some document) = document_parameters document
parameters_if None = Err (BadTemplate key.Document)

-- The parameters that a template sets, or its first fault.
abbrev pub template_of : List ℕ → Result Parameters Fault
template_of text = parameters_if (document_of text)

-- The fault is out of memory, or refuses the template.
abbrev pub IsTemplateFault : Fault → Type 0
IsTemplateFault fault = (fault ≡ Memory) ⊎ ((refused : TemplateKey) × (fault ≡ BadTemplate refused))
