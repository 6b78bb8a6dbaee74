-- The values of a template, and the first key that is wrong.
use Rattle.std.specs.Prelude.{ℕ, Bool, false, not, ℤ, pos, unsigned_abs, List, [], ◌∷◌, get_or, find, Option, Some, None, Result, Ok, Err}
use Rattle.wu_core.specs.declared.fault.Fault.{Fault}
use Rattle.wu_core.specs.declared.fault.Fault.TheVariants.{BadTemplate}
use Rattle.wu_core.specs.declared.fault.TemplateKey.{TemplateKey}
use Rattle.wu_core.specs.declared.fault.TemplateKey.TheVariants as key
use Rattle.wu_core.specs.Limits.{highest_quorum, longest_delay, most_credit, most_instances}
use Rattle.wu_core.specs.Parameters.{Parameters, is_between}

-- Whether the value is a whole number in this range.
abbrev pub is_whole_between : ℕ → ℕ → Option ℤ → Bool
is_whole_between low high (Some value) = is_between low high value
is_whole_between low high None = false

-- The whole number without its sign.
abbrev pub number_of : Option ℤ → ℕ
number_of (Some value) = unsigned_abs value
number_of None = 0

-- Each key, and whether its value is in its range, in the order of the fields. The target is at least the quorum and at
-- most this.
abbrev pub range_tests_to : ℕ → (TemplateKey → Option ℤ) → List (TemplateKey × Bool)
range_tests_to most value =
    (key.MinQuorum, is_whole_between 1 highest_quorum (value key.MinQuorum))
    ∷ (key.TargetNresults, is_whole_between (number_of (value key.MinQuorum)) most (value key.TargetNresults))
    ∷ (key.MaxErrorResults, is_whole_between 0 most_instances (value key.MaxErrorResults))
    ∷ (key.MaxTotalResults, is_whole_between 1 most_instances (value key.MaxTotalResults))
    ∷ (key.MaxSuccessResults, is_whole_between 0 most_instances (value key.MaxSuccessResults))
    ∷ (key.DelayBound, is_whole_between 1 longest_delay (value key.DelayBound))
    ∷ (key.Credit, is_whole_between 0 most_credit (value key.Credit))
    ∷ []

-- Each key, and whether its value is in the range of a template.
abbrev pub range_tests : (TemplateKey → Option ℤ) → List (TemplateKey × Bool)
range_tests value = range_tests_to highest_quorum value

-- The parameters with these values.
abbrev pub parameters_of : (TemplateKey → Option ℤ) → Parameters
parameters_of value = record {
  min_quorum = number_of (value key.MinQuorum);
  target_nresults = number_of (value key.TargetNresults);
  max_error_results = number_of (value key.MaxErrorResults);
  max_total_results = number_of (value key.MaxTotalResults);
  max_success_results = number_of (value key.MaxSuccessResults);
  delay_bound = number_of (value key.DelayBound);
  credit = number_of (value key.Credit);
}

-- The parameters, or `BadTemplate` with the key of the first test that fails.
abbrev pub unless_failed : Option (TemplateKey × Bool) → Parameters → Result Parameters Fault
unless_failed (Some failed) p = Err (BadTemplate failed.0)
unless_failed None p = Ok p

-- The parameters with these values, or the first key whose value is out of range or not a whole number. The target is
-- at most this.
abbrev pub parameters_to : ℕ → (TemplateKey → Option ℤ) → Result Parameters Fault
parameters_to most value = unless_failed (find (λ test. not test.1) (range_tests_to most value)) (parameters_of value)

-- The parameters of a template, or its first key that is wrong.
abbrev pub template_parameters : (TemplateKey → Option ℤ) → Result Parameters Fault
template_parameters value = parameters_to highest_quorum value

-- The value of each key, from values in the order of the fields.
abbrev pub listed : List ℤ → TemplateKey → Option ℤ
listed values key.MinQuorum = Some (get_or values 0 (pos 0))
listed values key.TargetNresults = Some (get_or values 1 (pos 0))
listed values key.MaxErrorResults = Some (get_or values 2 (pos 0))
listed values key.MaxTotalResults = Some (get_or values 3 (pos 0))
listed values key.MaxSuccessResults = Some (get_or values 4 (pos 0))
listed values key.DelayBound = Some (get_or values 5 (pos 0))
listed values key.Credit = Some (get_or values 6 (pos 0))
listed values key.Document = None
listed values key.Unknown = None

-- The value of each key, from values in the order of the fields, some of which may not be whole numbers.
abbrev pub whole_at : List (Option ℤ) → TemplateKey → Option ℤ
whole_at values key.MinQuorum = get_or values 0 None
whole_at values key.TargetNresults = get_or values 1 None
whole_at values key.MaxErrorResults = get_or values 2 None
whole_at values key.MaxTotalResults = get_or values 3 None
whole_at values key.MaxSuccessResults = get_or values 4 None
whole_at values key.DelayBound = get_or values 5 None
whole_at values key.Credit = get_or values 6 None
whole_at values key.Document = None
whole_at values key.Unknown = None
