-- The parameters of a workunit, and their ranges.
use Rattle.std.specs.Prelude.{ℕ, ◌≤◌, nat_le, Bool, false, ◌&&◌, ℤ, pos, negsuc, List, [], ◌∷◌}
use Rattle.wu_core.specs.Limits.{highest_quorum, highest_target, longest_delay, most_credit, most_instances}

pub record Parameters : Type 0 where
  pub min_quorum : ℕ
  pub target_nresults : ℕ
  pub max_error_results : ℕ
  pub max_total_results : ℕ
  pub max_success_results : ℕ
  pub delay_bound : ℕ
  pub credit : ℕ

-- The parameters are in the ranges of a workunit. The validator may have raised the target.
pub record IsParameters (p : Parameters) : Type 0 where
  pub min_quorum : (1 ≤ p.min_quorum) × (p.min_quorum ≤ highest_quorum)
  pub target_nresults : (p.min_quorum ≤ p.target_nresults) × (p.target_nresults ≤ highest_target)
  pub max_error_results : p.max_error_results ≤ most_instances
  pub max_total_results : (1 ≤ p.max_total_results) × (p.max_total_results ≤ most_instances)
  pub max_success_results : p.max_success_results ≤ most_instances
  pub delay_bound : (1 ≤ p.delay_bound) × (p.delay_bound ≤ longest_delay)
  pub credit : p.credit ≤ most_credit

-- The parameters that a template without a key gives.
abbrev pub default_parameters : Parameters
default_parameters = record {
  min_quorum = 2;
  target_nresults = 2;
  max_error_results = 3;
  max_total_results = 10;
  max_success_results = 6;
  delay_bound = 604800;
  credit = 1;
}

-- The values of the parameters, in the order of the fields.
abbrev pub values_of : Parameters → List ℤ
values_of p =
    pos p.min_quorum ∷ pos p.target_nresults ∷ pos p.max_error_results ∷ pos p.max_total_results ∷ pos p.max_success_results
    ∷ pos p.delay_bound ∷ pos p.credit ∷ []

-- Whether the value is at least the first number and at most the second; a negative value is not.
abbrev pub is_between : ℕ → ℕ → ℤ → Bool
is_between low high (pos n) = nat_le low n && nat_le n high
is_between low high (negsuc n) = false
