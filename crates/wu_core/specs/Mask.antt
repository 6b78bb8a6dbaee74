-- BOINC's mask of errors of a workunit.
use Rattle.std.specs.Prelude.{◌≡◌, ℕ, ◌+◌, ◌*◌, Bool, false, if◌then◌else◌}
use Rattle.wu_core.specs.declared.mask.ErrorMask.{ErrorMask}

-- The mask with no bit set.
abbrev pub no_errors : ErrorMask
no_errors = record {
  couldnt_send_result = false;
  too_many_error_results = false;
  too_many_success_results = false;
  too_many_total_results = false;
  cancelled = false;
  no_canonical_result = false;
}

-- The mask has no bit set that this project never sets.
pub record IsPossibleMask (mask : ErrorMask) : Type 0 where
  pub sendable : mask.couldnt_send_result ≡ false
  pub decidable : mask.no_canonical_result ≡ false

abbrev pub bit_value : Bool → ℕ
bit_value bit = if bit then 1 else 0

-- The sum of the bits that are set.
abbrev pub error_mask_code : ErrorMask → ℕ
error_mask_code mask =
    bit_value mask.couldnt_send_result
    + 2 * bit_value mask.too_many_error_results
    + 4 * bit_value mask.too_many_success_results
    + 8 * bit_value mask.too_many_total_results
    + 16 * bit_value mask.cancelled
    + 32 * bit_value mask.no_canonical_result
