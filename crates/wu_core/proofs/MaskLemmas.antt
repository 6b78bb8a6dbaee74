-- The bits of a mask's number.
use Rattle.std.proofs.Common.{◌≡◌, ℕ, ◌/◌, ◌%◌, ◌<◌, ◌≤◌, Bool, true, false, Some, nat_eq, refl, arith}
use Rattle.std.proofs.lemmas.Bool.Decides.{nat_tests}
use Rattle.wu_core.specs.Mask.{bit_value, error_mask_code}
use Rattle.wu_core.specs.Codes.{Decodes}
use Rattle.wu_core.specs.declared.mask.ErrorMask.{ErrorMask}

bit_is : (bit : Bool) (n : ℕ) → n ≡ bit_value bit → nat_eq n 1 ≡ bit
bit_is true n e = rw e refl
bit_is false n e = rw e refl

bit_value-le : (bit : Bool) → bit_value bit ≤ 1
bit_value-le true = omega arith
bit_value-le false = omega arith

value_of_test : (n : ℕ) → n ≤ 1 → bit_value (nat_eq n 1) ≡ n
value_of_test n small = grind (arith, nat_tests)

-- the flags of a number
abbrev pub flags_of : ℕ → ErrorMask
flags_of code = record {
  couldnt_send_result = nat_eq (code % 2) 1;
  too_many_error_results = nat_eq (code / 2 % 2) 1;
  too_many_success_results = nat_eq (code / 4 % 2) 1;
  too_many_total_results = nat_eq (code / 8 % 2) 1;
  cancelled = nat_eq (code / 16 % 2) 1;
  no_canonical_result = nat_eq (code / 32 % 2) 1;
}

pub flags_of-error_mask_code : (mask : ErrorMask) (code : ℕ) → error_mask_code mask ≡ code → flags_of code ≡ mask
flags_of-error_mask_code mask code e =
    let a = bit_value-le mask.couldnt_send_result in
    let b = bit_value-le mask.too_many_error_results in
    let c = bit_value-le mask.too_many_success_results in
    let d = bit_value-le mask.too_many_total_results in
    let f = bit_value-le mask.cancelled in
    let g = bit_value-le mask.no_canonical_result in
    let e0 = bit_is mask.couldnt_send_result (code % 2) (omega arith) in
    let e1 = bit_is mask.too_many_error_results (code / 2 % 2) (omega arith) in
    let e2 = bit_is mask.too_many_success_results (code / 4 % 2) (omega arith) in
    let e3 = bit_is mask.too_many_total_results (code / 8 % 2) (omega arith) in
    let e4 = bit_is mask.cancelled (code / 16 % 2) (omega arith) in
    let e5 = bit_is mask.no_canonical_result (code / 32 % 2) (omega arith) in
    rw (e0, e1, e2, e3, e4, e5) refl

pub error_mask_code-flags_of : (code : ℕ) → code < 64 → error_mask_code (flags_of code) ≡ code
error_mask_code-flags_of code small =
    rw (value_of_test (code % 2) (omega arith), value_of_test (code / 2 % 2) (omega arith), value_of_test (code / 4 % 2) (omega arith), value_of_test (code / 8 % 2) (omega arith), value_of_test (code / 16 % 2) (omega arith), value_of_test (code / 32 % 2) (omega arith)) (omega arith)

pub flags_decode : (code : ℕ) → code < 64 → Decodes error_mask_code code (Some (flags_of code))
flags_decode code small = record {
  found = λ mask e. rw (flags_of-error_mask_code mask code e) refl;
  coded = error_mask_code-flags_of code small;
}
