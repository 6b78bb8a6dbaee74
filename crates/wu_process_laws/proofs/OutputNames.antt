-- The files of outputs are as many as their names: no name has a +, which stands after some of them.
use Rattle.std.proofs.Common.{◌≡◌, ◌∙◌, ◌++◌, ℕ, Bool, true, false, List, [], ap, sym, codes, if◌then◌else◌}
use Rattle.std.specs.List.{list_all}
use Rattle.std.proofs.lemmas.Bool.{and_parts, false≢true}
use Rattle.std.proofs.lemmas.List.{append-nil, append_cancel_left, append_cancel_right}
use Rattle.std.proofs.lemmas.List.Folds.{list_all-append}
use Rattle.wu_core.specs.Names.{is_name_byte}
use Rattle.wu_cli.specs.LogNames.{is_reserved}
use Rattle.wu_process_laws.specs.KeptOutputs.{EachNameHasItsFile}

-- what stands after a name
abbrev ending : Bool → List ℕ
ending reserved = if reserved then codes "+" else []

no_plus : (front name : List ℕ) → list_all is_name_byte name ≡ true → name ≡ front ++ codes "+" → ⊥
no_plus front name all is =
    false≢true (and_parts (list_all is_name_byte front) false (sym (list_all-append is_name_byte front (codes "+")) ∙ ap (λ n. list_all is_name_byte n) (sym is) ∙ all)).1

apart : (one other : List ℕ) (first second : Bool) → list_all is_name_byte one ≡ true → list_all is_name_byte other ≡ true → one ++ ending first ≡ other ++ ending second → one ≡ other
apart one other true true all_one all_other same = append_cancel_right one other (codes "+") same
apart one other false false all_one all_other same = sym (append-nil one) ∙ same ∙ append-nil other
apart one other true false all_one all_other same = absurd (no_plus one other all_other (sym (append-nil other) ∙ sym same))
apart one other false true all_one all_other same = absurd (no_plus other one all_one (sym (append-nil one) ∙ same))

pub each_name : EachNameHasItsFile
each_name folder one other is_one is_other same =
    apart one other (is_reserved one) (is_reserved other) (and_parts _ _ is_one).1 (and_parts _ _ is_other).1
    (append_cancel_left (codes "/") _ _ (append_cancel_left folder _ _ same))
