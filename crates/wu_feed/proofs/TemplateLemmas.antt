-- The document of a template, and its keys.
use Rattle.std.proofs.Common.{◌≡◌, ◌⊎◌, ◌≤◌, ℕ, Bool, true, false, ◌||◌, bytes_eq, codes, inl, inr, List, [], ◌∷◌, length, nat_le, Option, Some, None, Result, Ok, Err, IfOk, IfErr, ℤ, String, Global, IsUtf8, string_bytes, arith, refl, sym}
use Rattle.std.proofs.lemmas.Bool.Decides.{nat_tests}
use Rattle.std.proofs.lemmas.Str.{IsUtf8-from_is_utf8, is_utf8-from_IsUtf8}
use Rattle.std.proofs.lemmas.Slice.Eq.{bytes_eq-Decides}
use Rattle.std.specs.List.{list_all, list_any}
use Rattle.std.specs.Map.{keys_of}
use Rattle.std.specs.Str.{is_utf8}
use Rattle.toml.specs.Data.{Members}
use Rattle.toml.specs.Errors.{IsMemory}
use Rattle.toml.specs.Parse.{parse_document}
use Rattle.toml.specs.View.{members_view}
use Rattle.toml.specs.declared.de.error.Error.{Error}
use Rattle.toml.specs.declared.value.Value.{Value}
use Rattle.wu_core.specs.Templates.{template_parameters, whole_at}
use Rattle.wu_core.specs.declared.fault.Fault.{Fault}
use Rattle.wu_core.specs.declared.fault.Fault.TheVariants.{Memory}
use Rattle.wu_core.specs.declared.fault.TemplateKey.TheVariants as key
use Rattle.wu_feed.specs.Limits.{longest_template}
use Rattle.wu_feed.specs.Templates.{document_of, IsNoDocument, KeepsDocument, has_only_keys, is_key, value_of_key}

short_text : (text : List ℕ) → length text ≤ 65536 → nat_le (length text) longest_template ≡ true
short_text text short = grind (arith, nat_tests)

pub document_of-some : (text : List ℕ) (document : Members) → length text ≤ 65536 → IsUtf8 text → parse_document text ≡ Some document → document_of text ≡ Some document
document_of-some text document short utf8 parsed = rw (short_text text short, is_utf8-from_IsUtf8 text utf8) parsed

pub document_of-none : (text : List ℕ) → length text ≤ 65536 → (IsUtf8 text → parse_document text ≡ None) → document_of text ≡ None
document_of-none text short refused = by (is_utf8 text) refl
  where
    by : (b : Bool) → is_utf8 text ≡ b → document_of text ≡ None
    by true is = rw (short_text text short, is) (refused (IsUtf8-from_is_utf8 text is))
    by false is = rw (short_text text short, is) refl

-- what is known of a document that was read, and of a text that is none
pub document_kept : {T : Type 0} (text : List ℕ) (view : T → Members) (read : Result T Error) (result : Result T Fault) → length text ≤ 65536 → KeepsDocument read result
    → IfOk read (λ document. IsUtf8 text × (parse_document text ≡ Some (view document))) → IfErr read (λ error. ¬ (IsMemory error) → IsUtf8 text → parse_document text ≡ None)
    → IfOk result (λ document. document_of text ≡ Some (view document)) × IfErr result (λ fault. (fault ≡ Memory) ⊎ IsNoDocument text fault)
document_kept text view (Ok document) result short kept known none = rw kept (document_of-some text (view document) short known.0 known.1, tt)
document_kept text view (Err error) result short (inl wanted) known none = rw wanted.1 (tt, inl refl)
document_kept text view (Err error) result short (inr other) known none = rw other.1 (tt, inr (refl, document_of-none text short (none other.0)))

-- the keys of a table, as a map has them
pub has_only_keys-view : (entries : List (String Global × Value)) → has_only_keys (members_view entries) ≡ list_all (λ key. is_key (string_bytes key)) (keys_of entries)
has_only_keys-view [] = refl
has_only_keys-view (entry ∷ more) = rw (has_only_keys-view more) refl

-- the values of the keys, in the order of the fields
pub values_in : (document : Members) (a b c d e f g : Option ℤ) → a ≡ value_of_key document key.MinQuorum → b ≡ value_of_key document key.TargetNresults
    → c ≡ value_of_key document key.MaxErrorResults → d ≡ value_of_key document key.MaxTotalResults → e ≡ value_of_key document key.MaxSuccessResults
    → f ≡ value_of_key document key.DelayBound → g ≡ value_of_key document key.Credit
    → template_parameters (whole_at (a ∷ b ∷ c ∷ d ∷ e ∷ f ∷ g ∷ [])) ≡ template_parameters (value_of_key document)
values_in document a b c d e f g ea eb ec ed ee ef eg = rw (ea, eb, ec, ed, ee, ef, eg) refl

-- ---- a key is one of a list

same : (a b : Bool) → (a ≡ true → b ≡ true) → (b ≡ true → a ≡ true) → a ≡ b
same true b f g = sym (f refl)
same false true f g = g refl
same false false f g = refl

swapped : (a b : List ℕ) → bytes_eq a b ≡ bytes_eq b a
swapped a b =
    let left = bytes_eq-Decides a b in
    let right = bytes_eq-Decides b a in
    same (bytes_eq a b) (bytes_eq b a) (λ e. right.1 (sym (left.0 e))) (λ e. left.1 (sym (right.0 e)))

regroup : (a b c d e f g : Bool) → (a || (b || (c || (d || (e || (f || (g || false))))))) ≡ (a || b || c || d || e || f || g)
regroup true b c d e f g = refl
regroup false true c d e f g = refl
regroup false false true d e f g = refl
regroup false false false true e f g = refl
regroup false false false false true f g = refl
regroup false false false false false true g = refl
regroup false false false false false false true = refl
regroup false false false false false false false = refl

listed : (eq : List ℕ → List ℕ → Bool) → ((x y : List ℕ) → eq x y ≡ eq y x) → (text a b c d e f g : List ℕ)
    → (eq a text || (eq b text || (eq c text || (eq d text || (eq e text || (eq f text || (eq g text || false)))))))
    ≡ (eq text a || eq text b || eq text c || eq text d || eq text e || eq text f || eq text g)
listed eq swap text a b c d e f g =
    rw (swap a text, swap b text, swap c text, swap d text, swap e text, swap f text, swap g text)
    (regroup (eq text a) (eq text b) (eq text c) (eq text d) (eq text e) (eq text f) (eq text g))

pub is_key-listed : (text : List ℕ) → list_any (λ key. bytes_eq key text) (codes "min_quorum" ∷ codes "target_nresults" ∷ codes "max_error_results" ∷ codes "max_total_results"
    ∷ codes "max_success_results" ∷ codes "delay_bound" ∷ codes "credit" ∷ []) ≡ is_key text
is_key-listed text = listed bytes_eq swapped text (codes "min_quorum") (codes "target_nresults") (codes "max_error_results") (codes "max_total_results")
    (codes "max_success_results") (codes "delay_bound") (codes "credit")
