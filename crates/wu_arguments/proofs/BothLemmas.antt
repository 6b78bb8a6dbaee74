-- A name and files, of which the first fault is told, want of memory last.
use Rattle.std.proofs.Common.{◌≡◌, ◌∙◌, ℕ, zero, suc, Bool, true, false, if◌then◌else◌, List, [], ◌∷◌, drop, Option, Some, None, Result, Ok, Err, inl, inr, refl, subst, sym}
use Rattle.wu_core.specs.Names.{is_name, name_of}
use Rattle.wu_core.specs.Reads.{IsOrWantsMemory, TellsRefusal}
use Rattle.wu_core.specs.declared.fault.Fault.{Fault}
use Rattle.wu_core.specs.declared.fault.Fault.TheVariants.{BadName, Memory}
use Rattle.std.specs.declared.vec.Vec.{Vec}
use Rattle.wu_feed.specs.Told.{both}
use Rattle.wu_arguments.specs.Actions.{and_then, bytes_of, content_of, read_bytes}

-- what is made of the values follows from them, or from the fault
abbrev pub Follows : {P A : Type 0} → Result A Fault → (P → A) → Result P Fault → Type 0
Follows expected make (Ok parts) = expected ≡ Ok (make parts)
Follows expected make (Err fault) = IsOrWantsMemory (Err fault) expected × TellsRefusal (Err fault) expected

abbrev named : Bool → List ℕ → Result (List ℕ) Fault
named b name = if b then Ok name else Err BadName

-- ---- a name and a file

abbrev with_file : {A : Type 0} → Result (List ℕ) Fault → Result (List ℕ) Fault → (List ℕ × List ℕ → A) → Result A Fault
with_file name file make = and_then name (λ name. and_then file (λ file. Ok (make (name, file))))

read_one : {A : Type 0} (b : Bool) (name : List ℕ) (file : Option (List ℕ)) (make : List ℕ × List ℕ → A)
    → Follows (with_file (named b name) (read_bytes file) make) make (both (named b name) (read_bytes file))
read_one true name (Some x) make = refl
read_one true name None make = (inl refl, refl)
read_one false name (Some x) make = (inl refl, refl)
read_one false name None make = (inl refl, refl)

want_one : {A : Type 0} (name : List ℕ) (file : Option (List ℕ)) (make : List ℕ × List ℕ → A)
    → Follows (with_file (Ok name) (read_bytes file) make) make (both (Err Memory) (read_bytes file))
want_one name (Some x) make = (inr refl, tt)
want_one name None make = (inl refl, refl)

one_file : {A : Type 0} (b : Bool) (name : List ℕ) (given : Result (List ℕ) Fault) (file : Option (List ℕ)) (make : List ℕ × List ℕ → A)
    → IsOrWantsMemory given (named b name) → TellsRefusal given (named b name) → Follows (with_file (named b name) (read_bytes file) make) make (both given (read_bytes file))
one_file b name given file make (inl e) told =
    subst (λ g. Follows (with_file (named b name) (read_bytes file) make) make (both g (read_bytes file))) (sym e) (read_one b name file make)
one_file true name given file make (inr e) told =
    subst (λ g. Follows (with_file (Ok name) (read_bytes file) make) make (both g (read_bytes file))) (sym e) (want_one name file make)
one_file false name given file make (inr e) told =
    absurd (let no = sym e ∙ told in cc)

-- ---- a name and two files

abbrev with_files : {A : Type 0} → Result (List ℕ) Fault → Result (List ℕ) Fault → Result (List ℕ) Fault → (List ℕ × (List ℕ × List ℕ) → A) → Result A Fault
with_files name file template make = and_then name (λ name. and_then file (λ file. and_then template (λ template. Ok (make (name, (file, template))))))

read_two : {A : Type 0} (b : Bool) (name : List ℕ) (file template : Option (List ℕ)) (make : List ℕ × (List ℕ × List ℕ) → A)
    → Follows (with_files (named b name) (read_bytes file) (read_bytes template) make) make (both (named b name) (both (read_bytes file) (read_bytes template)))
read_two true name (Some x) (Some y) make = refl
read_two true name (Some x) None make = (inl refl, refl)
read_two true name None (Some y) make = (inl refl, refl)
read_two true name None None make = (inl refl, refl)
read_two false name (Some x) (Some y) make = (inl refl, refl)
read_two false name (Some x) None make = (inl refl, refl)
read_two false name None (Some y) make = (inl refl, refl)
read_two false name None None make = (inl refl, refl)

want_two : {A : Type 0} (name : List ℕ) (file template : Option (List ℕ)) (make : List ℕ × (List ℕ × List ℕ) → A)
    → Follows (with_files (Ok name) (read_bytes file) (read_bytes template) make) make (both (Err Memory) (both (read_bytes file) (read_bytes template)))
want_two name (Some x) (Some y) make = (inr refl, tt)
want_two name (Some x) None make = (inl refl, refl)
want_two name None (Some y) make = (inl refl, refl)
want_two name None None make = (inl refl, refl)

two_files : {A : Type 0} (b : Bool) (name : List ℕ) (given : Result (List ℕ) Fault) (file template : Option (List ℕ)) (make : List ℕ × (List ℕ × List ℕ) → A)
    → IsOrWantsMemory given (named b name) → TellsRefusal given (named b name)
    → Follows (with_files (named b name) (read_bytes file) (read_bytes template) make) make (both given (both (read_bytes file) (read_bytes template)))
two_files b name given file template make (inl e) told =
    subst (λ g. Follows (with_files (named b name) (read_bytes file) (read_bytes template) make) make (both g (both (read_bytes file) (read_bytes template)))) (sym e)
    (read_two b name file template make)
two_files true name given file template make (inr e) told =
    subst (λ g. Follows (with_files (Ok name) (read_bytes file) (read_bytes template) make) make (both g (both (read_bytes file) (read_bytes template)))) (sym e)
    (want_two name file template make)
two_files false name given file template make (inr e) told =
    absurd (let no = sym e ∙ told in cc)

-- ---- of a line's contents

content_is : (contents : List (Option (List ℕ))) (place : ℕ) → (content : Option (List ℕ)) × (content_of contents place ≡ read_bytes content)
content_is [] place = (None, refl)
content_is (content ∷ contents) zero = (content, refl)
content_is (content ∷ contents) (suc place) = content_is contents place

-- the file behind the first
pub second_content : {A : Type 0} (contents : List (Option (Vec ℕ A))) → content_of (bytes_of (drop 1 contents)) 0 ≡ content_of (bytes_of contents) 1
second_content [] = refl
second_content (content ∷ contents) = first_content contents
  where
    first_content : {A : Type 0} (contents : List (Option (Vec ℕ A))) → content_of (bytes_of (drop 0 contents)) 0 ≡ content_of (bytes_of contents) 0
    first_content [] = refl
    first_content (content ∷ contents) = refl

-- what follows where a call answered this
pub followed : {P A : Type 0} (expected : Result A Fault) (make : P → A) (whole answer : Result P Fault) → whole ≡ answer → Follows expected make whole
    → Follows expected make answer
followed expected make whole answer is follows = subst (Follows expected make) is follows

pub file_follows : {A : Type 0} (text : List ℕ) (contents : List (Option (List ℕ))) (given : Result (List ℕ) Fault) (make : List ℕ × List ℕ → A)
    → IsOrWantsMemory given (name_of text) → TellsRefusal given (name_of text)
    → Follows (and_then (name_of text) (λ name. and_then (content_of contents 0) (λ file. Ok (make (name, file))))) make (both given (content_of contents 0))
file_follows text contents given make gave told =
    let (file, is) = content_is contents 0 in
    subst (λ r. Follows (with_file (name_of text) r make) make (both given r)) (sym is) (one_file (is_name text) text given file make gave told)

pub files_follow : {A : Type 0} (text : List ℕ) (contents : List (Option (List ℕ))) (given : Result (List ℕ) Fault) (make : List ℕ × (List ℕ × List ℕ) → A)
    → IsOrWantsMemory given (name_of text) → TellsRefusal given (name_of text)
    → Follows (and_then (name_of text) (λ name. and_then (content_of contents 0) (λ file. and_then (content_of contents 1) (λ template. Ok (make (name, (file, template))))))) make
    (both given (both (content_of contents 0) (content_of contents 1)))
files_follow text contents given make gave told =
    let (file, is) = content_is contents 0 in
    let (template, too) = content_is contents 1 in
    subst (λ r. Follows (with_files (name_of text) r (content_of contents 1) make) make (both given (both r (content_of contents 1)))) (sym is)
    (subst (λ r. Follows (with_files (name_of text) (read_bytes file) r make) make (both given (both (read_bytes file) r))) (sym too)
    (two_files (is_name text) text given file template make gave told))
