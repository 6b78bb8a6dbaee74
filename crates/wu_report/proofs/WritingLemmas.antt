-- One write after another.
use Rattle.std.proofs.Common.{◌≡◌, ℕ, zero, ◌+◌, ◌-◌, ◌<◌, List, [], ◌∷◌, ◌++◌, length, take, drop, get_or, flat_map, Option, Result, Ok, Err, refl, sym, ap, arith, subst, ◌∙◌, append_assoc, append-nil, length-append, take-append-drop}
use Rattle.std.proofs.Math.Seq.{take-append-add, take-append_seam}
use Rattle.std.proofs.lemmas.List.{take-append-le, take_rest, take_all, take_more, drop_more}
use Rattle.std.proofs.lemmas.List.Concat.{flat_map-append}
use Rattle.std.proofs.KnownBytes.{Appends-nil, Appends-trans, Appends-kept}
use Rattle.std.specs.Io.KnownBytes.{Appends, Keeps}
use Rattle.std.specs.Result.{IsErr, IsErrAnd}
use Rattle.wu_core.specs.declared.fault.Fault.{Fault}
use Rattle.wu_core.specs.declared.fault.Fault.TheVariants.{Output}
use Rattle.wu_report.specs.Writing.{AppendsFront, IsCut, Prints, WritesBytes}

-- a front of the first part is a front of the whole
pub AppendsFront-longer : (a b : Option (List ℕ)) (xs ys : List ℕ) → AppendsFront a b xs → AppendsFront a b (xs ++ ys)
AppendsFront-longer a b xs ys (count, h) =
    (length (take count xs), subst (Appends a b) (sym (front xs ys count)) h)
  where
    front : (xs ys : List ℕ) (count : ℕ) → take (length (take count xs)) (xs ++ ys) ≡ take count xs
    front xs ys count =
        ap (λ l. take (length (take count xs)) (l ++ ys)) (sym (take-append-drop count xs))
        ∙ ap (take (length (take count xs))) (append_assoc (take count xs) (drop count xs) ys)
        ∙ take-append_seam (take count xs) (drop count xs ++ ys)

-- the whole first part, and then a front of the second
pub AppendsFront-after : (a b c : Option (List ℕ)) (xs ys : List ℕ) → Appends a b xs → AppendsFront b c ys → AppendsFront a c (xs ++ ys)
AppendsFront-after a b c xs ys whole (count, h) =
    (length (xs ++ take count ys), subst (Appends a c) (sym (front xs ys count)) (Appends-trans a b c xs (take count ys) whole h))
  where
    front : (xs ys : List ℕ) (count : ℕ) → take (length (xs ++ take count ys)) (xs ++ ys) ≡ xs ++ take count ys
    front xs ys count =
        ap (λ l. take (length (xs ++ take count ys)) (xs ++ l)) (sym (take-append-drop count ys))
        ∙ ap (take (length (xs ++ take count ys))) (sym (append_assoc xs (take count ys) (drop count ys)))
        ∙ take-append_seam (xs ++ take count ys) (drop count ys)

-- one write, and then another
pub Writes-after : {T E : Type 0} (a b c : Option (List ℕ)) (xs ys : List ℕ) (r : Result T E) → Appends a b xs → WritesBytes b c ys r → WritesBytes a c (xs ++ ys) r
Writes-after a b c xs ys (Ok x) whole h = Appends-trans a b c xs ys whole h
Writes-after a b c xs ys (Err e) whole h = AppendsFront-after a b c xs ys whole h

-- what a writer holds after a part is a front of the whole
pub AppendsFront-part : (a b : Option (List ℕ)) (xs ys : List ℕ) → Appends a b xs → AppendsFront a b (xs ++ ys)
AppendsFront-part a b xs ys h = (length xs, subst (Appends a b) (sym (take-append_seam xs ys)) h)

-- what is kept has nothing more
pub Appends-none : (a b : Option (List ℕ)) → Keeps a b → Appends a b []
Appends-none a b kept = Appends-kept a a b [] (Appends-nil a) kept

-- none was taken
pub Appends-nought : (a b : Option (List ℕ)) (bytes : List ℕ) (n : ℕ) → n ≡ 0 → Appends a b (take n bytes) → Appends a b []
Appends-nought a b bytes n is h = subst (λ m. Appends a b (take m bytes)) is h

-- nothing was written
pub AppendsFront-kept : (a b : Option (List ℕ)) (xs : List ℕ) → Keeps a b → AppendsFront a b xs
AppendsFront-kept a b xs h = (zero, Appends-none a b h)

pub AppendsFront-nothing : (a : Option (List ℕ)) (xs : List ℕ) → AppendsFront a a xs
AppendsFront-nothing a xs = (zero, Appends-nil a)

-- a call that failed after a front
pub Writes-failed : {T E : Type 0} (a b : Option (List ℕ)) (bytes : List ℕ) (r : Result T E) → IsErr r → AppendsFront a b bytes → WritesBytes a b bytes r
Writes-failed a b bytes (Ok x) failed h = cc
Writes-failed a b bytes (Err fault) failed h = h

-- all was written, and a call that writes nothing came after it
pub Writes-kept : {T E : Type 0} (a b c : Option (List ℕ)) (xs : List ℕ) (r : Result T E) → Appends a b xs → Keeps b c → WritesBytes a c xs r
Writes-kept a b c xs (Ok x) whole kept = Appends-kept a b c xs whole kept
Writes-kept a b c xs (Err e) whole kept = (length xs, subst (Appends a c) (sym (take_all (length xs) xs (omega arith))) (Appends-kept a b c xs whole kept))

-- ---- what is cut

-- a part went out, and something is left
pub IsCut-part : (a b c : Option (List ℕ)) (bytes done rest : List ℕ) → bytes ≡ done ++ rest → 0 < length rest → Appends a b done → Appends b c [] → IsCut a c bytes
unfolding IsCut
IsCut-part a b c bytes done rest is left part none =
    let longer : length done < length (done ++ rest) = omega (arith, length-append done rest) in
    let all : take (length done) (done ++ rest) ≡ done ++ [] = take-append_seam done rest ∙ sym (append-nil done) in
    subst (IsCut a c) (sym is) (length done, longer, subst (Appends a c) (sym all) (Appends-trans a b c done [] part none))

-- what is cut is cut with more behind it
pub IsCut-longer : (a b : Option (List ℕ)) (xs ys : List ℕ) → IsCut a b xs → IsCut a b (xs ++ ys)
unfolding IsCut
IsCut-longer a b xs ys (count, less, h) =
    let longer : count < length (xs ++ ys) = omega (arith, length-append xs ys, less) in
    (count, longer, subst (Appends a b) (sym (take-append-le count xs ys (omega (arith, less)))) h)

-- and with more before it
pub IsCut-after : (a b c : Option (List ℕ)) (xs ys : List ℕ) → Appends a b xs → IsCut b c ys → IsCut a c (xs ++ ys)
unfolding IsCut
IsCut-after a b c xs ys whole (count, less, h) =
    let longer : length xs + count < length (xs ++ ys) = omega (arith, length-append xs ys, less) in
    (length xs + count, longer, subst (Appends a c) (sym (take-append-add xs ys count)) (Appends-trans a b c xs (take count ys) whole h))

-- a part is gone from the front of the rest
pub moves_front : (all done rest : List ℕ) (n : ℕ) → all ≡ done ++ rest → all ≡ (done ++ take n rest) ++ take (length rest - n) (drop n rest)
moves_front all done rest n e =
    e ∙ ap (λ l. done ++ l) (sym (take-append-drop n rest)) ∙ sym (append_assoc done (take n rest) (drop n rest)) ∙ ap (λ l. (done ++ take n rest) ++ l) (sym (take_rest rest n))

-- the text of a list is that of what is before a place, that of the place and that of what is after it
pub flat_map_at : {X A : Type 0} (f : X → List A) (xs : List X) (i : ℕ) (x : X) → i < length xs → x ≡ get_or xs i x
    → flat_map f xs ≡ (flat_map f (take i xs) ++ f x) ++ flat_map f (drop (i + 1) xs)
flat_map_at f xs i x within e =
    ap (flat_map f) (sym (take-append-drop i xs)) ∙ flat_map-append f (take i xs) (drop i xs)
    ∙ ap (λ l. flat_map f (take i xs) ++ flat_map f l) (drop_more xs i x within ∙ ap (λ y. y ∷ drop (i + 1) xs) (sym e))
    ∙ sym (append_assoc (flat_map f (take i xs)) (f x) (flat_map f (drop (i + 1) xs)))

-- and up to a place and with it
pub flat_map_next : {X A : Type 0} (f : X → List A) (xs : List X) (i : ℕ) (x : X) → i < length xs → x ≡ get_or xs i x
    → flat_map f (take (i + 1) xs) ≡ flat_map f (take i xs) ++ f x
flat_map_next f xs i x within e =
    ap (flat_map f) (take_more xs i x within ∙ ap (λ y. take i xs ++ y ∷ []) (sym e)) ∙ flat_map-append f (take i xs) (x ∷ [])
    ∙ ap (λ l. flat_map f (take i xs) ++ l) (append-nil (f x))

-- ---- what is printed

module _ {W : Type 0} (contents : W → Option (List ℕ)) where
  -- all of a text was written
  pub prints_all : {T : Type 0} (a b : W) (text : List ℕ) (it : T) → Appends (contents a) (contents b) text → Prints contents a b text (Ok it)
  prints_all a b text it whole = record { bytes = whole; cut = tt; fault = tt }

  -- a text was cut
  pub prints_cut : {T : Type 0} (a b : W) (text : List ℕ) → IsCut (contents a) (contents b) text → Prints {T = T} contents a b text (Err Output)
  unfolding IsCut
  prints_cut a b text (count, less, h) = record { bytes = (count, h); cut = (count, less, h); fault = refl }

  -- a text was written, and then another is printed
  pub prints_after : {T : Type 0} (a b c : W) (xs ys : List ℕ) (r : Result T Fault) → Appends (contents a) (contents b) xs → Prints contents b c ys r → Prints contents a c (xs ++ ys) r
  prints_after a b c xs ys (Ok x) whole it = record { bytes = Appends-trans _ _ _ xs ys whole it.bytes; cut = tt; fault = it.fault }
  prints_after a b c xs ys (Err fault) whole it = record { bytes = AppendsFront-after _ _ _ xs ys whole it.bytes; cut = IsCut-after _ _ _ xs ys whole it.cut; fault = it.fault }

  -- the first part of a text was cut, and its fault is handed on
  pub prints_failed : {T U : Type 0} (a b : W) (xs ys : List ℕ) (fault : Fault) (r : Result U Fault) → IsErrAnd r (λ other. other ≡ fault) → Prints {T = T} contents a b xs (Err fault) → Prints contents a b (xs ++ ys) r
  prints_failed a b xs ys fault (Ok x) same it = absurd same
  prints_failed a b xs ys fault (Err other) same it = record { bytes = AppendsFront-longer _ _ xs ys it.bytes; cut = IsCut-longer _ _ xs ys it.cut; fault = rw same it.fault }

  module _ {X : Type 0} (f : X → List ℕ) (xs : List X) (i : ℕ) (x : X) (within : i < length xs) (at : x ≡ get_or xs i x) (a b c : W) (so_far : Appends (contents a) (contents b) (flat_map f (take i xs))) where
    -- of a list up to a place one more was printed
    pub prints_next : Appends (contents b) (contents c) (f x) → Appends (contents a) (contents c) (flat_map f (take (i + 1) xs))
    prints_next one = subst (Appends _ _) (sym (flat_map_next f xs i x within at)) (Appends-trans _ _ _ (flat_map f (take i xs)) (f x) so_far one)

    -- at a place one of a list was cut, and its fault is handed on
    pub prints_until : {T U : Type 0} (fault : Fault) (r : Result U Fault) → IsErrAnd r (λ other. other ≡ fault) → Prints {T = T} contents b c (f x) (Err fault) → Prints contents a c (flat_map f xs) r
    prints_until fault r same it =
        subst (λ text. Prints contents a c text r) (sym (flat_map_at f xs i x within at))
        (prints_failed a c (flat_map f (take i xs) ++ f x) (flat_map f (drop (i + 1) xs)) fault r same (prints_after a b c (flat_map f (take i xs)) (f x) (Err fault) so_far it))
