-- Two slices, of which the first is to be the second under a function.
use Rattle.std.proofs.Common.{◌≡◌, List, ap, map, subst}
use Rattle.std.proofs.iter.Yields.{fronts}
use Rattle.std.proofs.lemmas.Iterator.{YieldsList}
use Rattle.std.proofs.lemmas.List.{length-map}
use Rattle.std.proofs.lemmas.Iterator.Consumers.{YieldsList-from_shown}
use Rattle.std.specs.declared.slice.Iter.{Iter}
use Rattle.std.specs.Slice.Iter.{iter_rest}

-- what is left of a slice, by what a function makes of it
pub yields_mapped : {A B : Type 0} (f : A → B) {s : Iter A} (xs : List A) → iter_rest s ≡ xs → YieldsList fronts (λ y. f y.now) s (map f xs)
yields_mapped f {s} xs e = subst (YieldsList fronts (λ y. f y.now) s) (ap (map f) e) (YieldsList-from_shown fronts (λ y. f y.now) (λ t. map f (iter_rest t)) (λ t u h. rw length-map h.0) (λ t x u h. ap (map f) h) s)
