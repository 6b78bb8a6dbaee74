-- Loops that change each element of a list in place.
use Rattle.std.proofs.Common.{◌≡◌, ℕ, ◌+◌, ◌<◌, List, ◌++◌, map, length, take, drop, get_or, set, arith}
use Rattle.std.proofs.lemmas.List.{take_all, drop_all, append-nil, length-map, length-append, length-drop, length-take, get_or_default}
use Rattle.std.proofs.lemmas.List.Edits.{map_over_more}
use Rattle.wu_core.specs.declared.workunit.Instance.{Instance}
use Rattle.wu_core.specs.Workunit.{overwritten}

-- what is written in place has the list's own length, so it is all of it
pub overwritten-all : (old written : List Instance) → length written ≡ length old → overwritten old written ≡ written
overwritten-all old written e = rw (drop_all (length written) old (omega arith), append-nil written) (take_all (length old) written (omega arith))

-- one more element is changed
pub mapped_more : (f : Instance → Instance) (old now : List Instance) (n : ℕ) (d y : Instance) → n < length old → now ≡ map f (take n old) ++ drop n old → y ≡ f (get_or now n d) → set now n y ≡ map f (take (n + 1) old) ++ drop (n + 1) old
mapped_more f old now n d y lt e made =
    let long : n < length now = rw e (simp (length-append, length-map, length-drop) (omega (arith, length-take n old))) in
    rw made (map_over_more f old now n (get_or now n d) lt e (get_or_default now n d (get_or now n d) long))
