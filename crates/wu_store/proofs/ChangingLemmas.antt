-- From change to change inside a transaction, and over its commit.
use Rattle.std.proofs.Common.{◌≡◌, ℕ, ◌+◌, ◌<◌, List, [], ◌∷◌, ◌++◌, length, get_or, take, refl, sym, ap, subst, arith, append-nil, append_assoc, length-append, OnOk, Result, ◌∙◌}
use Rattle.std.proofs.lemmas.List.{take_more}
use Rattle.wu_core.specs.declared.workunit.Archived.{Archived}
use Rattle.wu_core.specs.declared.workunit.Grant.{Grant}
use Rattle.sqlite.specs.Effect.{Database}
use Rattle.wu_core.specs.World.{World}
use Rattle.wu_store.specs.Changes.{IsNextPlace, with_archived}
use Rattle.wu_store.specs.Sums.{AreSums}
use Rattle.wu_store.specs.Changing.{archived_from, AreRight, IsRight, KeepsGrants, made, made_all, MakesWorlds}
use Rattle.wu_store.specs.declared.changes.Change.{Change}
use Rattle.wu_store.specs.StandsFor.{StandsFor}
use Rattle.wu_schema.specs.Others.{SparesOthers}
use Rattle.wu_schema.proofs.CallLemmas.{ok_both}
use Rattle.wu_schema.proofs.OthersLemmas.{others_none, others_then}

made_more : (changes : List Change) (change : Change) (world : World) → made_all (changes ++ change ∷ []) world ≡ made change (made_all changes world)
made_more [] change world = refl
made_more (first ∷ more) change world = made_more more change (made first world)

right_more : (changes : List Change) (change : Change) (world : World) → AreRight (changes ++ change ∷ []) world → AreRight changes world × IsRight change (made_all changes world)
right_more [] change world right = (tt, right.0)
right_more (first ∷ more) change world right = let rest = right_more more change (made first world) right.1 in ((right.0, rest.0), rest.1)

pub makes_none : (db : Database) → MakesWorlds [] db db
makes_none db = record { stands = λ world stands right. stands; spares = λ world stands right. others_none db }

pub makes_more : (changes : List Change) (i : ℕ) (change d : Change) (a b c : Database) → get_or changes i d ≡ change → i < length changes → MakesWorlds (take i changes) a b → MakesWorlds (change ∷ []) b c → MakesWorlds (take (i + 1) changes) a c
makes_more changes i change d a b c there low one two = subst (λ xs. MakesWorlds xs a c) (sym (take_more changes i d low ∙ ap (λ one. take i changes ++ one ∷ []) there)) (record {
  stands = λ world stands right.
      let parts = right_more (take i changes) change world right in
      rw (made_more (take i changes) change world) (two.stands _ (one.stands world stands parts.0) (parts.1, tt));
  spares = λ world stands right.
      let parts = right_more (take i changes) change world right in
      others_then a b c (one.spares world stands parts.0) (two.spares _ (one.stands world stands parts.0) (parts.1, tt));
})

-- one change, by what it makes and by what it spares
pub makes_one : {T E : Type 0} (r : Result T E) (change one : Change) (old new : Database) → change ≡ one → OnOk r ((world : World) → StandsFor old world → AreRight (one ∷ []) world → StandsFor new (made one world))
    → OnOk r ((world : World) → StandsFor old world → AreRight (one ∷ []) world → SparesOthers old new) → OnOk r (MakesWorlds (change ∷ []) old new)
makes_one r change one old new is stands spares = subst (λ it. OnOk r (MakesWorlds (it ∷ []) old new)) (sym is) (ok_both r _ _ _ (λ stands spares. record { stands = stands; spares = spares }) stands spares)

-- ---- grants, and archived rows, at places in a row

next_place : {X : Type 0} (place : ℕ) (xs : List X) (x : X) → IsNextPlace place xs → IsNextPlace (place + 1) (xs ++ x ∷ [])
next_place place xs x next = omega (arith, next, length-append xs (x ∷ []))

pub grants_right : (grants : List Grant) (changes : List Change) (world : World) → KeepsGrants world.grants grants changes → AreRight changes world
grants_right [] changes world none = subst (λ cs. AreRight cs world) (sym none) tt
grants_right (g ∷ grants) changes world (place, next, it) = subst (λ cs. AreRight cs world) (sym it.one) ((next, subst (AreSums it.sums.items) (sym it.are) it.summed), tt)

pub grants_made : (before grants : List Grant) (changes : List Change) (world : World) → KeepsGrants before grants changes → made_all changes world ≡ record world { grants = world.grants ++ grants }
grants_made before [] changes world none = ap (λ cs. made_all cs world) none ∙ (λ i. record world { grants = sym (append-nil world.grants) i })
grants_made before (g ∷ grants) changes world (place, next, it) = ap (λ cs. made_all cs world) it.one ∙ (λ i. record world { grants = world.grants ++ it.are i })

pub archived_right : (place : ℕ) (rows : List Archived) (world : World) → IsNextPlace place world.archived → AreRight (archived_from place rows) world
archived_right place [] world next = tt
archived_right place (a ∷ rows) world next = (next, archived_right (place + 1) rows (with_archived a world) (next_place place world.archived a next))

pub archived_made : (place : ℕ) (rows : List Archived) (world : World) → made_all (archived_from place rows) world ≡ record world { archived = world.archived ++ rows }
archived_made place [] world = λ i. record world { archived = sym (append-nil world.archived) i }
archived_made place (a ∷ rows) world = archived_made (place + 1) rows (with_archived a world) ∙ (λ i. record world { archived = append_assoc world.archived (a ∷ []) rows i })
