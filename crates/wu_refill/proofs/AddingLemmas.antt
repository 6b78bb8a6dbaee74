-- Changes that are added one after another.
use Rattle.std.proofs.Common.{◌≡◌, ℕ, ◌+◌, ◌<◌, ◌≤◌, List, [], ◌∷◌, ◌++◌, length, map, take, get_or, refl, sym, ap, ◌∙◌, append-nil, append_assoc, arith}
use Rattle.std.proofs.lemmas.List.{map-append, take_more}
use Rattle.std.specs.List.{All}
use Rattle.wu_core.specs.Storable.{AreVerdicts}
use Rattle.wu_core.specs.World.{Import, last_skip}
use Rattle.wu_core.specs.declared.import.ImportKind.{ImportKind}
use Rattle.wu_core.specs.declared.import.ImportKind.TheVariants as kind
use Rattle.wu_core.specs.declared.workunit.Grant.{Grant}
use Rattle.wu_store.specs.Changing.{import_of_change}
use Rattle.wu_store.specs.declared.changes.Change.{Change}
use Rattle.wu_store.specs.declared.changes.Change.TheVariants.{Keep}
use Rattle.wu_store.specs.declared.changes.Import.{Import as Kept}
use Rattle.wu_refill.specs.Refilling.{AddsFirstGrants, AddsKept}

-- one element more
pub taken_more : {X : Type 0} (xs : List X) (i : ℕ) (x : X) → i < length xs → get_or xs i x ≡ x → take i xs ++ x ∷ [] ≡ take (i + 1) xs
taken_more xs i x low there = ap (λ y. take i xs ++ y ∷ []) (sym there) ∙ sym (take_more xs i x low)

-- no import yet
pub none_kept : (changes : List Change) → AddsKept [] changes changes
none_kept changes = record { kept = []; are = refl; changes = sym (append-nil changes) }

-- one import more
pub kept_more : (first changes new : List Change) (imports : List Import) (i : ℕ) (import : Import) (kept : Kept) → i < length imports → get_or imports i import ≡ import
    → AddsKept (take i imports) first changes → import_of_change kept ≡ import → new ≡ changes ++ Keep kept ∷ [] → AddsKept (take (i + 1) imports) first new
kept_more first changes new imports i import kept low there so_far is grown = record {
  kept = so_far.kept ++ kept ∷ [];
  are = map-append import_of_change so_far.kept (kept ∷ []) ∙ (λ j. so_far.are j ++ is j ∷ []) ∙ taken_more imports i import low there;
  changes = grown ∙ ap (λ cs. cs ++ Keep kept ∷ []) so_far.changes ∙ append_assoc first (map Keep so_far.kept) (Keep kept ∷ [])
      ∙ ap (λ cs. first ++ cs) (sym (map-append Keep so_far.kept (kept ∷ [])));
}

-- without grants there is no change
pub no_grants : (grants : List Grant) (changes : List Change) → length grants ≡ 0 → AddsFirstGrants grants changes changes
no_grants [] changes none = record { given = []; keeps = refl; changes = sym (append-nil changes) }
no_grants (g ∷ grants) changes none = absurd (omega (arith, none))

-- each verdict is one digit
pub few_verdicts : (k : ImportKind) (verdicts : List ℕ) → AreVerdicts k verdicts → All (λ verdict. verdict ≤ 9) verdicts
few_verdicts k verdicts are i d low = let it = are i d low in let most : last_skip k ≤ 9 = at_most k in omega (arith, it, most)
  where
    at_most : (k : ImportKind) → last_skip k ≤ 9
    at_most kind.Batch = omega arith
    at_most kind.Sent = omega arith
    at_most kind.Reported = omega arith
    at_most kind.Classes = omega arith
