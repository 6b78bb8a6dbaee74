-- Whether a world is sound does not depend on the order of its imports.
use Rattle.std.proofs.Common.{◌≡◌, ◌∙◌, sym, ap, subst, refl, ℕ, ◌<◌, List, length, get_or, arith, inl, inr}
use Rattle.std.specs.List.{AllPairs, swap}
use Rattle.std.specs.List.Sorted.{IsPermutation}
use Rattle.std.proofs.lemmas.Bool.{cases_eq, cases_order}
use Rattle.std.proofs.lemmas.List.Edits.{length-swap, swapped_from_swap}
use Rattle.std.proofs.lemmas.List.Sorted.{All-permutation, IsPermutation-keeps}
use Rattle.wu_core.specs.World.{World, Import}
use Rattle.wu_machine.specs.Sound.{IsSound}
use Rattle.wu_audit.specs.Keys.{AreOtherImports}
use Rattle.wu_audit.specs.Rows.{IsRightImport}

module _ {X : Type 0} (R : X → X → Type 0) (turned : (x y : X) → R x y → R y x) (l : List X) (a b : ℕ) (in_a : a < length l) (in_b : b < length l) (all : AllPairs R l) where
  -- of any two places
  any_two : (d : X) (m n : ℕ) → m < length l → n < length l → (m ≡ n → ⊥) → R (get_or l m d) (get_or l n d)
  any_two d m n in_m in_n apart = elim (cases_order m n) as (λ _. R (get_or l m d) (get_or l n d)) [
    | inl same ↦ absurd (apart same)
    | inr order ↦ elim order as (λ _. R (get_or l m d) (get_or l n d)) [
      | inl less ↦ all m n d less in_n
      | inr more ↦ turned _ _ (all n m d more in_m)
    ]
  ]

  by_sources : (d : X) (i j m n : ℕ) → get_or (swap l a b) i d ≡ get_or l m d → get_or (swap l a b) j d ≡ get_or l n d
      → m < length l → n < length l → (m ≡ n → ⊥) → R (get_or (swap l a b) i d) (get_or (swap l a b) j d)
  by_sources d i j m n at_i at_j in_m in_n apart =
      subst (λ x. R x (get_or (swap l a b) j d)) (sym at_i) (subst (λ y. R (get_or l m d) y) (sym at_j) (any_two d m n in_m in_n apart))

  any_two_swapped : (d : X) (i j : ℕ) → i < length l → j < length l → (i ≡ j → ⊥) → R (get_or (swap l a b) i d) (get_or (swap l a b) j d)
  any_two_swapped d i j in_i in_j apart =
      let w = swapped_from_swap l (swap l a b) a b d in_a in_b refl in
      elim (cases_eq i a) as (λ _. R (get_or (swap l a b) i d) (get_or (swap l a b) j d)) [
        | inl ia ↦ elim (cases_eq j b) as (λ _. R (get_or (swap l a b) i d) (get_or (swap l a b) j d)) [
          | inl jb ↦ by_sources d i j b a (ap (λ k. get_or (swap l a b) k d) ia ∙ w.0) (ap (λ k. get_or (swap l a b) k d) jb ∙ w.1) in_b in_a (λ e. apart (ia ∙ sym e ∙ sym jb))
          | inr jnb ↦ by_sources d i j b j (ap (λ k. get_or (swap l a b) k d) ia ∙ w.0) (w.2 j (λ e. apart (ia ∙ sym e)) jnb) in_b in_j (λ e. jnb (sym e))
        ]
        | inr ina ↦ elim (cases_eq i b) as (λ _. R (get_or (swap l a b) i d) (get_or (swap l a b) j d)) [
          | inl ib ↦ elim (cases_eq j a) as (λ _. R (get_or (swap l a b) i d) (get_or (swap l a b) j d)) [
            | inl ja ↦ by_sources d i j a b (ap (λ k. get_or (swap l a b) k d) ib ∙ w.1) (ap (λ k. get_or (swap l a b) k d) ja ∙ w.0) in_a in_b (λ e. apart (ib ∙ sym e ∙ sym ja))
            | inr jna ↦ by_sources d i j a j (ap (λ k. get_or (swap l a b) k d) ib ∙ w.1) (w.2 j jna (λ e. apart (ib ∙ sym e))) in_a in_j (λ e. jna (sym e))
          ]
          | inr inb ↦ elim (cases_eq j a) as (λ _. R (get_or (swap l a b) i d) (get_or (swap l a b) j d)) [
            | inl ja ↦ by_sources d i j i b (w.2 i ina inb) (ap (λ k. get_or (swap l a b) k d) ja ∙ w.0) in_i in_b inb
            | inr jna ↦ elim (cases_eq j b) as (λ _. R (get_or (swap l a b) i d) (get_or (swap l a b) j d)) [
              | inl jb ↦ by_sources d i j i a (w.2 i ina inb) (ap (λ k. get_or (swap l a b) k d) jb ∙ w.1) in_i in_a ina
              | inr jnb ↦ by_sources d i j i j (w.2 i ina inb) (w.2 j jna jnb) in_i in_j apart
            ]
          ]
        ]
      ]

  pairs_swapped : AllPairs R (swap l a b)
  pairs_swapped i j d less lt =
      let same : length (swap l a b) ≡ length l = length-swap l a b in
      any_two_swapped d i j (omega (arith, less, lt, same)) (omega (arith, lt, same)) (λ e. omega (arith, less, e))

-- a relation that may be turned holds of each two in any order
pairs_in_any_order : {X : Type 0} (R : X → X → Type 0) → ((x y : X) → R x y → R y x) → (xs ys : List X) → IsPermutation xs ys → AllPairs R xs → AllPairs R ys
pairs_in_any_order R turned xs ys moved all =
    IsPermutation-keeps xs (AllPairs R) all (λ l i j in_i in_j pairs. pairs_swapped R turned l i j in_i in_j pairs) ys moved

pub sound_in_any_order : (world : World) (imports : List Import) → IsPermutation world.imports imports → IsSound world
    → IsSound (record world { imports = imports })
sound_in_any_order world imports moved sound = record {
  next_number = sound.next_number;
  formed = sound.formed;
  storable = sound.storable;
  granted_to = sound.granted_to;
  archivable = sound.archivable;
  imports = All-permutation IsRightImport world.imports imports moved sound.imports;
  consistent = sound.consistent;
  recorded = λ k d lt. record {
    granted = (sound.recorded k d lt).granted;
    own = (sound.recorded k d lt).own;
    archived = (sound.recorded k d lt).archived;
    as_archived = (sound.recorded k d lt).as_archived;
    named = (sound.recorded k d lt).named;
  };
  given = sound.given;
  ascending = sound.ascending;
  names = sound.names;
  archived = sound.archived;
  archived_masks = sound.archived_masks;
  archived_once = sound.archived_once;
  archived_names = sound.archived_names;
  grants = sound.grants;
  granted_once = sound.granted_once;
  imported_once = pairs_in_any_order AreOtherImports (λ x y other kind name. other (sym kind) (sym name)) world.imports imports moved sound.imported_once;
  classed = sound.classed;
  classes_in_order = sound.classes_in_order;
  classes_in_time = sound.classes_in_time;
}
