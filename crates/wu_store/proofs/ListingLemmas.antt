-- Lines are listed one workunit after another.
use Rattle.std.proofs.Common.{◌≡◌, ◌∙◌, List, [], ◌∷◌, ◌++◌, Option, Some, None, ap, append-nil, append_assoc, subst, sym, flat_map}
use Rattle.std.proofs.lemmas.List.Concat.{flat_map-append}
use Rattle.std.proofs.lemmas.List.Elements.{All-head, All-tail}
use Rattle.std.specs.Prelude.{All, slice_get}
use Rattle.sqlite.specs.Effect.{Database}
use Rattle.wu_core.specs.declared.workunit.Workunit.{Workunit}
use Rattle.wu_core.specs.World.{World}
use Rattle.wu_schema.specs.Refines.{Refines}
use Rattle.wu_store.specs.Answers.{first_above}
use Rattle.wu_core.specs.Storable.{AreStorable, IsStorable}
use Rattle.wu_store.proofs.AboveLemmas.{above_next}
use Rattle.wu_store.proofs.DueLemmas.{empty, headed}

-- what is listed is that of the workunits that were seen, and the next one is the first of the rest
pub record AreListed {X : Type 0} (lines_of : Workunit → List X) (world : World) (lines : List X) (next : Option Workunit) : Type 0 where
  pub seen : List Workunit
  pub rest : List Workunit
  pub all : world.workunits ≡ seen ++ rest
  pub next_is : next ≡ slice_get rest 0
  pub lines_are : lines ≡ flat_map lines_of seen

module _ {X : Type 0} (lines_of : Workunit → List X) (world : World) (lines : List X) (w : Workunit) (so_far : AreListed lines_of world lines (Some w)) where
  abbrev after : List Workunit
  after = (headed so_far.rest w so_far.next_is).0

  parts : world.workunits ≡ so_far.seen ++ w ∷ after
  parts = so_far.all ∙ ap (λ ws. so_far.seen ++ ws) (headed so_far.rest w so_far.next_is).1

  -- the next one is in the list, so that it can be read
  pub listed_storable : AreStorable world → IsStorable w
  listed_storable storable = among so_far.seen (subst (λ ws. All IsStorable ws) parts storable)
    where
      among : (before : List Workunit) → All IsStorable (before ++ w ∷ after) → IsStorable w
      among [] all = All-head IsStorable w after all
      among (v ∷ vs) all = among vs (All-tail IsStorable v (vs ++ w ∷ after) all)

  -- with its lines the walk goes on behind it
  pub one_listed : (db : Database) → Refines db world → (grown : List X) → grown ≡ lines ++ lines_of w → (next : Option Workunit) → next ≡ first_above w.number world → AreListed lines_of world grown next
  one_listed db stands grown grows next is = record {
    seen = so_far.seen ++ w ∷ [];
    rest = after;
    all = parts ∙ sym (append_assoc so_far.seen (w ∷ []) after);
    next_is = is ∙ above_next db world stands so_far.seen after w parts;
    lines_are = grows ∙ ap (λ ls. ls ++ lines_of w) so_far.lines_are ∙ ap (λ ls. flat_map lines_of so_far.seen ++ ls) (sym (append-nil (lines_of w))) ∙ sym (flat_map-append lines_of so_far.seen (w ∷ []));
  }

-- where no more are there, all are listed
pub all_listed : {X : Type 0} (lines_of : Workunit → List X) (world : World) (lines : List X) → AreListed lines_of world lines None → lines ≡ flat_map lines_of world.workunits
all_listed lines_of world lines so_far = so_far.lines_are ∙ ap (flat_map lines_of) (sym (so_far.all ∙ ap (λ ws. so_far.seen ++ ws) (empty so_far.rest so_far.next_is) ∙ append-nil so_far.seen))
