-- What a refill leaves of a connection.
use Rattle.std.proofs.Common.{◌≡◌, List, Result, inl, inr, sym, subst, arith, OnOk}
use Rattle.sqlite.specs.Effect.{Database}
use Rattle.sqlite.specs.State.{HasCleanDisk, State, Survives}
use Rattle.sqlite.specs.Tree.{Trees}
use Rattle.sqlite.proofs.StateLemmas.{survives_then}
use Rattle.wu_core.specs.World.{World, empty_world}
use Rattle.wu_schema.specs.Calls.{IsDone, IsMade}
use Rattle.wu_schema.specs.Fresh.{MakesProject}
use Rattle.wu_schema.proofs.CallLemmas.{ok_on}
use Rattle.wu_store.specs.Changing.{MakesWorlds}
use Rattle.wu_store.specs.StandsFor.{StandsFor}
use Rattle.wu_store.specs.declared.changes.Change.{Change}
use Rattle.wu_refill.specs.Making.{IsFreshOrFilled, MakesFilled, MakesOfEmpty}
use Rattle.wu_refill.specs.Refilling.{MakesTheWorld}

-- where more is made, a crash leaves no more than that
survives_as : (old new : State) (P Q : Trees → Type 0) → ((db : Trees) → P db → Q db) → Survives old new P → Survives old new Q
survives_as old new P Q so it = record {
  clean = it.clean;
  shield = it.shield;
  counts = it.counts;
  limit = it.limit;
  closes = it.closes;
  crash = λ clean db may. elim (it.crash clean db may) [ inl before ↦ inl before | inr made ↦ inr (so db made) ];
}

module _ (world : World) (changes given : List Change) (same : given ≡ changes) (makes_it : MakesTheWorld world changes) where
  makes_of_empty : (old new : Database) → MakesWorlds given old new → MakesOfEmpty world old new
  makes_of_empty old new makes =
      let (is, right) = subst (MakesTheWorld world) (sym same) makes_it in
      record {
        stands = λ stands. subst (StandsFor new) is (makes.stands empty_world stands right);
        spares = λ stands. makes.spares empty_world stands right;
      }

  pub done_of_empty : {T E : Type 0} (r : Result T E) (old new : State) → OnOk r (IsDone (MakesWorlds given) old new) → OnOk r (IsDone (MakesOfEmpty world) old new)
  done_of_empty r old new = ok_on r (IsDone (MakesWorlds given) old new) (IsDone (MakesOfEmpty world) old new) (λ done. record {
    was_open = done.was_open;
    is_open = done.is_open;
    makes = makes_of_empty old.now new.now done.makes;
    committed = done.committed;
    left = done.left;
  })

  pub crash_of_empty : (old new : State) → Survives old new (IsMade (MakesWorlds given) old.now) → Survives old new (IsMade (MakesOfEmpty world) old.now)
  crash_of_empty old new = survives_as old new (IsMade (MakesWorlds given) old.now) (IsMade (MakesOfEmpty world) old.now) (λ db made. (made.0, made.1, makes_of_empty old.now made.0 made.2))

-- ---- after a fresh project was made

fresh_stands : (old new : Database) → MakesProject old new → StandsFor new empty_world
fresh_stands old new made = record { refines = made.stands; queue = λ queued. made.queue }

module _ (world : World) (old mid new : State) (fresh : IsDone MakesProject old mid) where
  pub filled_then : {T E : Type 0} (r : Result T E) → OnOk r (IsDone (MakesOfEmpty world) mid new) → OnOk r (IsDone (MakesFilled world) old new)
  filled_then r = ok_on r (IsDone (MakesOfEmpty world) mid new) (IsDone (MakesFilled world) old new) (λ done. record {
    was_open = fresh.was_open;
    is_open = done.is_open;
    makes = record { fresh = mid.now; made = fresh.makes; filled = done.makes; stands = done.makes.stands (fresh_stands old.now mid.now fresh.makes) };
    committed = done.committed;
    left = done.left;
  })

-- a crash leaves what it left before the project was made, or that one, or the filled one
pub crash_then : (world : World) (old mid new : State) → (HasCleanDisk mid → MakesProject old.now mid.now) → Survives old mid (IsMade MakesProject old.now) → Survives mid new (IsMade (MakesOfEmpty world) mid.now)
    → Survives old new (IsMade (IsFreshOrFilled world) old.now)
crash_then world old mid new fresh first next =
    survives_then old mid new (IsMade MakesProject old.now) (IsMade (MakesOfEmpty world) mid.now) (IsMade (IsFreshOrFilled world) old.now)
    (λ clean db made. (made.0, made.1, inl (fresh_stands old.now made.0 made.2)))
    (λ clean db made. (made.0, made.1, inr (made.2.stands (fresh_stands old.now mid.now (fresh (omega (arith, clean, next.clean)))))))
    first next

pub crash_fresh : (world : World) (old new : State) → Survives old new (IsMade MakesProject old.now) → Survives old new (IsMade (IsFreshOrFilled world) old.now)
crash_fresh world old new = survives_as old new (IsMade MakesProject old.now) (IsMade (IsFreshOrFilled world) old.now) (λ db made. (made.0, made.1, inl (fresh_stands old.now made.0 made.2)))
