-- From round to round of a repeated step, and from step to step of a script.
use Rattle.std.proofs.Common.{◌≡◌, ◌∙◌, ℕ, zero, suc, ◌+◌, ◌-◌, ◌<◌, ◌≤◌, Bool, true, false, if◌then◌else◌, List, [], ◌∷◌, ◌++◌, map, take, replicate, Option, Some, None, refl, sym, ap, subst, arith, append_assoc, append-nil}
use Rattle.std.proofs.lemmas.List.{replicate_more}
use Rattle.sqlite.specs.State.{HasCleanDisk}
use Rattle.sqlite_trees.specs.declared.store.Store.{Ghosts}
use Rattle.wu_core.specs.World.{World}
use Rattle.wu_core.specs.declared.fault.Fault.{Fault}
use Rattle.wu_drive.specs.Counting.{CountsLast, last_handled}
use Rattle.wu_drive.specs.declared.runs.Run.{Run}
use Rattle.wu_machine.specs.declared.command.Command.{Command}
use Rattle.wu_passes.specs.declared.project.Project.{Project}
use Rattle.wu_passes.specs.Projects.{IsSessionOpen, ShowsProject, state_of}
use Rattle.wu_arguments.specs.declared.action.Action.{Action}
use Rattle.wu_arguments.specs.declared.action.Action.TheVariants.{Commands}
use Rattle.wu_arguments.specs.declared.script.Mode.{Mode}
use Rattle.wu_arguments.specs.declared.script.Mode.TheVariants.{Once, Repeated, Tried}
use Rattle.wu_arguments.specs.declared.step.LineFault.{LineFault}
use Rattle.wu_arguments.specs.declared.step.Step.{Step}
use Rattle.wu_cli.specs.Performing.{Performs}
use Rattle.wu_cli.specs.Trying.{PerformsRan, RanStep, step_as}
use Rattle.wu_cli.specs.declared.repeating.TheConstants.{MOST_ROUNDS}
use Rattle.wu_cli.specs.Repeating.{AreRepeated, MayStop, RanAs, commands_of_step, commands_of_steps, fill_limit, is_full, most_rounds, rounds, rounds_of, unrolled, world_behind, world_behind_steps}
use Rattle.wu_cli.specs.Scripting.{line_fault, PerformsEach, PerformsScript, PerformsStep, PerformsSteps, PerformsUntil, TellsFull}
use Rattle.wu_cli.proofs.ActionLemmas.{one_clean, world_both, world_of}
use Rattle.wu_cli.proofs.ScriptLemmas.{commands_both, each_both, each_clean, each_done, each_goes, each_more, each_none, steps_clean, until_both}

-- ---- whether there may be more to do

-- of commands that were all done
pub tells_full : {S : Type 0} {store : Ghosts S} (old new : Project S store) (commands : List Command) (run : Run) (handled : Option ℕ)
    → CountsLast old new commands run handled → (run.end ≡ None → take run.acknowledged commands ≡ commands)
    → TellsFull old new (Commands commands) run.end (fill_limit commands handled)
tells_full old new commands run handled counts all none going clean world shows =
    ap (fill_limit commands) (counts going clean world shows ∙ ap (λ cs. last_handled world cs) (all none))

-- ---- the steps that they come to

steps_behind : (world : World) (xs ys : List RanStep) → world_behind_steps world (xs ++ ys) ≡ world_behind_steps (world_behind_steps world xs) ys
steps_behind world xs ys =
    ap (λ cs. world_of world cs) (commands_both world xs ys) ∙ world_both world (commands_of_steps world xs) (commands_of_steps (world_behind_steps world xs) ys)

unrolled_both : (world : World) (xs ys : List RanStep) → unrolled world (xs ++ ys) ≡ unrolled world xs ++ unrolled (world_behind_steps world (unrolled world xs)) ys
unrolled_both world [] ys = refl
unrolled_both world (x ∷ xs) ys =
    let here = replicate (rounds world x) x in
    let mid = world_behind_steps world here in
    ap (λ l. here ++ l) (unrolled_both mid xs ys ∙ ap (λ w. unrolled mid xs ++ unrolled w ys) (sym (steps_behind world here (unrolled mid xs))))
    ∙ sym (append_assoc here (unrolled mid xs) (unrolled (world_behind_steps world (here ++ unrolled mid xs)) ys))

repeated_both : (xs ys first second : List RanStep) → AreRepeated xs first → AreRepeated ys second → AreRepeated (xs ++ ys) (first ++ second)
repeated_both [] ys first second one two = subst (λ l. AreRepeated ys (l ++ second)) (sym one) two
repeated_both (x ∷ xs) ys first second (times, more, order, some, most, rest) two =
    (times, more ++ second, ap (λ l. l ++ second) order ∙ append_assoc (replicate times x) more second, some, most, repeated_both xs ys more second rest two)

-- a step that is not repeated is done once
one_round : (world : World) (ran : RanStep) → most_rounds ran.step.mode ≡ 1 → rounds world ran ≡ 1
one_round world ran once = ap (rounds_of world ran) once ∙ no_more (is_full world ran.step.action)
  where
    no_more : (full : Bool) → suc (if full then zero else zero) ≡ 1
    no_more true = refl
    no_more false = refl

-- ---- the steps as they ran

abbrev pub unstopped : Step → RanStep
unstopped step = step_as step None

-- a tried step may be stopped
pub may_stop : (step : Step) (stop : Option ℕ) → step.mode ≡ Tried → MayStop step stop
may_stop step None tried = tt
may_stop step (Some count) tried = tried

pub unbegun : (steps : List Step) → RanAs steps (map unstopped steps)
unbegun [] = refl
unbegun (step ∷ steps) = (None, map unstopped steps, refl, tt, unbegun steps)

ran_both : (xs ys : List Step) (first second : List RanStep) → RanAs xs first → RanAs ys second → RanAs (xs ++ ys) (first ++ second)
ran_both [] ys first second one two = subst (λ l. RanAs ys (l ++ second)) (sym one) two
ran_both (x ∷ xs) ys first second (stop, more, order, may, rest) two =
    (stop, more ++ second, ap (λ l. l ++ second) order, may, ran_both xs ys more second rest two)

-- each step may be done once
once_at_most : (mode : Mode) → 1 ≤ most_rounds mode
once_at_most Once = omega arith
once_at_most Repeated = omega arith
once_at_most Tried = omega arith

repeated_self : (steps : List RanStep) → AreRepeated steps steps
repeated_self [] = refl
repeated_self (step ∷ steps) = (1, steps, refl, omega arith, once_at_most step.step.mode, repeated_self steps)

replicate_split : (i more : ℕ) (step : RanStep) → replicate (i + suc more) step ≡ replicate i step ++ step ∷ replicate more step
replicate_split zero more step =
    let same : zero + suc more ≡ suc more = omega arith in
    ap (λ n. replicate n step) same
replicate_split (suc i) more step =
    let next : suc i + suc more ≡ suc (i + suc more) = omega arith in
    ap (λ n. replicate n step) next ∙ ap (λ l. step ∷ l) (replicate_split i more step)

-- ---- round by round

-- how often a step is still to be done behind so many rounds
abbrev pub AreLeft : World → RanStep → ℕ → Type 0
AreLeft world step i =
    rounds world step ≡ i + rounds_of (world_behind_steps world (replicate i step)) step (most_rounds step.step.mode - i)

-- how often behind one round more
abbrev left_behind : World → RanStep → ℕ → ℕ
left_behind world step i =
    let here = world_behind_steps world (replicate i step) in
    if is_full here step.step.action then rounds_of (world_behind here step) step (most_rounds step.step.mode - (i + 1)) else zero

all_left : (world : World) (step : RanStep) → AreLeft world step 0
all_left world step =
    let same : most_rounds step.step.mode ≡ most_rounds step.step.mode - 0 = omega arith in
    let here : rounds world step ≡ rounds_of world step (most_rounds step.step.mode - 0) = ap (λ m. rounds_of world step m) same in
    omega (arith, here)

one_more : (world : World) (step : RanStep) (i : ℕ) → i < most_rounds step.step.mode → AreLeft world step i → rounds world step ≡ i + suc (left_behind world step i)
one_more world step i within left =
    let next : most_rounds step.step.mode - i ≡ suc (most_rounds step.step.mode - (i + 1)) = omega (arith, within) in
    left ∙ ap (λ m. i + rounds_of (world_behind_steps world (replicate i step)) step m) next

next_behind : (world : World) (step : RanStep) (i : ℕ) → world_behind_steps world (replicate (i + 1) step) ≡ world_behind (world_behind_steps world (replicate i step)) step
next_behind world step i =
    ap (λ ss. world_behind_steps world ss) (sym (replicate_more i step)) ∙ steps_behind world (replicate i step) (step ∷ [])
    ∙ ap (λ cs. world_of (world_behind_steps world (replicate i step)) cs) (append-nil (commands_of_step (world_behind_steps world (replicate i step)) step))

left_next : (world : World) (step : RanStep) (i : ℕ) → i < most_rounds step.step.mode → AreLeft world step i → is_full (world_behind_steps world (replicate i step)) step.step.action ≡ true
    → AreLeft world step (i + 1)
left_next world step i within left full =
    let rest : World → ℕ = λ w. rounds_of w step (most_rounds step.step.mode - (i + 1)) in
    let here : rounds world step ≡ i + suc (rest (world_behind_steps world (replicate (i + 1) step))) =
    one_more world step i within left
    ∙ ap (λ b. i + suc (if b then rest (world_behind (world_behind_steps world (replicate i step)) step) else zero)) full
    ∙ ap (λ w. i + suc (rest w)) (sym (next_behind world step i)) in
    omega (arith, here)

left_none : (world : World) (step : RanStep) (i : ℕ) → i < most_rounds step.step.mode → AreLeft world step i → is_full (world_behind_steps world (replicate i step)) step.step.action ≡ false
    → rounds world step ≡ i + 1
left_none world step i within left full =
    let here = world_behind_steps world (replicate i step) in
    one_more world step i within left
    ∙ ap (λ b. i + suc (if b then rounds_of (world_behind here step) step (most_rounds step.step.mode - (i + 1)) else zero)) full

left_out : (world : World) (step : RanStep) (i : ℕ) → most_rounds step.step.mode ≤ i → i ≤ most_rounds step.step.mode → AreLeft world step i → rounds world step ≡ i
left_out world step i all within left =
    let none : most_rounds step.step.mode - i ≡ 0 = omega (arith, all) in
    let here : rounds world step ≡ i + 0 = left ∙ ap (λ m. i + rounds_of (world_behind_steps world (replicate i step)) step m) none in
    omega (arith, here)

-- a repeated step
abbrev pub again : ℕ → Action → RanStep
again number action = record { step = record { number = number; mode = Repeated; action = action }; stop = None }

module _ {S W : Type 0} {store : Ghosts S} (contents : W → Option (List ℕ)) where
  -- so many rounds of a repeated step were done, and each was full
  pub record HasRounds (old mid : Project S store) (out_old out_mid : W) (number : ℕ) (action : Action) (i : ℕ) : Type 0 where
    pub each : PerformsEach contents old mid out_old out_mid (replicate i (again number action))
    pub left :
        IsSessionOpen old → HasCleanDisk (state_of mid) → (world : World) → ShowsProject old world
        → AreLeft world (again number action) i

  pub rounds_none : (old : Project S store) (out_old : W) (number : ℕ) (action : Action) → HasRounds old old out_old out_old number action 0
  rounds_none old out_old number action = record {
    each = each_none contents old out_old;
    left = λ going clean world shows. all_left world (again number action);
  }

  module _ (old mid new : Project S store) (out_old out_mid out_new : W) (number : ℕ) (action : Action) (i : ℕ) (within : i < MOST_ROUNDS) (has : HasRounds old mid out_old out_mid number action i) where
    abbrev step : RanStep
    step = again number action

    few : i + 1 ≤ MOST_ROUNDS
    few = omega (arith, within)

    -- the next round was done
    module _ (does : Performs contents mid new out_mid out_new action None) (told : Bool) (tells : TellsFull mid new action None told) where
      each_here : PerformsEach contents old new out_old out_new (replicate (i + 1) step)
      each_here = subst (λ l. PerformsEach contents old new out_old out_new l) (replicate_more i step)
          (each_more contents old mid new out_old out_mid out_new (replicate i step) step has.each does)

      was_clean : HasCleanDisk (state_of new) → HasCleanDisk (state_of mid)
      was_clean clean = let kept = one_clean contents mid new out_mid out_new action None does in omega (arith, kept, clean)

      told_here : IsSessionOpen old → HasCleanDisk (state_of new) → (world : World) → ShowsProject old world
          → told ≡ is_full (world_behind_steps world (replicate i step)) action
      told_here going clean world shows =
          let done = each_done contents old mid out_old out_mid (replicate i step) has.each going (was_clean clean) world shows in
          tells refl (each_goes contents old mid out_old out_mid (replicate i step) has.each going) clean (world_behind_steps world (replicate i step)) done.2

      pub rounds_more : told ≡ true → HasRounds old new out_old out_new number action (i + 1)
      rounds_more full = record {
        each = each_here;
        left = λ going clean world shows.
            left_next world step i within (has.left going (was_clean clean) world shows) (sym (told_here going clean world shows) ∙ full);
      }

      pub rounds_end : told ≡ false → PerformsStep contents old new out_old out_new step.step None
      rounds_end full = record {
        stop = None;
        may_stop = tt;
        times = i + 1;
        some = omega arith;
        most = few;
        does = each_here;
        over = λ going clean world shows.
            subst (λ n. PerformsEach contents old new out_old out_new (replicate n step))
            (sym (left_none world step i within (has.left going (was_clean clean) world shows) (sym (told_here going clean world shows) ∙ full))) each_here;
      }

    -- it ended with a fault
    pub rounds_cut : (fault : Fault) → Performs contents mid new out_mid out_new action (Some fault) → PerformsStep contents old new out_old out_new step.step (line_fault number (Some fault))
    rounds_cut fault does = record {
      stop = None;
      may_stop = tt;
      times = i + 1;
      some = omega arith;
      most = few;
      does = cut (replicate (i + 1) step) [] (sym (replicate_more i step));
      over = λ going clean world shows.
          let kept = one_clean contents mid new out_mid out_new action (Some fault) does in
          let before : HasCleanDisk (state_of mid) = omega (arith, kept, clean) in
          let left = one_more world step i within (has.left going before world shows) in
          cut (replicate (rounds world step) step) (replicate (left_behind world step i) step)
          (ap (λ n. replicate n step) left ∙ replicate_split i (left_behind world step i) step);
    }
      where
        cut : (ran after : List RanStep) → ran ≡ replicate i step ++ step ∷ after → PerformsUntil contents old new out_old out_new ran (record { number = number; fault = fault })
        cut ran after order = record {
          before = replicate i step;
          last = step;
          after = after;
          order = order;
          number = refl;
          mid = mid;
          out_mid = out_mid;
          each = has.each;
          ends = does;
        }

  -- all rounds were done
  pub rounds_all : (old new : Project S store) (out_old out_new : W) (number : ℕ) (action : Action) (i : ℕ) → MOST_ROUNDS ≤ i → i ≤ MOST_ROUNDS → HasRounds old new out_old out_new number action i
      → PerformsStep contents old new out_old out_new (again number action).step None
  rounds_all old new out_old out_new number action i all within has = record {
    stop = None;
    may_stop = tt;
    times = i;
    some = omega (arith, all);
    most = within;
    does = has.each;
    over = λ going clean world shows.
        subst (λ n. PerformsEach contents old new out_old out_new (replicate n (again number action)))
        (sym (left_out world (again number action) i all within (has.left going clean world shows))) has.each;
  }

  -- ---- a step that is done once

  module _ (old new : Project S store) (out_old out_new : W) where
    steps_once : (ran : RanStep) (end : Option Fault) → PerformsRan contents ran old new out_old out_new end
        → PerformsSteps contents old new out_old out_new (ran ∷ []) (line_fault ran.step.number end)
    steps_once ran None does = each_more contents old old new out_old out_old out_new [] ran (each_none contents old out_old) does
    steps_once ran (Some fault) does = record {
      before = [];
      last = ran;
      after = [];
      order = refl;
      number = refl;
      mid = old;
      out_mid = out_old;
      each = each_none contents old out_old;
      ends = does;
    }

    pub step_once : (ran : RanStep) (end : Option Fault) → MayStop ran.step ran.stop → most_rounds ran.step.mode ≡ 1
        → PerformsRan contents ran old new out_old out_new end → PerformsStep contents old new out_old out_new ran.step (line_fault ran.step.number end)
    step_once ran end may once does = record {
      stop = ran.stop;
      may_stop = may;
      times = 1;
      some = omega arith;
      most = once_at_most ran.step.mode;
      does = steps_once ran end does;
      over = λ going clean world shows.
          subst (λ n. PerformsSteps contents old new out_old out_new (replicate n ran) (line_fault ran.step.number end)) (sym (one_round world ran once)) (steps_once ran end does);
    }

  -- ---- step by step

  pub script_none : (old : Project S store) (out_old : W) → PerformsScript contents old old out_old out_old [] None
  script_none old out_old = record {
    as_ran = [];
    are = refl;
    ran = [];
    repeats = refl;
    does = each_none contents old out_old;
    over = λ going clean world shows. each_none contents old out_old;
  }

  module _ (old mid new : Project S store) (out_old out_mid out_new : W) (front : List Step) (step : Step) (first : PerformsScript contents old mid out_old out_mid front None) where
    -- over a world: the steps so far, and the next one over the world behind them
    next_over : (end : Option LineFault) (next : PerformsStep contents mid new out_mid out_new step end) → (HasCleanDisk (state_of new) → HasCleanDisk (state_of mid))
        → IsSessionOpen old → HasCleanDisk (state_of new) → (world : World) → ShowsProject old world
        → PerformsEach contents old mid out_old out_mid (unrolled world first.as_ran)
        × PerformsSteps contents mid new out_mid out_new (replicate (rounds (world_behind_steps world (unrolled world first.as_ran)) (step_as step next.stop)) (step_as step next.stop)) end
    next_over end next was_clean going clean world shows =
        let before = was_clean clean in
        let one = first.over going before world shows in
        let done = each_done contents old mid out_old out_mid (unrolled world first.as_ran) one going before world shows in
        (one, next.over (each_goes contents old mid out_old out_mid (unrolled world first.as_ran) one going) clean (world_behind_steps world (unrolled world first.as_ran)) done.2)

    pub script_more : PerformsStep contents mid new out_mid out_new step None → PerformsScript contents old new out_old out_new (front ++ step ∷ []) None
    script_more next =
        let last = step_as step next.stop in
        record {
          as_ran = first.as_ran ++ last ∷ [];
          are = ran_both front (step ∷ []) first.as_ran (last ∷ []) first.are (next.stop, [], refl, next.may_stop, refl);
          ran = first.ran ++ replicate next.times last;
          repeats = repeated_both first.as_ran (last ∷ []) first.ran (replicate next.times last) first.repeats (next.times, [], sym (append-nil (replicate next.times last)), next.some, next.most, refl);
          does = each_both contents old mid new out_old out_mid out_new first.ran (replicate next.times last) first.does next.does;
          over = λ going clean world shows.
              let kept = each_clean contents mid new out_mid out_new (replicate next.times last) next.does in
              let (one, two) = next_over None next (λ after. omega (arith, kept, after)) going clean world shows in
              let here = world_behind_steps world (unrolled world first.as_ran) in
              let mine = replicate (rounds here last) last in
              let whole : unrolled world (first.as_ran ++ last ∷ []) ≡ unrolled world first.as_ran ++ mine =
              unrolled_both world first.as_ran (last ∷ []) ∙ ap (λ l. unrolled world first.as_ran ++ l) (append-nil mine) in
              subst (λ l. PerformsEach contents old new out_old out_new l) (sym whole)
              (each_both contents old mid new out_old out_mid out_new (unrolled world first.as_ran) mine one two);
        }

    pub script_cut : (after : List Step) (end : LineFault) → PerformsStep contents mid new out_mid out_new step (Some end) → PerformsScript contents old new out_old out_new (front ++ step ∷ after) (Some end)
    script_cut after end next =
        let last = step_as step next.stop in
        let behind = map unstopped after in
        record {
          as_ran = first.as_ran ++ last ∷ behind;
          are = ran_both front (step ∷ after) first.as_ran (last ∷ behind) first.are (next.stop, behind, refl, next.may_stop, unbegun after);
          ran = first.ran ++ (replicate next.times last ++ behind);
          repeats = repeated_both first.as_ran (last ∷ behind) first.ran (replicate next.times last ++ behind) first.repeats (next.times, behind, refl, next.some, next.most, repeated_self behind);
          does = until_both contents old mid new out_old out_mid out_new first.ran (replicate next.times last) behind end first.does next.does;
          over = λ going clean world shows.
              let (one, two) = next_over (Some end) next was_clean going clean world shows in
              let here = world_behind_steps world (unrolled world first.as_ran) in
              let mine = replicate (rounds here last) last in
              subst (λ l. PerformsUntil contents old new out_old out_new l end) (sym (unrolled_both world first.as_ran (last ∷ behind)))
              (until_both contents old mid new out_old out_mid out_new (unrolled world first.as_ran) mine (unrolled (world_behind_steps here mine) behind) end one two);
        }
      where
        was_clean : HasCleanDisk (state_of new) → HasCleanDisk (state_of mid)
        was_clean clean =
            let kept = steps_clean contents mid new out_mid out_new (replicate next.times (step_as step next.stop)) (Some end) next.does in
            omega (arith, kept, clean)
