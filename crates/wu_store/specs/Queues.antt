-- What each statement makes of the queue, and what is asked about it.
use Rattle.std.specs.Prelude.{◌≡◌, ℕ, ◌==◌, nat_le, Bool, false, not, List, [], ◌∷◌, filter, map, take, Result, Vec, IfOk, if◌then◌else◌}
use Rattle.std.specs.Option.{option_map_or}
use Rattle.std.specs.Ordering.{nat_cmp, match_ordering}
use Rattle.sqlite.specs.Effect.{Database}
use Rattle.sqlite.specs.Held.{Held}
use Rattle.sqlite.specs.Order.{Row}
use Rattle.sqlite.specs.Store.{Ghosts}
use Rattle.wu_core.specs.World.{World}
use Rattle.wu_core.specs.declared.fault.Fault.{Fault}
use Rattle.wu_core.specs.declared.marks.Marks.{Marks}
use Rattle.wu_rules.specs.declared.due.Pass.{Pass}
use Rattle.wu_rules.specs.declared.due.Pass.TheVariants.{Transition, Validate, Assimilate, Delete, Purge}
use Rattle.wu_schema.specs.Faults.{IsStoreFault}
use Rattle.wu_schema.specs.Queue.{HasQueue}
use Rattle.wu_schema.specs.Refines.{Refines}
use Rattle.wu_schema.specs.Stored.{number}
use Rattle.wu_store.specs.declared.texts.TheConstants.{SELECT_TO_ASSIMILATE, SELECT_TO_DELETE, SELECT_TO_PURGE, SELECT_TO_VALIDATE, SELECT_TO_WAKE}
use Rattle.wu_store.specs.Reads.{Reads}

-- The list with this at its place in order of number; it replaces what has its number.
abbrev pub at_place : {X : Type 0} → (X → ℕ) → X → List X → List X
at_place key x [] = x ∷ []
at_place key x (y ∷ ys) = match_ordering (nat_cmp (key y) (key x)) (y ∷ at_place key x ys) (x ∷ ys) (x ∷ y ∷ ys)

-- The queue with the marks of the workunit of this number, at their place.
abbrev pub with_marks : ℕ → Marks → List (ℕ × Marks) → List (ℕ × Marks)
with_marks number marks marked = at_place (λ (p : ℕ × Marks). p.0) (number, marks) marked

-- The queue without the marks of the workunit of this number.
abbrev pub without_marks : ℕ → List (ℕ × Marks) → List (ℕ × Marks)
without_marks number marked = filter (λ (p : ℕ × Marks). not (p.0 == number)) marked

-- The queue with these marks in place of those of the workunit of this number.
abbrev pub with_set_marks : ℕ → Marks → List (ℕ × Marks) → List (ℕ × Marks)
with_set_marks number marks marked = map (λ (p : ℕ × Marks). if p.0 == number then (number, marks) else p) marked

-- A queue beside a world then has the rows that this makes of its rows.
abbrev pub ChangesQueue : (List (ℕ × Marks) → List (ℕ × Marks)) → Database → Database → Type 0
ChangesQueue change old new = (world : World) (marked : List (ℕ × Marks)) → Refines old world → HasQueue old marked → HasQueue new (change marked)

-- A queue beside a world keeps its rows.
abbrev pub KeepsQueue : Database → Database → Type 0
KeepsQueue old new = ChangesQueue (λ marked. marked) old new

-- A world beside a queue stays the same.
abbrev pub KeepsWorld : Database → Database → Type 0
KeepsWorld old new = (world : World) (marked : List (ℕ × Marks)) → Refines old world → HasQueue old marked → Refines new world

-- The rows of the numbers of the workunits whose marks pass, in order, up to the limit.
abbrev pub first_marked : ℕ → (Marks → Bool) → List (ℕ × Marks) → List Row
first_marked limit passes marked = take limit (map (λ (p : ℕ × Marks). number p.0 ∷ []) (filter (λ (p : ℕ × Marks). passes p.1) marked))

-- Whether the transitioner has something to do at this moment.
abbrev pub wakes_by : ℕ → Marks → Bool
wakes_by now marks = option_map_or (λ moment. nat_le moment now) marks.wake false

-- Whether a workunit waits for its purge since this moment, or longer.
abbrev pub waits_since : ℕ → Marks → Bool
waits_since moment marks = option_map_or (λ since. nat_le since moment) marks.purge_from false

-- Whether a workunit is marked for this pass, by this moment if the mark is one.
abbrev pub is_marked : Pass → ℕ → Marks → Bool
is_marked Transition by marks = wakes_by by marks
is_marked Validate by marks = marks.to_validate
is_marked Assimilate by marks = marks.to_assimilate
is_marked Delete by marks = marks.to_delete
is_marked Purge by marks = waits_since by marks

-- The question for the workunits that are marked for this pass.
abbrev pub marked_text : Pass → List ℕ
marked_text Transition = SELECT_TO_WAKE.now
marked_text Validate = SELECT_TO_VALIDATE.now
marked_text Assimilate = SELECT_TO_ASSIMILATE.now
marked_text Delete = SELECT_TO_DELETE.now
marked_text Purge = SELECT_TO_PURGE.now

-- The call only reads, and its answer is what a queue that is there has. Where this holds, the connection is open
-- afterwards, except after `Memory` and `Broken`, and over a queue with no limit on steps `NotAProject` is not returned.
abbrev pub AnswersQueueIf : {S A : Type 0} → Ghosts S → Held S → Held S → Result (Vec Row A) Fault → Type 0 → (List (ℕ × Marks) → List Row) → Type 0
AnswersQueueIf g old new result Asked answer =
    Reads g old new result Asked IsStoreFault HasQueue (λ r marked. IfOk r (λ rows. rows.items ≡ answer marked)) (λ _. Asked)
