-- Lines that are taken one after another.
use Rattle.std.specs.Prelude.{◌≡◌, ◌⊎◌, List, [], ◌∷◌, ◌++◌, false, Result, IfErr, MatchResult}
use Rattle.sqlite.specs.Held.{Held, state}
use Rattle.sqlite.specs.State.{HasCleanDisk}
use Rattle.sqlite.specs.Store.{Ghosts}
use Rattle.wu_core.specs.declared.fault.Fault.{Fault}
use Rattle.wu_core.specs.declared.fault.Fault.TheVariants.{Output}
use Rattle.wu_core.specs.World.{World}
use Rattle.wu_store.specs.Classes.{ForEachClassed, NotRefusedClass}
use Rattle.wu_store.specs.Loading.{Asks, IsStoreFault, ServesUnlessFailed}

-- From the one state to the other, each of these lines is taken, in order.
abbrev pub TakesAll : {K T : Type 0} → (K → K → T → Type 0) → K → K → List T → Type 0
TakesAll {K} {T} Takes old new [] = new ≡ old
TakesAll {K} {T} Takes old new (line ∷ lines) = (next : K) × Takes old next line × TakesAll Takes next new lines

module _ {K T : Type 0} (Takes Refuses : K → K → T → Type 0) where
  -- The taker takes no more at the first of these lines.
  pub record StopsAt (old new : K) (rest : List T) : Type 0 where
    pub line : T
    pub more : List T
    pub next : rest ≡ line ∷ more
    pub refused : Refuses old new line

  -- The first of these lines are taken, up to a fault: the next line is not taken, or a row or the store fails.
  pub record TakesFront (old new : K) (lines : List T) (fault : Fault) : Type 0 where
    pub front : List T
    pub rest : List T
    pub all : lines ≡ front ++ rest
    pub last : K
    pub taken : TakesAll Takes old last front
    pub cause : ((fault ≡ Output) × StopsAt last new rest) ⊎ (IsStoreFault fault × (new ≡ last))

  -- These lines are taken: all of them without a fault, and the first of them with one.
  abbrev pub HandsOver : {R : Type 0} → K → K → List T → Result R Fault → Type 0
  HandsOver old new lines result = MatchResult result (λ _. TakesAll Takes old new lines) (TakesFront old new lines)

  -- Some lines are taken so.
  abbrev pub HandsSome : {R : Type 0} → K → K → Result R Fault → Type 0
  HandsSome old new result = (lines : List T) × HandsOver old new lines result

-- The fault is that the taker takes no more, or one of the store.
abbrev pub IsWalkFault : Fault → Type 0
IsWalkFault fault = (fault ≡ Output) ⊎ IsStoreFault fault

-- All that is known of a walk over a connection, which hands the lines of a view to their taker.
pub record Walked {S T K R : Type 0} (g : Ghosts S) (lines_of : World → List T) (IsReadable : World → Type 0) (Takes Refuses : K → K → T → Type 0) (old new : Held S) (first last : K) (result : Result R Fault) : Type 0 where
  -- The walk only asks questions.
  pub asks : Asks g old new result
  pub opens : ServesUnlessFailed g new result
  pub fault : IfErr result IsWalkFault
  -- What it hands on are lines, one after another.
  pub hands : HandsSome Takes Refuses first last result
  -- They are the lines of each world with classes that the tables represent.
  pub lines : ForEachClassed g old new (λ world. HandsOver Takes Refuses first last (lines_of world) result)
  -- Over a closed connection nothing is handed on.
  pub shut : HasCleanDisk (state g new) → (state g old).is_open ≡ false → last ≡ first
  -- If the lines of such a world can be read, no row is refused.
  pub unrefused : NotRefusedClass g old new result IsReadable
