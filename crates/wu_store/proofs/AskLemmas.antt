-- A SELECT of ours, whole: what it does to the connection, what it answers, and that it is not refused.
use Rattle.wu_schema.proofs.AskingLemmas.{asks_now}
use Rattle.wu_schema.proofs.Words.{ap, Bool, Database, Err, Error, FailsToQuery, Fault, Ghosts, HasCleanDisk, Held, IfErr, IsErrAnd, IsFailure, IsSome, IsTrue, List, None, NotAProject, Ok, Option, Result, Row, Shown, Some, Refines, State, Vec, World, [], arith, fault_of, inl, inr, length, not, option_to_list, refl, state, subst, sym, ℕ, ⊤, ◌++◌, ◌<◌, ◌==◌, ◌∙◌, ◌∷◌, ◌≡◌, ◌≢◌, ◌⊎◌, ◌^◌, ◌≤◌}
use Rattle.std.specs.Prelude.{IfOk, MatchResult}
use Rattle.wu_schema.specs.Asking.{Asks, FailsAll, IsSelect, ServesUnlessFailed, ShowsAll, TellsQuery}
use Rattle.wu_schema.proofs.ReadLemmas.{if_ok, if_err}
use Rattle.wu_schema.proofs.SelectLemmas.{Asked, Fits, IsTyped, parsed_of, select_of}
use Rattle.wu_schema.proofs.ToldLemmas.{asked_told}
use Rattle.wu_schema.proofs.Parts.{parts_there}
use Rattle.wu_schema.specs.declared.table.ProjectTable.{ProjectTable}
use Rattle.wu_schema.specs.ProjectTables.{IsTableOf, table_at, table_name}
use Rattle.wu_core.specs.declared.fault.Fault.TheVariants.{Broken, Memory}
pub use Rattle.wu_schema.proofs.AskingLemmas.{asks_fault, asks_made, asks_none, asks_stands, asks_then}
use Rattle.wu_store.specs.Answers.{ShowsLast}
use Rattle.wu_store.specs.Loading.{IsStoreFault, StaysUnlessFailed}
use Rattle.wu_store.specs.Reads.{Reads, WithClasses}
use Rattle.wu_store.specs.StandsFor.{KnowsClasses}
use Rattle.wu_schema.specs.Reading.{IsReadFault}

-- a failure is no refusal
pub never_refused : (fault : Fault) → IsFailure fault → fault ≢ NotAProject
never_refused fault (inl memory) refused = cc
never_refused fault (inr broken) refused = cc

-- what a question does and answers, and that it is not refused
abbrev pub HasAsked : {S T : Type 0} → Ghosts S → Held S → Held S → Result T Fault → (Database → World → Type 0) → (T → World → Type 0) → Type 0
HasAsked g old new result Over Is = Reads g old new result ⊤ IsStoreFault Over (λ r world. IfOk r (λ x. Is x world)) (λ _. ⊤)

-- what is taken from the end of at most one
pub only_taken : {X : Type 0} (found rest : List X) (o taken : Option X) → found ≡ option_to_list o → found ≡ rest ++ option_to_list taken → (0 < length found → IsSome taken) → taken ≡ o
only_taken found rest None None is parts some = refl
only_taken found [] None (Some y) is parts some = absurd (let e = sym is ∙ parts in cc)
only_taken found (x ∷ rest) None (Some y) is parts some = absurd (let e = sym is ∙ parts in cc)
only_taken found rest (Some x) None is parts some = absurd (let no = some (rw is (omega arith)) in cc)
only_taken found [] (Some x) (Some y) is parts some = let e = sym is ∙ parts in cc
only_taken found (z ∷ []) (Some x) (Some y) is parts some = absurd (let e = sym is ∙ parts in cc)
only_taken found (z ∷ y2 ∷ rest) (Some x) (Some y) is parts some = absurd (let e = sym is ∙ parts in cc)

-- what `?` hands on is the fault
pub handed_is : {U : Type 0} (r : Result U Fault) (fault : Fault) → IsErrAnd r (λ other. other ≡ fault) → r ≡ Err fault
handed_is (Ok y) fault same = absurd same
handed_is (Err other) fault same = ap (λ f. Err f) same

-- ---- a fault that `?` hands on

pub handed_on : {U : Type 0} (r : Result U Fault) (fault : Fault) → IsErrAnd r (λ other. other ≡ fault) → fault ≢ NotAProject → IfErr r (λ other. other ≢ NotAProject)
handed_on r fault same never = subst (λ q. IfErr q (λ other. other ≢ NotAProject)) (sym (handed_is r fault same)) never

pub asks_handed : {S T U : Type 0} (g : Ghosts S) (old new : Held S) (r : Result U Fault) (fault : Fault) → IsErrAnd r (λ other. other ≡ fault) → Asks {T = T} g old new (Err fault) → Asks g old new r
asks_handed {S} {T} {U} g old new r fault same it = subst (λ q. Asks {T = U} g old new q) (sym (handed_is r fault same)) (asks_fault {T = T} {U = U} g old new fault it)

-- ---- whether the connection is open

-- an open connection is open after an answer
pub still_open : {S T : Type 0} (g : Ghosts S) (old new : Held S) (x : T) → Asks g old new (Ok x) → HasCleanDisk (state g new) → IsTrue (state g old).is_open → IsTrue (state g new).is_open
still_open g old new x it clean was = elim (it.answered clean) [ inl same ↦ subst (λ h. IsTrue (state g h).is_open) (sym same) was | inr same ↦ same.0.is_open ]

-- so it is after each fault but want of memory or of the disk
pub stays_asked : {S T : Type 0} (g : Ghosts S) (old new : Held S) (r : Result T Fault) → Asks g old new r → StaysUnlessFailed g old new r
stays_asked g old new (Ok x) it was clean = still_open g old new x it clean was
stays_asked g old new (Err fault) it was clean = elim (it.refused clean) [
  | inl failed ↦ inl failed
  | inr (inl same) ↦ inr (subst (λ h. IsTrue (state g h).is_open) (sym same) was)
  | inr (inr same) ↦ inr same.0.is_open
]

-- the connection is open after what was asked then, too
pub opens_then : {S U : Type 0} (g : Ghosts S) (mid new : Held S) → (HasCleanDisk (state g mid) → IsTrue (state g mid).is_open) → (r : Result U Fault) → Asks g mid new r → ServesUnlessFailed g new r
opens_then g mid new opens r asks clean = stays_asked g mid new r asks (opens (omega (arith, asks.crash.clean))) clean

-- and after what is made of an answer
pub opens_made : {S U : Type 0} (g : Ghosts S) (new : Held S) (r : Result U Fault) → (HasCleanDisk (state g new) → IsTrue (state g new).is_open) → ServesUnlessFailed g new r
opens_made {S} {U} g new r opens clean = go r (opens clean)
  where
    go : (r : Result U Fault) → IsTrue (state g new).is_open → MatchResult r (λ y. IsTrue (state g new).is_open) (λ fault. IsFailure fault ⊎ IsTrue (state g new).is_open)
    go (Ok y) is_open = is_open
    go (Err fault) is_open = inr is_open

-- ---- what is said of calls that read, one after another

-- before anything is asked
pub reads_none : {S T W : Type 0} (g : Ghosts S) (old : Held S) {Once : Type 0} {Told : Fault → Type 0} {Over : Database → W → Type 0} {Finds : Result T Fault → W → Type 0} {Can : W → Type 0} (x : T) → (Once → ⊥) → ((world : W) → Over (state g old).now world → Finds (Ok x) world)
    → Reads g old old (Ok x) Once Told Over Finds Can
reads_none g old x none finds = record { asks = asks_none g old (Ok x) (λ is. absurd cc); opens = λ asked. absurd (none asked); fault = tt; found = λ clean world stood. finds world stood; unrefused = λ clean world stood can limit. tt }

-- a question whose fault `?` hands on, with what it found
pub reads_err : {S T U W : Type 0} (g : Ghosts S) (old new : Held S) {Once : Type 0} {Told : Fault → Type 0} {Over : Database → W → Type 0} {Finds : Result T Fault → W → Type 0} {Can : W → Type 0} {Then : Result U Fault → W → Type 0} {May : W → Type 0} (r : Result U Fault) (fault : Fault) → IsErrAnd r (λ other. other ≡ fault)
    → Reads g old new (Err fault) Once Told Over Finds Can → ((world : W) → Over (state g old).now world → Finds (Err fault) world → Then (Err fault) world) → ((world : W) → Over (state g old).now world → May world → Can world)
    → Reads g old new r Once Told Over Then May
reads_err {U = U} g old new {Once} {Told} {Over} {Then = Then} {May} r fault same it then can = subst (λ q. Reads {T = U} g old new q Once Told Over Then May) (sym (handed_is r fault same)) (record {
  asks = asks_fault g old new fault it.asks;
  opens = it.opens;
  fault = it.fault;
  found = λ clean world stood. then world stood (it.found clean world stood);
  unrefused = λ clean world stood may limit. it.unrefused clean world stood (can world stood may) limit;
})

-- and whatever it found
pub reads_handed : {S T U W : Type 0} (g : Ghosts S) (old new : Held S) {Once : Type 0} {Told : Fault → Type 0} {Over : Database → W → Type 0} {Finds : Result T Fault → W → Type 0} {Can : W → Type 0} {Then : Result U Fault → W → Type 0} {May : W → Type 0} (r : Result U Fault) (fault : Fault) → IsErrAnd r (λ other. other ≡ fault)
    → Reads g old new (Err fault) Once Told Over Finds Can → ((other : Fault) → Told other → (world : W) → Then (Err other) world) → ((world : W) → Over (state g old).now world → May world → Can world)
    → Reads g old new r Once Told Over Then May
reads_handed g old new r fault same it then can = reads_err g old new r fault same it (λ world stood found. then fault it.fault world) can

-- where it is known otherwise that the connection is open
pub reads_opens : {S T W : Type 0} {g : Ghosts S} {old new : Held S} {r : Result T Fault} {Was Once : Type 0} {Told : Fault → Type 0} {Over : Database → W → Type 0} {Finds : Result T Fault → W → Type 0} {Can : W → Type 0} → (Once → ServesUnlessFailed g new r)
    → Reads g old new r Was Told Over Finds Can → Reads g old new r Once Told Over Finds Can
reads_opens opens it = record { asks = it.asks; opens = opens; fault = it.fault; found = it.found; unrefused = it.unrefused }

-- where this too means that something is asked
pub reads_if : {S T W : Type 0} {g : Ghosts S} {old new : Held S} {r : Result T Fault} {Was Once : Type 0} {Told : Fault → Type 0} {Over : Database → W → Type 0} {Finds : Result T Fault → W → Type 0} {Can : W → Type 0} → (Once → Was)
    → Reads g old new r Was Told Over Finds Can → Reads g old new r Once Told Over Finds Can
reads_if was it = reads_opens (λ asked. it.opens (was asked)) it

-- what is said over what stands for another
pub reads_of : {S T V W : Type 0} {g : Ghosts S} {old new : Held S} {r : Result T Fault} {Once : Type 0} {Told : Fault → Type 0} {Over : Database → V → Type 0} {Was : Database → W → Type 0} {Finds : Result T Fault → V → Type 0} {Can : V → Type 0} (of : W → V) → ((db : Database) (world : W) → Was db world → Over db (of world))
    → Reads g old new r Once Told Over Finds Can → Reads g old new r Once Told Was (λ r world. Finds r (of world)) (λ world. Can (of world))
reads_of of over it = record {
  asks = it.asks;
  opens = it.opens;
  fault = it.fault;
  found = λ clean world was. it.found clean (of world) (over _ world was);
  unrefused = λ clean world was can limit. it.unrefused clean (of world) (over _ world was) can limit;
}

-- what is said over more worlds
pub reads_over : {S T W : Type 0} {g : Ghosts S} {old new : Held S} {r : Result T Fault} {Once : Type 0} {Told : Fault → Type 0} {Over Was : Database → W → Type 0} {Finds : Result T Fault → W → Type 0} {Can : W → Type 0} → ((db : Database) (world : W) → Was db world → Over db world)
    → Reads g old new r Once Told Over Finds Can → Reads g old new r Once Told Was Finds Can
reads_over over it = reads_of (λ world. world) over it

-- what is said of worlds with classes
pub reads_known : {S T : Type 0} {g : Ghosts S} {old new : Held S} {r : Result T Fault} {Once : Type 0} {Told : Fault → Type 0} {Finds : Result T Fault → World → Type 0} {Can : World → Type 0} → Reads g old new r Once Told WithClasses Finds Can
    → Reads g old new r Once Told Refines (λ r world. KnowsClasses world → Finds r world) (λ world. KnowsClasses world × Can world)
reads_known it = record { asks = it.asks; opens = it.opens; fault = it.fault; found = λ clean world stands known. it.found clean world (known, stands); unrefused = λ clean world stands can. it.unrefused clean world (can.0, stands) can.1 }

-- of fewer worlds that can be read
pub reads_can : {S T W : Type 0} {g : Ghosts S} {old new : Held S} {r : Result T Fault} {Once : Type 0} {Told : Fault → Type 0} {Over : Database → W → Type 0} {Finds : Result T Fault → W → Type 0} {Can May : W → Type 0} → ((world : W) → Over (state g old).now world → May world → Can world)
    → Reads g old new r Once Told Over Finds Can → Reads g old new r Once Told Over Finds May
reads_can can it = record { asks = it.asks; opens = it.opens; fault = it.fault; found = it.found; unrefused = λ clean world stood may limit. it.unrefused clean world stood (can world stood may) limit }

-- what follows from what is found
pub reads_found : {S T W : Type 0} {g : Ghosts S} {old new : Held S} {r : Result T Fault} {Once : Type 0} {Told : Fault → Type 0} {Over : Database → W → Type 0} {Finds Then : Result T Fault → W → Type 0} {Can : W → Type 0} → ((world : W) → Over (state g old).now world → Finds r world → Then r world)
    → Reads g old new r Once Told Over Finds Can → Reads g old new r Once Told Over Then Can
reads_found then it = record { asks = it.asks; opens = it.opens; fault = it.fault; found = λ clean world stood. then world stood (it.found clean world stood); unrefused = it.unrefused }

-- and what is said of more faults
pub reads_told : {S T W : Type 0} {g : Ghosts S} {old new : Held S} {r : Result T Fault} {Once : Type 0} {Told Also : Fault → Type 0} {Over : Database → W → Type 0} {Finds : Result T Fault → W → Type 0} {Can : W → Type 0} → ((fault : Fault) → Told fault → Also fault) → Reads g old new r Once Told Over Finds Can
    → Reads g old new r Once Also Over Finds Can
reads_told also it = record { asks = it.asks; opens = it.opens; fault = if_err _ _ _ also it.fault; found = it.found; unrefused = it.unrefused }

-- what is made of an answer with no further question
pub reads_made : {S T U W : Type 0} (g : Ghosts S) (old new : Held S) {Once : Type 0} {Told : Fault → Type 0} {Over : Database → W → Type 0} {Finds : Result T Fault → W → Type 0} {Can : W → Type 0} {Then : Result U Fault → W → Type 0} {May : W → Type 0} (x : T) (y : U)
    → Reads g old new (Ok x) Once Told Over Finds Can → ((world : W) → Over (state g old).now world → Finds (Ok x) world → Then (Ok y) world) → Reads g old new (Ok y) Once Told Over Then May
reads_made g old new x y it then = record {
  asks = asks_made g old new x (Ok y) (λ is. absurd cc) it.asks;
  opens = it.opens;
  fault = tt;
  found = λ clean world stood. then world stood (it.found clean world stood);
  unrefused = λ clean world stood may limit. tt;
}

-- what a call that asks nothing makes of an answer, where it fails for a cause of its own
pub reads_also : {S T U W : Type 0} (g : Ghosts S) (old new : Held S) {Once : Type 0} {Told Also : Fault → Type 0} {Over : Database → W → Type 0} {Finds : Result T Fault → W → Type 0} {Can : W → Type 0} {Then : Result U Fault → W → Type 0} {May : W → Type 0} (x : T) (r : Result U Fault) → r ≢ Err Broken → IfErr r Also
    → Reads g old new (Ok x) Once Told Over Finds Can → ((world : W) → Over (state g old).now world → Finds (Ok x) world → Then r world) → ((world : W) → Over (state g old).now world → Finds (Ok x) world → May world → IfErr r (λ fault. fault ≢ NotAProject))
    → Reads g old new r Once Also Over Then May
reads_also g old new x r unbroken also it then unrefused = record {
  asks = asks_made g old new x r unbroken it.asks;
  opens = λ asked. opens_made g new r (it.opens asked);
  fault = also;
  found = λ clean world stood. then world stood (it.found clean world stood);
  unrefused = λ clean world stood may limit. unrefused world stood (it.found clean world stood) may;
}

-- a call behind one that was answered, which found this
module _ {S T U W : Type 0} (g : Ghosts S) (old mid new : Held S) {Once : Type 0} {Told : Fault → Type 0} {Over : Database → W → Type 0} {Found : Result T Fault → W → Type 0} {Could : W → Type 0} (x : T) (first : Reads g old mid (Ok x) Once Told Over Found Could) where
  module _ (r : Result U Fault) {More : Type 0} {Finds : Result U Fault → W → Type 0} {Can : W → Type 0} (next : Reads g mid new r More Told Over Finds Can) where
    between : HasCleanDisk (state g new) → HasCleanDisk (state g mid)
    between clean = omega (arith, next.asks.crash.clean)

    still : HasCleanDisk (state g new) → (world : W) → Over (state g old).now world → Over (state g mid).now world
    still clean world stood = subst (λ (db : Database). Over db world) (sym (asks_now g old mid x first.asks (between clean))) stood

    pub reads_then : {Then : Result U Fault → W → Type 0} {May : W → Type 0} → ((world : W) → Over (state g old).now world → Found (Ok x) world → Finds r world → Then r world) → ((world : W) → Over (state g old).now world → Found (Ok x) world → May world → Can world)
        → Reads g old new r Once Told Over Then May
    reads_then then can = record {
      asks = asks_then g old mid new x first.asks r next.asks;
      opens = λ asked. opens_then g mid new (first.opens asked) r next.asks;
      fault = next.fault;
      found = λ clean world stood. then world stood (first.found (between clean) world stood) (next.found clean world (still clean world stood));
      unrefused = λ clean world stood may limit. next.unrefused clean world (still clean world stood) (can world stood (first.found (between clean) world stood) may) (first.asks.crash.limit ∙ limit);
    }

  -- and where `?` hands its fault on
  pub reads_then_handed : (r : Result U Fault) (fault : Fault) → IsErrAnd r (λ other. other ≡ fault) → {V More : Type 0} {Finds : Result V Fault → W → Type 0} {Can : W → Type 0} {Then : Result U Fault → W → Type 0} {May : W → Type 0} → Reads g mid new (Err fault) More Told Over Finds Can
      → ((other : Fault) → Told other → (world : W) → Then (Err other) world) → ((world : W) → Over (state g old).now world → Found (Ok x) world → May world → Can world) → Reads g old new r Once Told Over Then May
  reads_then_handed r fault same {Can = Can} {Then} next then can = reads_then r (reads_handed g mid new {Then = Then} {May = Can} r fault same next then (λ world stood it. it)) (λ world stood one two. two) can

  -- both were answered
  pub reads_both : (y : U) {More : Type 0} {Finds : Result U Fault → W → Type 0} {Can : W → Type 0} → Reads g mid new (Ok y) More Told Over Finds Can → Reads g old new (Ok y) Once Told Over (λ _ world. Found (Ok x) world × Finds (Ok y) world) (λ _. ⊤)
  reads_both y next = record {
    asks = asks_then g old mid new x first.asks (Ok y) next.asks;
    opens = λ asked. opens_then g mid new (first.opens asked) (Ok y) next.asks;
    fault = tt;
    found = λ clean world stood. (first.found (between (Ok y) next clean) world stood, next.found clean world (still (Ok y) next clean world stood));
    unrefused = λ clean world stood any limit. tt;
  }

-- a SELECT with these parameters, which only memory, the disk or size may fail where the tables stand so
pub record IsQuestion (text : List ℕ) (params : Row) (Over : Database → World → Type 0) : Type 1 where
  pub select : IsSelect text
  pub told : (old new : State) (e : Error) → FailsToQuery text params old new e → (world : World) → Over old.now world → old.step_limit ≡ None → IsFailure (fault_of e)

-- one that fits its table
module _ (p : ProjectTable) (q : Asked) (fits : (tree : ℕ) → Fits (table_name p) (table_at p tree) q) (params : Row) (few : length params ≡ length q.parameters) (typed : (tree : ℕ) → IsTyped (table_name p) (table_at p tree) q params) where
  pub question_over : (Over : Database → World → Type 0) → ((db : Database) (world : World) → Over db world → Refines db world × IsTableOf p world.version) → IsQuestion q.text params Over
  question_over Over there = record {
    select = record { parsed = parsed_of (table_name p) (table_at p 0) q; select = select_of (table_name p) (table_at p 0) q; read = (fits 0).read; is = refl };
    told = λ old new e h world stood unlimited.
        let (s, is_in) = there old.now world stood in
        let has = parts_there old.now world s p is_in in
        asked_told (table_name p) has.0 _ q (fits _) old new has.1 params e few (typed _) unlimited h;
  }

pub question : (p : ProjectTable) → ((version : ℕ) → IsTableOf p version) → (q : Asked) → ((tree : ℕ) → Fits (table_name p) (table_at p tree) q) → (params : Row) → length params ≡ length q.parameters → ((tree : ℕ) → IsTyped (table_name p) (table_at p tree) q params) → IsQuestion q.text params Refines
question p in_p q fits params few typed = question_over p q fits params few typed Refines (λ db world s. (s, in_p world.version))

module _ {S : Type 0} {text : List ℕ} {params : Row} {Over : Database → World → Type 0} (g : Ghosts S) (it : IsQuestion text params Over) (old new : Held S) (given : Row) (same : given ≡ params) where
  abbrev before : State
  before = state g old

  abbrev after : State
  after = state g new

  pub never_told : (fault : Fault) → TellsQuery text given before after fault → (world : World) → Over before.now world → before.step_limit ≡ None → fault ≢ NotAProject
  never_told fault h world s limit is =
      never_refused (fault_of h.0) (it.told before after h.0 (subst (λ ps. FailsToQuery text ps before after h.0) same h.2) world s limit) (sym h.1 ∙ is)

  -- all its rows
  pub asked_all : {A : Type 0} (Is : List Row → World → Type 0) → ((rows : List Row) → Shown text params before after rows → (world : World) → Over before.now world → Is rows world) → (r : Result (Vec Row A) Fault)
      → (IsSelect text → Asks g old new r) → (IsSelect text → ServesUnlessFailed g new r) → ShowsAll g old new r text given → FailsAll g old new r text given → IfErr r IsStoreFault → HasAsked g old new r Over (λ rows. Is rows.items)
  asked_all Is found r asks opens shows fails told = record {
    asks = asks it.select;
    opens = λ asked. opens it.select;
    fault = told;
    found = λ clean world s. if_ok r _ _ (λ rows h. found rows.items (subst (λ ps. Shown text ps before after rows.items) same h) world s) (shows clean);
    unrefused = λ clean world s any limit. if_err r _ _ (λ fault h. never_told fault h world s limit) (fails clean);
  }

  -- whether there is a row
  pub asked_any : {A : Type 0} (any : World → Bool) → ((rows : List Row) → Shown text params before after rows → (world : World) → Over before.now world → not (length rows == 0) ≡ any world)
      → (rows : Vec Row A) → (IsSelect text → Asks g old new (Ok rows)) → (IsSelect text → ServesUnlessFailed g new (Ok rows)) → ShowsAll g old new (Ok rows) text given → (found : Bool) → found ≡ not (length rows.items == 0) → HasAsked g old new (Ok found) Over (λ it world. it ≡ any world)
  asked_any any answer rows asks opens shows found is =
      reads_made g old new rows found (asked_all (λ rows world. not (length rows == 0) ≡ any world) answer (Ok rows) asks opens shows (λ clean. tt) tt) (λ world stood h. is ∙ h)

  -- the fault of one
  pub any_err : {A T : Type 0} (answer : World → T) (fault : Fault) → (IsSelect text → Asks {T = Vec Row A} g old new (Err fault)) → (IsSelect text → ServesUnlessFailed {T = Vec Row A} g new (Err fault)) → FailsAll {T = Vec Row A} g old new (Err fault) text given → IsStoreFault fault
      → (r : Result T Fault) → IsErrAnd r (λ other. other ≡ fault) → HasAsked g old new r Over (λ it world. it ≡ answer world)
  any_err {A} answer fault asks opens fails told r is =
      reads_handed g old new r fault is (asked_all {A = A} (λ rows world. ⊤) (λ rows h world s. tt) (Err fault) asks opens (λ clean. tt) fails told) (λ other told world. tt) (λ world stood any. tt)

  -- the one row, where there is one
  pub asked_row : (row : World → Option Row) → ((rows : List Row) → Shown text params before after rows → (world : World) → Over before.now world → rows ≡ option_to_list (row world)) → (r : Result (Option Row) Fault)
      → (IsSelect text → Asks g old new r) → (IsSelect text → ServesUnlessFailed g new r) → ShowsLast g old new r text given → FailsAll g old new r text given → IfErr r IsStoreFault → HasAsked g old new r Over (λ it world. it ≡ row world)
  asked_row row found r asks opens shows fails told = record {
    asks = asks it.select;
    opens = λ asked. opens it.select;
    fault = told;
    found = λ clean world s. if_ok r _ _ (λ taken h. only_taken h.0 h.2.rest (row world) taken (found h.0 (subst (λ ps. Shown text ps before after h.0) same h.1) world s) h.2.parts h.2.some) (shows clean);
    unrefused = λ clean world s any limit. if_err r _ _ (λ fault h. never_told fault h world s limit) (fails clean);
  }

module _ {U : Type 0} (r : Result U Fault) (fault : Fault) (same : IsErrAnd r (λ other. other ≡ fault)) where
  pub opens_handed : {S : Type 0} (g : Ghosts S) (new : Held S) → (HasCleanDisk (state g new) → IsFailure fault ⊎ IsTrue (state g new).is_open) → ServesUnlessFailed g new r
  opens_handed g new it = subst (λ q. ServesUnlessFailed g new q) (sym (handed_is r fault same)) it

  pub nothing_handed : (P : U → Type 0) → IfOk r P
  nothing_handed P = subst (λ q. IfOk q P) (sym (handed_is r fault same)) tt

  pub err_handed : (P : Fault → Type 0) → P fault → IfErr r P
  err_handed P told = subst (λ q. IfErr q P) (sym (handed_is r fault same)) told

  pub fault_handed : IsStoreFault fault → IfErr r IsStoreFault
  fault_handed = err_handed IsStoreFault

  pub match_handed : (P : U → Type 0) → IsStoreFault fault → MatchResult r P IsStoreFault
  match_handed P told = subst (λ q. MatchResult q P IsStoreFault) (sym (handed_is r fault same)) told

-- one that is no failure of the disk
pub never_broken : {U : Type 0} (r : Result U Fault) → IfErr r (λ fault. (fault ≡ Memory) ⊎ (fault ≡ NotAProject)) → r ≢ Err Broken
never_broken (Ok y) told is = absurd cc
never_broken (Err fault) (inl memory) is = absurd (let same = is in cc)
never_broken (Err fault) (inr refused) is = absurd (let same = is in cc)

pub never_err : {T : Type 0} (x : T) → ◌≢◌ {A = Result T Fault} (Ok x) (Err Broken)
never_err x is = absurd cc

-- a row that is read
pub asks_row : {S T U : Type 0} (g : Ghosts S) (old new : Held S) (x : T) (r : Result U Fault) → IfErr r IsReadFault → Asks g old new (Ok x) → Asks g old new r
asks_row g old new x r told it = asks_made g old new x r (never_broken r told) it

pub fault_read : {U : Type 0} (r : Result U Fault) → IfErr r IsReadFault → IfErr r IsStoreFault
fault_read (Ok y) told = tt
fault_read (Err fault) (inl memory) = inl memory
fault_read (Err fault) (inr refused) = inr (inr refused)

pub read_told : (fault : Fault) → IsReadFault fault → IsStoreFault fault
read_told fault (inl memory) = inl memory
read_told fault (inr refused) = inr (inr refused)

pub read_handed : {U : Type 0} (r : Result U Fault) (fault : Fault) → IsErrAnd r (λ other. other ≡ fault) → IsReadFault fault → IfErr r IsReadFault
read_handed r fault same = err_handed r fault same IsReadFault

-- a number that no key has, before anything is asked
pub reads_unkeyed : {S W : Type 0} (g : Ghosts S) (old : Held S) {Over : Database → W → Type 0} (n : ℕ) (fault : Fault) → fault ≡ NotAProject → 2 ^ 63 ≤ n → Reads {T = ℕ} g old old (Err fault) (n < 2 ^ 63) IsStoreFault Over (λ r world. ⊤) (λ world. n < 2 ^ 63)
reads_unkeyed g old n fault refused beyond = record {
  asks = asks_none g old (Err fault) (never_broken (Err fault) (inr refused));
  opens = λ low. absurd (omega (arith, low, beyond));
  fault = read_told fault (inr refused);
  found = λ clean world stood. tt;
  unrefused = λ clean world stood low limit. absurd (omega (arith, low, beyond));
}
