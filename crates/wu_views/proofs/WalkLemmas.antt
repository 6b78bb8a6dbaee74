-- A walk over what a question lists: what stands at each of its turns, and at each of its exits.
use Rattle.wu_schema.proofs.Words.{Err, Error, Fault, Ghosts, HasCleanDisk, Held, IsFailure, IsUnchanged, List, None, NotAProject, Ok, Option, Refines, Row, Some, State, Survives, World, [], ap, arith, fault_of, inl, inr, length, refl, state, subst, sym, ℕ, ◌++◌, ◌+◌, ◌∙◌, ◌∷◌, ◌≡◌, ◌≢◌}
use Rattle.std.proofs.Common.{length-append}
use Rattle.std.specs.Prelude.{false}
use Rattle.std.specs.List.{AllZip}
use Rattle.std.proofs.lemmas.List.{append_assoc, append-nil}
use Rattle.sqlite.specs.Effect.{Database}
use Rattle.sqlite.specs.Given.{Advances, FailsToAdvance, IsRefused}
use Rattle.wu_core.specs.declared.fault.Fault.TheVariants.{Memory, Output}
use Rattle.wu_schema.proofs.AskingLemmas.{fault_told}
use Rattle.wu_store.specs.Loading.{IsStoreFault}
use Rattle.wu_schema.specs.Reading.{IsReadFault}
use Rattle.wu_store.specs.StandsFor.{KnowsClasses}
use Rattle.wu_store.proofs.AskLemmas.{never_broken, never_err, never_refused, read_told}
use Rattle.wu_views.specs.Listings.{Lists}
use Rattle.wu_views.specs.Walking.{TakesAll, TakesFront, Walked}
use Rattle.wu_store.proofs.GivenLemmas.{IsWalked, end_asks, end_opens, failed_asks, failed_opens, refused_asks, refused_opens, walk_asks, walk_ends, walk_on, walk_opens}

-- ---- lists side by side

-- behind as many rows as lines the next row is that of the next line
pub next_line : {A B : Type 0} (R : A → B → Type 0) (given : List A) (row : A) (more : List A) (front rest : List B) → length given ≡ length front → AllZip R (given ++ row ∷ more) (front ++ rest)
    → (line : B) × (later : List B) × (rest ≡ line ∷ later) × R row line
next_line R [] row more [] [] long zip = absurd zip
next_line R [] row more [] (line ∷ later) long zip = (line, later, refl, zip.0)
next_line R [] row more (f ∷ front) rest long zip = absurd (omega (arith, long))
next_line R (g ∷ given) row more [] rest long zip = absurd (omega (arith, long))
next_line R (g ∷ given) row more (f ∷ front) rest long zip = next_line R given row more front rest (omega (arith, long)) zip.1

-- and behind as many rows as there are no line is left
pub none_left : {A B : Type 0} (R : A → B → Type 0) (given : List A) (front rest : List B) → length given ≡ length front → AllZip R given (front ++ rest) → rest ≡ []
none_left R [] [] [] long zip = refl
none_left R [] [] (line ∷ rest) long zip = absurd zip
none_left R [] (f ∷ front) rest long zip = absurd (omega (arith, long))
none_left R (g ∷ given) [] rest long zip = absurd (omega (arith, long))
none_left R (g ∷ given) (f ∷ front) rest long zip = none_left R given front rest (omega (arith, long)) zip.1

pub takes_more : {K T : Type 0} (Takes : K → K → T → Type 0) (a b c : K) (lines : List T) (line : T) → TakesAll Takes a b lines → Takes b c line → TakesAll Takes a c (lines ++ line ∷ [])
takes_more Takes a b c [] line none one = (c, subst (λ k. Takes k c line) none one, refl)
takes_more Takes a b c (l ∷ lines) line all one = (all.0, all.1, takes_more Takes all.0 b c lines line all.2 one)

-- a connection that was asked was open
was_shut : {old new : State} {A : Type 0} {x y : A} → IsUnchanged old new → old.is_open ≡ false → x ≡ y
was_shut same shut = absurd (let was = same.0.was_open in cc)

-- ---- a walk

module _ {S T K : Type 0} (g : Ghosts S) (text : List ℕ) (IsRow : World → Row → T → Type 0) (lines_of : World → List T) (Takes Refuses : K → K → T → Type 0) (old : Held S) (first : K) where
  -- At a turn of it: these lines are taken, and as many rows were handed out, and the pending ones besides.
  pub record Walks (now : Held S) (taker : K) (pending : List Row) : Type 0 where
    pub front : List T
    pub given : List Row
    pub long : length given ≡ length front
    pub walk : IsWalked g text [] old now (given ++ pending)
    pub taken : TakesAll Takes first taker front
    pub begins : HasCleanDisk (state g now) → (world : World) → KnowsClasses world → Refines (state g old).now world → (rest : List T) × (lines_of world ≡ front ++ rest)

  -- at an exit of it
  abbrev pub Done : (World → Type 0) → Held S → K → Type 0
  Done IsReadable new taker = Walked {R = Unit {0}} g lines_of IsReadable Takes Refuses old new first taker (Ok tt)

  abbrev pub Fails : (World → Type 0) → Held S → K → Fault → Type 0
  Fails IsReadable new taker fault = Walked {R = Unit {0}} g lines_of IsReadable Takes Refuses old new first taker (Err fault)

  -- what was taken stays so after a fault that is no line's
  held_front : (now : Held S) (taker : K) (pending : List Row) (w : Walks now taker pending) (fault : Fault) → IsStoreFault fault → (lines rest : List T) → lines ≡ w.front ++ rest → TakesFront Takes Refuses first taker lines fault
  held_front now taker pending w fault told lines rest all = record { front = w.front; rest = rest; all = all; last = taker; taken = w.taken; cause = inr (told, refl) }

  module _ (lists : Lists g text IsRow lines_of) (IsReadable : World → Type 0) where
    -- the row that is pending is that of the next line
    pending_line : (now : Held S) (taker : K) (row : Row) (w : Walks now taker (row ∷ [])) → HasCleanDisk (state g now) → (world : World) → KnowsClasses world → Refines (state g old).now world
        → (line : T) × (later : List T) × (lines_of world ≡ w.front ++ line ∷ later) × IsRow world row line
    pending_line now taker row w clean world known s =
        let begins = w.begins clean world known s in
        let front = lists.front old now (w.given ++ row ∷ []) (w.walk.same clean) (w.walk.gave clean) world known s in
        let zip = subst (λ ls. AllZip (IsRow world) ((w.given ++ row ∷ []) ++ front.0) ls) begins.1 front.1 in
        let placed = subst (λ rs. AllZip (IsRow world) rs (w.front ++ begins.0)) (append_assoc w.given (row ∷ []) front.0) zip in
        let next = next_line (IsRow world) w.given row front.0 w.front begins.0 w.long placed in
        (next.0, next.1, begins.1 ∙ ap (λ ls. w.front ++ ls) next.2, next.3)

    -- the query is refused
    pub never_begun : {X : Type 0} (new : Held S) (e : Error) (fault : Fault) → fault ≡ fault_of e → IsRefused g {X = X} text [] old (Err e) new → Fails IsReadable new first fault
    never_begun new e fault told it =
        let store : IsStoreFault fault = subst IsStoreFault (sym told) (fault_told e) in
        record {
          asks = refused_asks g text lists.select [] old new e fault told it;
          opens = refused_opens g text lists.select [] old new e fault told it;
          fault = inr store;
          hands = ([], record { front = []; rest = []; all = refl; last = first; taken = refl; cause = inr (store, refl) });
          lines = λ clean world known s. record { front = []; rest = lines_of world; all = refl; last = first; taken = refl; cause = inr (store, refl) };
          shut = λ clean shut. refl;
          unrefused = λ clean world known s can limit. never_refused fault (subst IsFailure (sym told) (lists.told old new e (it.err clean) world known s limit));
        }

    -- it begins
    pub begun : (now : Held S) → IsWalked g text [] old now [] → Walks now first []
    begun now walk = record { front = []; given = []; long = refl; walk = walk; taken = refl; begins = λ clean world known s. (lines_of world, refl) }

    module _ (now : Held S) (taker : K) (w : Walks now taker []) where
      whole : IsWalked g text [] old now w.given
      whole = subst (IsWalked g text [] old now) (append-nil w.given) w.walk

      -- it wants to go on for ever
      pub endless : Fails IsReadable now taker Memory
      endless = record {
        asks = walk_asks g text lists.select [] old now w.given whole (Err Memory) (λ is. absurd cc);
        opens = walk_opens g text lists.select [] old now w.given whole {T = Unit {0}} (Err Memory);
        fault = inr (inl refl);
        hands = (w.front, held_front now taker [] w Memory (inl refl) w.front [] (sym (append-nil w.front)));
        lines = λ clean world known s. let begins = w.begins clean world known s in held_front now taker [] w Memory (inl refl) (lines_of world) begins.0 begins.1;
        shut = λ clean shut. was_shut (whole.same clean) shut;
        unrefused = λ clean world known s can limit. never_refused Memory (inl refl);
      }

      module _ (new : Held S) (mode : now.in_transaction ≡ false → new.in_transaction ≡ false) (survives : Survives (state g now) (state g new) (λ _. ⊥)) where
        before : HasCleanDisk (state g new) → HasCleanDisk (state g now)
        before clean = omega (arith, survives.clean, clean)

        -- the next row is not read
        pub broken_off : (e : Error) (fault : Fault) → fault ≡ fault_of e → (HasCleanDisk (state g new) → FailsToAdvance g now new e) → Fails IsReadable new taker fault
        broken_off e fault told fails =
            let store : IsStoreFault fault = subst IsStoreFault (sym told) (fault_told e) in
            record {
              asks = failed_asks g text lists.select [] old now w.given whole new mode survives e fault told fails;
              opens = failed_opens g text lists.select [] old now w.given whole new mode survives e fault told fails;
              fault = inr store;
              hands = (w.front, held_front now taker [] w fault store w.front [] (sym (append-nil w.front)));
              lines = λ clean world known s. let begins = w.begins (before clean) world known s in held_front now taker [] w fault store (lines_of world) begins.0 begins.1;
              shut = λ clean shut. was_shut (whole.same (before clean)) shut;
              unrefused = λ clean world known s can limit.
                  let late : Refines (state g now).now world = subst (λ (d : Database). Refines d world) (sym (whole.same (before clean)).0.now_is) s in
                  let failure = lists.told now new e (fails clean text [] w.given (whole.gave (before clean))) world known late (whole.crash.limit ∙ limit) in
                  never_refused fault (subst IsFailure (sym told) failure);
            }

        module _ (next : Option Row) (gives : HasCleanDisk (state g new) → Advances g now new next) (same : HasCleanDisk (state g new) → IsUnchanged (state g now) (state g new)) where
          -- there is no further row
          pub done : next ≡ None → Done IsReadable new taker
          done none = record {
            asks = end_asks g text lists.select [] old now w.given whole new mode survives next gives same (Ok tt) (never_err tt);
            opens = end_opens g text lists.select [] old now w.given whole new mode survives next gives same {T = Unit {0}} (Ok tt);
            fault = tt;
            hands = (w.front, w.taken);
            lines = λ clean world known s.
                let shown = walk_ends g text lists.select [] old now w.given whole new mode survives next gives same none clean in
                let begins = w.begins (before clean) world known s in
                let zip = subst (AllZip (IsRow world) w.given) begins.1 (lists.answer old new w.given shown world known s) in
                let none = none_left (IsRow world) w.given w.front begins.0 w.long zip in
                subst (TakesAll Takes first taker) (sym (begins.1 ∙ ap (λ ls. w.front ++ ls) none ∙ append-nil w.front)) w.taken;
            shut = λ clean shut. was_shut (whole.same (before clean)) shut;
            unrefused = λ clean world known s can limit. tt;
          }

          -- a row is handed out
          pub handed : (row : Row) → next ≡ Some row → Walks new taker (row ∷ [])
          handed row is = record {
            front = w.front;
            given = w.given;
            long = w.long;
            walk = walk_on g text lists.select [] old now w.given whole new mode survives next gives same row is;
            taken = w.taken;
            begins = λ clean world known s. w.begins (before clean) world known s;
          }

    module _ (now : Held S) (taker : K) (row : Row) (w : Walks now taker (row ∷ [])) where
      -- it is no line, or memory is wanted
      pub unread : (fault : Fault) → IsReadFault fault → ((world : World) (line : T) → IsRow world row line → IsReadable world → fault ≢ NotAProject) → Fails IsReadable now taker fault
      unread fault told readable =
          let store : IsStoreFault fault = read_told fault told in
          record {
            asks = walk_asks g text lists.select [] old now (w.given ++ row ∷ []) w.walk (Err fault) (never_broken {U = Unit {0}} (Err fault) told);
            opens = walk_opens g text lists.select [] old now (w.given ++ row ∷ []) w.walk {T = Unit {0}} (Err fault);
            fault = inr store;
            hands = (w.front, held_front now taker (row ∷ []) w fault store w.front [] (sym (append-nil w.front)));
            lines = λ clean world known s. let begins = w.begins clean world known s in held_front now taker (row ∷ []) w fault store (lines_of world) begins.0 begins.1;
            shut = λ clean shut. was_shut (w.walk.same clean) shut;
            unrefused = λ clean world known s can limit. let next = pending_line now taker row w clean world known s in readable world next.0 next.3 can;
          }

      module _ (line : T) (read : (world : World) (other : T) → IsRow world row other → line ≡ other) where
        -- the line is taken
        pub taken : (next : K) → Takes taker next line → Walks now next []
        taken next takes = record {
          front = w.front ++ line ∷ [];
          given = w.given ++ row ∷ [];
          long = length-append w.given (row ∷ []) ∙ ap (λ n. n + 1) w.long ∙ sym (length-append w.front (line ∷ []));
          walk = subst (IsWalked g text [] old now) (sym (append-nil (w.given ++ row ∷ []))) w.walk;
          taken = takes_more Takes first taker next w.front line w.taken takes;
          begins = λ clean world known s.
              let next = pending_line now taker row w clean world known s in
              (next.1, next.2 ∙ ap (λ l. w.front ++ l ∷ next.1) (sym (read world next.0 next.3)) ∙ sym (append_assoc w.front (line ∷ []) next.1));
        }

        -- no more is taken
        pub stopped : (last : K) → Refuses taker last line → Fails IsReadable now last Output
        stopped last refuses = record {
          asks = walk_asks g text lists.select [] old now (w.given ++ row ∷ []) w.walk (Err Output) (λ is. absurd cc);
          opens = walk_opens g text lists.select [] old now (w.given ++ row ∷ []) w.walk {T = Unit {0}} (Err Output);
          fault = inl refl;
          hands = (w.front ++ line ∷ [], record { front = w.front; rest = line ∷ []; all = refl; last = taker; taken = w.taken; cause = inl (refl, record { line = line; more = []; next = refl; refused = refuses }) });
          lines = λ clean world known s.
              let next = pending_line now taker row w clean world known s in
              record { front = w.front; rest = next.0 ∷ next.1; all = next.2; last = taker; taken = w.taken; cause = inl (refl, record { line = line; more = next.1; next = ap (λ l. l ∷ next.1) (sym (read world next.0 next.3)); refused = refuses }) };
          shut = λ clean shut. was_shut (w.walk.same clean) shut;
          unrefused = λ clean world known s can limit is. absurd cc;
        }
