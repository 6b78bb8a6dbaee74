-- What lasts from one world to a later one, and what follows from it.
use Rattle.std.proofs.Common.{◌≡◌, ◌≢◌, ◌⊎◌, ℕ, ◌<◌, ◌≤◌, Bool, true, false, List, [], ◌∷◌, ◌++◌, map, length, get_or, Some, bytes_eq, refl, sym, ap, subst, ◌∙◌, inl, inr, arith}
use Rattle.std.proofs.lemmas.Bool.{cases_Bool, ne_eqb, or_parts}
use Rattle.std.proofs.lemmas.List.{map-append}
use Rattle.std.proofs.lemmas.List.Elements.{All-append, All-cons, All-contains, All-contains_itself, All-nil, All-weaker, Contains-append_left, Contains-append_right}
use Rattle.std.proofs.lemmas.List.Folds.{list_any-append}
use Rattle.std.proofs.lemmas.Slice.Eq.{bytes_eq-Decides}
use Rattle.std.specs.List.{All, Contains, filter}
use Rattle.std.specs.Prelude.{◌||◌}
use Rattle.wu_core.specs.World.{Import, World}
use Rattle.wu_core.specs.declared.workunit.Archived.{Archived}
use Rattle.wu_core.specs.declared.workunit.Grant.{Grant}
use Rattle.wu_core.specs.declared.workunit.HostClass.{HostClass}
use Rattle.wu_core.specs.declared.workunit.Workunit.{Workunit}
use Rattle.wu_rules.specs.Consistent.{HostsApart, KeepsHosts, KeepsVerdicts, is_done, one_if}
use Rattle.wu_rules.specs.Counts.{is_clear}
use Rattle.wu_rules_laws.proofs.Verdicts.{verdicts_unchanged}
use Rattle.wu_rules_laws.proofs.Following.{kept_then}
use Rattle.wu_machine.specs.Batches.{is_one_of, taken_names}
use Rattle.wu_machine.specs.Sound.{IsRecorded, IsSound}
use Rattle.wu_machine_laws.proofs.Middles.{around, count_none}
use Rattle.wu_machine_laws.proofs.SoundParts.{is_row_of}

-- what became of a workunit has its number, its name, its canonical result if there is one, its final verdicts and the
-- hosts of its instances, is given up where it was, and its hosts are apart where they were
pub record Continues (w v : Workunit) : Type 0 where
  pub number : v.number ≡ w.number
  pub name : v.name ≡ w.name
  pub canonical : (n : ℕ) → w.canonical ≡ Some n → v.canonical ≡ Some n
  pub verdicts : KeepsVerdicts w v
  pub given_up : is_clear w.error_mask ≡ false → is_clear v.error_mask ≡ false
  pub hosts : KeepsHosts w v
  pub apart : HostsApart w → HostsApart v

-- each continues itself
continues_same : (w : Workunit) → Continues w w
continues_same w = record {
  number = refl;
  name = refl;
  canonical = λ n is. is;
  verdicts = verdicts_unchanged w;
  given_up = λ e. e;
  hosts = λ n host is. is;
  apart = λ e. e;
}

-- it continues a workunit of the world
abbrev pub Came : World → Workunit → Type 0
Came world v = (w : Workunit) × Contains world.workunits w × Continues w v

-- what lasts from one world to a later one
pub record Lasts (old new : World) : Type 0 where
  pub next : old.next_number ≤ new.next_number
  pub came : All (λ (v : Workunit). v.number < old.next_number → Came old v) new.workunits
  pub names : (name : List ℕ) → is_one_of (taken_names old) name ≡ true → is_one_of (taken_names new) name ≡ true
  pub apart : All HostsApart old.workunits → All HostsApart new.workunits

-- the later world is sound, and all that is to last has lasted
abbrev pub Leads : World → World → Type 0
Leads old new = IsSound new × Lasts old new

-- each workunit of a world came from it
pub came_all : (world : World) → All (λ (v : Workunit). v.number < world.next_number → Came world v) world.workunits
came_all world k d within low = (get_or world.workunits k d, All-contains_itself world.workunits k d within, continues_same (get_or world.workunits k d))

-- all lasts where only imports, classes of hosts and the version change
pub lasts_beside : (world : World) (imports : List Import) (classes : List HostClass) (version : ℕ)
    → Lasts world (record world { imports = imports; classes = classes; version = version })
lasts_beside world imports classes version = record { next = omega arith; came = came_all world; names = λ name is. is; apart = λ all. all }

-- so a sound world leads to itself
pub leads_same : (world : World) → IsSound world → Leads world world
leads_same world sound = (sound, lasts_beside world world.imports world.classes world.version)

-- what lasts twice lasts
lasts_then : (one two three : World) → Lasts one two → Lasts two three → Lasts one three
lasts_then one two three first second = record {
  next = (let a = first.next in let b = second.next in omega (arith, a, b));
  came = All-weaker (λ (v : Workunit). v.number < two.next_number → Came two v) (λ (v : Workunit). v.number < one.next_number → Came one v) back
      three.workunits second.came;
  names = λ name is. second.names name (first.names name is);
  apart = λ all. second.apart (first.apart all);
}
  where
    back : (v : Workunit) → (v.number < two.next_number → Came two v) → v.number < one.next_number → Came one v
    back v from low =
        let less = first.next in
        let middle : Came two v = from (omega (arith, low, less)) in
        let u = middle.0 in
        let on = middle.2 in
        let its = All-contains (λ (x : Workunit). x.number < one.next_number → Came one x) two.workunits u first.came middle.1
        (subst (λ k. k < one.next_number) on.number low) in
        let before = its.2 in (
          its.0,
          its.1,
          record {
            number = on.number ∙ before.number;
            name = on.name ∙ before.name;
            canonical = λ n is. on.canonical n (before.canonical n is);
            verdicts = kept_then its.0 u v before.verdicts on.verdicts;
            given_up = λ e. on.given_up (before.given_up e);
            hosts = λ n host is. on.hosts n host (before.hosts n host is);
            apart = λ e. on.apart (before.apart e);
          },
        )

-- and where it leads to one that leads to a third, to the third
pub leads_then : (one two three : World) → Leads one two → Leads two three → Leads one three
leads_then one two three first second = (second.0, lasts_then one two three first.1 second.1)

-- ---- one workunit rewritten, or taken out

-- a name that is none of these rows' is not that of any
pub not_one_of : (rows : List Archived) (name : List ℕ) → is_one_of (map (λ row. row.name) rows) name ≡ false → All (λ (row : Archived). row.name ≢ name) rows
not_one_of [] name off = All-nil (λ (row : Archived). row.name ≢ name)
not_one_of (row ∷ rows) name off =
    let parts = or_parts (bytes_eq row.name name) (is_one_of (map (λ it. it.name) rows) name) off in
    All-cons (λ (it : Archived). it.name ≢ name) row rows (λ same. let is = (bytes_eq-Decides row.name name).1 same in let differs : true ≡ false =
    sym is ∙ parts.0 in cc) (not_one_of rows name parts.1)

-- a workunit that is DONE has an archived row of its name
pub archived_name : (world : World) (w : Workunit) (name : List ℕ) → IsRecorded world w → is_done w ≡ true → bytes_eq w.name name ≡ true
    → is_one_of (map (λ row. row.name) world.archived) name ≡ true
archived_name world w name its done is = elim (cases_Bool (is_one_of (map (λ row. row.name) world.archived) name)) [
  | inl taken ↦ taken
  | inr free ↦
      let none : length (filter (is_row_of w) world.archived) ≡ 0 =
      count_none (is_row_of w) world.archived (λ k d low. ne_eqb (get_or world.archived k d).number w.number (λ same.
      not_one_of world.archived name free k d low ((its.named k d low).1 same ∙ (bytes_eq-Decides w.name name).0 is))) in
      let one : length (filter (is_row_of w) world.archived) ≡ 1 = its.archived ∙ ap one_if done in
      absurd (omega (arith, none, one))
]

-- where one of several holds, it holds with that one moved
or_moved : (u w s r v m : Bool) → (w ≡ true → (v ≡ true) ⊎ (r ≡ true)) → ((u || (w || s)) || r) ≡ true → (((u || v) || s) || (r || m)) ≡ true
or_moved true w s r v m moved is = refl
or_moved false w s r true m moved is = refl
or_moved false w true r false m moved is = refl
or_moved false w false true false m moved is = refl
or_moved false true false false false m moved is = elim (moved refl) [
  | inl here ↦ absurd (cc)
  | inr there ↦ absurd (cc)
]
or_moved false false false false false m moved is = cc

-- whether a workunit has the name, and whether an archived row has it
abbrev any_of : List Workunit → List ℕ → Bool
any_of ws name = is_one_of (map (λ w. w.name) ws) name

abbrev any_rows : List Archived → List ℕ → Bool
any_rows rows name = is_one_of (map (λ row. row.name) rows) name

-- where one of two holds, it does beside a third
or_more : (a b c : Bool) → (a || c) ≡ true → ((a || b) || c) ≡ true
or_more true b c is = refl
or_more false true c is = refl
or_more false false c is = is

-- the names that are taken stay so with more workunits
pub names_more : (name : List ℕ) (ws more : List Workunit) (rows : List Archived) → is_one_of (map (λ x. x.name) ws ++ map (λ y. y.name) rows) name ≡ true
    → is_one_of (map (λ x. x.name) (ws ++ more) ++ map (λ y. y.name) rows) name ≡ true
names_more name ws more rows is =
    simp (map-append, list_any-append) (or_more (any_of ws name) (any_of more name) (any_rows rows name) (simp list_any-append at is))

module _ (world : World) (us : List Workunit) (w : Workunit) (ws vs : List Workunit) (gs hs : List Grant) (rows more : List Archived) where
  -- the world with the workunit in the middle
  abbrev before : World
  before = record world { workunits = us ++ w ∷ ws; grants = gs; archived = rows }

  -- and with what is left of it
  abbrev after : World
  after = record world { workunits = (us ++ vs) ++ ws; grants = gs ++ hs; archived = rows ++ more }

  -- what is left came from what was there
  came_after : All (Continues w) vs → All (λ (v : Workunit). v.number < world.next_number → Came before v) ((us ++ vs) ++ ws)
  came_after on =
      All-append (λ (v : Workunit). v.number < world.next_number → Came before v) (us ++ vs) ws
      (All-append (λ (v : Workunit). v.number < world.next_number → Came before v) us vs
      (λ k d within low. (get_or us k d, Contains-append_left us (w ∷ ws) _ (All-contains_itself us k d within), continues_same (get_or us k d)))
      (λ k d within low. (w, Contains-append_right us (w ∷ ws) w (0, omega arith, refl), on k d within)))
      (λ k d within low. (
        get_or ws k d,
        Contains-append_right us (w ∷ ws) _ (Contains-append_right (w ∷ []) ws _ (All-contains_itself ws k d within)),
        continues_same (get_or ws k d),
      ))

  -- hosts that were apart stay so
  apart_after : All (Continues w) vs → All HostsApart (us ++ w ∷ ws) → All HostsApart ((us ++ vs) ++ ws)
  apart_after on all =
      let parts = around HostsApart us w ws all in
      All-append HostsApart (us ++ vs) ws
      (All-append HostsApart us vs parts.0 (All-weaker (Continues w) HostsApart (λ v it. it.apart parts.1) vs on)) parts.2

  -- the names that were taken stay so
  names_after : (name : List ℕ) → (bytes_eq w.name name ≡ true → (any_of vs name ≡ true) ⊎ (any_rows rows name ≡ true))
      → is_one_of (taken_names before) name ≡ true → is_one_of (taken_names after) name ≡ true
  names_after name moved is =
      simp (map-append, list_any-append) (or_moved (any_of us name) (bytes_eq w.name name) (any_of ws name) (any_rows rows name) (any_of vs name)
      (any_rows more name) moved (simp (map-append, list_any-append) at is))

  -- so all that is to last lasts
  lasts_after : All (Continues w) vs → ((name : List ℕ) → bytes_eq w.name name ≡ true → (any_of vs name ≡ true) ⊎ (any_rows rows name ≡ true))
      → Lasts before after
  lasts_after on moved = record {
    next = omega arith;
    came = came_after on;
    names = λ name is. names_after name (moved name) is;
    apart = apart_after on;
  }

-- one that is rewritten
pub lasts_rewritten : (world : World) (us : List Workunit) (w : Workunit) (ws : List Workunit) (v : Workunit) (gs hs : List Grant) (rows more : List Archived)
    → Continues w v
    → Lasts (record world { workunits = us ++ w ∷ ws; grants = gs; archived = rows })
    (record world { workunits = (us ++ v ∷ []) ++ ws; grants = gs ++ hs; archived = rows ++ more })
lasts_rewritten world us w ws v gs hs rows more on =
    lasts_after world us w ws (v ∷ []) gs hs rows more (All-cons (Continues w) v [] on (All-nil (Continues w))) (λ name is. inl (moved name is))
  where
    moved : (name : List ℕ) → bytes_eq w.name name ≡ true → is_one_of (map (λ x. x.name) (v ∷ [])) name ≡ true
    moved name is = let here : bytes_eq v.name name ≡ true = subst (λ n. bytes_eq n name ≡ true) (sym on.name) is in rw here refl

-- one that is taken out, where it is DONE
pub lasts_without : (world : World) (us : List Workunit) (w : Workunit) (ws : List Workunit) (gs hs : List Grant) (rows more : List Archived)
    → is_done w ≡ true
    → IsRecorded (record world { workunits = us ++ w ∷ ws; grants = gs; archived = rows }) w
    → Lasts (record world { workunits = us ++ w ∷ ws; grants = gs; archived = rows })
    (record world { workunits = (us ++ []) ++ ws; grants = gs ++ hs; archived = rows ++ more })
lasts_without world us w ws gs hs rows more done its =
    lasts_after world us w ws [] gs hs rows more (All-nil (Continues w))
    (λ name is. inr (archived_name (record world { workunits = us ++ w ∷ ws; grants = gs; archived = rows }) w name its done is))
