-- What the assimilator, the file deleter and the purge leave alone.
use Rattle.std.proofs.Common.{◌≡◌, ◌≢◌, ℕ, ◌+◌, ◌≤◌, nat_le, Bool, true, false, cond, ◌&&◌, List, [], ◌∷◌, map, Option, Some, refl, sym, ap, subst, ◌∙◌, arith}
use Rattle.std.proofs.lemmas.Bool.Decides.{nat_tests}
use Rattle.std.specs.List.{list_any, list_all, slice_get}
use Rattle.std.specs.Option.{option_map_or, option_map}
use Rattle.std.proofs.lemmas.Option.{slice_get-map}
use Rattle.wu_core.specs.declared.workunit.Instance.{Instance}
use Rattle.wu_core.specs.declared.workunit.Workunit.{Workunit}
use Rattle.wu_core.specs.declared.states.Assimilate.{Assimilate}
use Rattle.wu_core.specs.declared.states.Assimilate.TheVariants as assimilate
use Rattle.wu_core.specs.declared.states.FileDelete.{FileDelete}
use Rattle.wu_core.specs.declared.states.FileDelete.TheVariants as file_delete
use Rattle.wu_rules.specs.Instances.{is_ready_assimilate, is_done_assimilate, is_ready_file, is_deleted_file}
use Rattle.wu_rules.specs.Assimilation.{assimilated, emptied, without_output, is_to_delete, is_spent, is_purgeable}
use Rattle.wu_rules_laws.proofs.Changed.{or_left, or_right, or_from, any_false-map, map-untouched, only_where}

pub and_left : (a b : Bool) → (a && b) ≡ true → a ≡ true
and_left a b e = grind arith

pub and_right : (a b : Bool) → (a && b) ≡ true → b ≡ true
and_right a b e = grind arith

pub and_from : (a b : Bool) → a ≡ true → b ≡ true → (a && b) ≡ true
and_from a b e f = cc

deleted_not_ready : (f : FileDelete) → is_deleted_file f ≡ true → is_ready_file f ≡ false
deleted_not_ready f e = grind arith

done_not_ready : (a : Assimilate) → is_done_assimilate a ≡ true → is_ready_assimilate a ≡ false
done_not_ready a e = grind arith

spent_none_ready : (xs : List Instance) → list_all is_spent xs ≡ true → list_any (λ i. is_ready_file i.file_delete) xs ≡ false
spent_none_ready [] e = refl
spent_none_ready (x ∷ xs) e = let rest = spent_none_ready xs (grind arith) in grind arith

-- where nothing is ready nothing is emptied
pub emptied-untouched : (w : Workunit) → is_to_delete w ≡ false → emptied w ≡ w
unfolding emptied is_to_delete
emptied-untouched w e =
    let outputs = list_any (λ i. is_ready_file i.file_delete) w.instances in
    let input = or_left (is_ready_file w.file_delete) outputs e in
    let kept = map-untouched (λ i. is_ready_file i.file_delete) without_output (λ i h. ap (λ b. cond b (record i { file_delete = file_delete.Done; output = [] }) i) h) w.instances (or_right (is_ready_file w.file_delete) outputs e) in
    ap (λ b. record w { input = cond b [] w.input; file_delete = cond b file_delete.Done w.file_delete; instances = map without_output w.instances }) input
    ∙ ap (λ zs. record w { instances = zs }) kept

file_done : (f : FileDelete) → is_ready_file (cond (is_ready_file f) file_delete.Done f) ≡ false
file_done f = grind arith

output_done : (i : Instance) → is_ready_file (without_output i).file_delete ≡ false
output_done i = grind arith

-- once emptied, nothing is ready
pub emptied-once : (w : Workunit) → is_to_delete (emptied w) ≡ false
unfolding emptied is_to_delete
emptied-once w = or_from (is_ready_file (emptied w).file_delete) (list_any (λ i. is_ready_file i.file_delete) (emptied w).instances) (file_done w.file_delete) (any_false-map (λ i. is_ready_file i.file_delete) without_output output_done w.instances)

pub ready-changed : (w : Workunit) → is_to_delete w ≡ true → emptied w ≢ w
ready-changed w e same =
    let no : true ≡ false = sym e ∙ subst (λ v. is_to_delete v ≡ false) same (emptied-once w) in cc

pub changed-ready : (w : Workunit) → emptied w ≢ w → is_to_delete w ≡ true
changed-ready w changed = only_where (is_to_delete w) (emptied w) w (emptied-untouched w) changed

-- ---- the assimilator

pub assimilated-untouched : (w : Workunit) (now : ℕ) → is_ready_assimilate w.assimilate ≡ false → assimilated w now ≡ w
unfolding assimilated
assimilated-untouched w now e = ap (λ b. cond b (record w { assimilate = assimilate.Done; done_at = Some now }) w) e

pub assimilated-once : (w : Workunit) (now : ℕ) → is_ready_assimilate (assimilated w now).assimilate ≡ false
unfolding assimilated
assimilated-once w now = grind arith

pub ready_assimilate-changed : (w : Workunit) (now : ℕ) → is_ready_assimilate w.assimilate ≡ true → assimilated w now ≢ w
ready_assimilate-changed w now e same =
    let no : true ≡ false = sym e ∙ subst (λ v. is_ready_assimilate v.assimilate ≡ false) same (assimilated-once w now) in cc

pub changed-ready_assimilate : (w : Workunit) (now : ℕ) → assimilated w now ≢ w → is_ready_assimilate w.assimilate ≡ true
changed-ready_assimilate w now changed = only_where (is_ready_assimilate w.assimilate) (assimilated w now) w (assimilated-untouched w now) changed

-- ---- the purge

-- the parts of being purgeable
pub record Purgeable (w : Workunit) (now age : ℕ) : Type 0 where
  pub done : is_done_assimilate w.assimilate ≡ true
  pub input : is_deleted_file w.file_delete ≡ true
  pub outputs : list_all is_spent w.instances ≡ true
  pub aged : option_map_or (λ done_at. nat_le (done_at + age) now) w.done_at false ≡ true

pub purgeable_parts : (w : Workunit) (now age : ℕ) → is_purgeable w now age ≡ true → Purgeable w now age
unfolding is_purgeable
purgeable_parts w now age e = grind arith

pub purgeable_from : (w : Workunit) (now age : ℕ) → Purgeable w now age → is_purgeable w now age ≡ true
unfolding is_purgeable
purgeable_from w now age p = grind arith

pub purgeable-assimilated : (w : Workunit) (now age : ℕ) → is_purgeable w now age ≡ true → (moment : ℕ) → assimilated w moment ≡ w
purgeable-assimilated w now age e moment = assimilated-untouched w moment (done_not_ready w.assimilate (purgeable_parts w now age e).done)

pub purgeable-emptied : (w : Workunit) (now age : ℕ) → is_purgeable w now age ≡ true → emptied w ≡ w
unfolding is_to_delete
purgeable-emptied w now age e =
    let p = purgeable_parts w now age e in
    emptied-untouched w (or_from (is_ready_file w.file_delete) (list_any (λ i. is_ready_file i.file_delete) w.instances) (deleted_not_ready w.file_delete p.input) (spent_none_ready w.instances p.outputs))

aged_later : (o : Option ℕ) (now later age : ℕ) → now ≤ later → option_map_or (λ d. nat_le (d + age) now) o false ≡ true → option_map_or (λ d. nat_le (d + age) later) o false ≡ true
aged_later o now later age le e = grind (arith, nat_tests)

pub purgeable-later : (w : Workunit) (now later age : ℕ) → now ≤ later → is_purgeable w now age ≡ true → is_purgeable w later age ≡ true
purgeable-later w now later age le e =
    let p = purgeable_parts w now age e in
    purgeable_from w later age (record { done = p.done; input = p.input; outputs = p.outputs; aged = aged_later w.done_at now later age le p.aged })

-- ---- what is emptied

pub input_gone : (w : Workunit) → is_ready_file w.file_delete ≡ true → (emptied w).input ≡ []
unfolding emptied
input_gone w e = ap (λ b. cond b [] w.input) e

pub output_gone : (w : Workunit) (n : ℕ) (i : Instance) → slice_get w.instances n ≡ Some i → is_ready_file i.file_delete ≡ true → option_map (λ j. j.output) (slice_get (emptied w).instances n) ≡ Some []
unfolding emptied
output_gone w n i here ready =
    ap (λ o. option_map (λ j. j.output) o) (slice_get-map without_output w.instances n ∙ ap (λ o. option_map without_output o) here)
    ∙ ap (λ b. Some (cond b (record i { file_delete = file_delete.Done; output = [] }) i).output) ready

pub output_held : (w : Workunit) (n : ℕ) (i : Instance) → slice_get w.instances n ≡ Some i → is_ready_file i.file_delete ≡ false → slice_get (emptied w).instances n ≡ Some i
unfolding emptied
output_held w n i here held =
    slice_get-map without_output w.instances n
    ∙ (ap (λ o. option_map without_output o) here ∙ ap (λ b. Some (cond b (record i { file_delete = file_delete.Done; output = [] }) i)) held)
