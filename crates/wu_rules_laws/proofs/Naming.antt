-- Which files a transition names for deletion.
use Rattle.std.proofs.Common.{◌≡◌, ◌⊎◌, ℕ, zero, suc, ◌==◌, Bool, true, false, cond, List, [], ◌∷◌, slice_get, Option, Some, refl, sym, ap, subst, ◌∙◌, arith}
use Rattle.std.proofs.lemmas.Bool.Decides.{nat_tests}
use Rattle.std.proofs.lemmas.List.Elements.{All-weaker}
use Rattle.std.proofs.lemmas.List.Sums.{AllPass-from_list_all, list_all-from_AllPass}
use Rattle.std.specs.List.{list_all}
use Rattle.std.specs.Option.{option_map_or}
use Rattle.std.specs.Prelude.{All}
use Rattle.wu_core.specs.declared.workunit.Instance.{Instance}
use Rattle.wu_core.specs.declared.workunit.Workunit.{Workunit}
use Rattle.wu_core.specs.declared.states.Assimilate.{Assimilate}
use Rattle.wu_core.specs.declared.states.Assimilate.TheVariants as assimilate
use Rattle.wu_core.specs.declared.states.FileDelete.{FileDelete}
use Rattle.wu_core.specs.declared.states.FileDelete.TheVariants as file_delete
use Rattle.wu_rules.specs.Instances.{given_up, is_done_assimilate, is_over, readied_file, timed_out}
use Rattle.wu_rules.specs.Counts.{is_clear}
use Rattle.wu_rules.specs.Transition.{ended, extended, is_all_over, is_finished, may_output_go, readied, settled, timed, transitioned, with_files_readied, with_output_readied}
use Rattle.wu_rules_laws.specs.Transitions.{IsFinished, IsNamed, MayGo, NamesFiles}
use Rattle.wu_rules_laws.proofs.Changed.{all-placed, cond_keeps}
use Rattle.wu_rules_laws.proofs.Choosing.{settled_keeps}
use Rattle.wu_rules_laws.proofs.Ending.{readied_at, settled_at}
use Rattle.wu_rules_laws.proofs.Following.{ready_done}
use Rattle.wu_rules_laws.proofs.Spent.{and_left, and_right}

-- ---- tests and what they say

done_of : (a : Assimilate) → is_done_assimilate a ≡ true → a ≡ assimilate.Done
done_of a e = grind arith

finished_of : (i : Instance) → is_finished i ≡ true → IsFinished i
finished_of i e = grind arith

finished_test : (i : Instance) → IsFinished i → is_finished i ≡ true
finished_test i it = grind arith

all_finished_of : (xs : List Instance) → list_all is_finished xs ≡ true → All IsFinished xs
all_finished_of xs e = All-weaker (λ i. is_finished i ≡ true) IsFinished finished_of xs (AllPass-from_list_all is_finished xs e)

all_finished_test : (xs : List Instance) → All IsFinished xs → list_all is_finished xs ≡ true
all_finished_test xs all = list_all-from_AllPass is_finished xs (All-weaker IsFinished (λ i. is_finished i ≡ true) finished_test xs all)

-- where all pass a test, the one at a place does
passes_at : (p : Instance → Bool) (xs : List Instance) (n : ℕ) (i : Instance) → list_all p xs ≡ true → slice_get xs n ≡ Some i → p i ≡ true
passes_at p [] n i all e = cc
passes_at p (x ∷ xs) zero i all e = let here : p x ≡ true = and_left (p x) (list_all p xs) all in cc
passes_at p (x ∷ xs) (suc n) i all e = passes_at p xs n i (and_right (p x) (list_all p xs) all) e

-- ---- one file

-- a file by whether its workunit is assimilated and whether it may go
file_of : (done may : Bool) → FileDelete → FileDelete
file_of done may f = cond done (readied_file may f) f

named_file : (done may : Bool) (f : FileDelete) → IsNamed f (file_of done may f) → (done ≡ true) × (may ≡ true)
unfolding file_of
named_file done may f it = grind arith

file_named : (f : FileDelete) → f ≡ file_delete.Init → IsNamed f (file_of true true f)
unfolding file_of
file_named f e = (e, ap (λ g. readied_file true g) e)

file_stays : (done may : Bool) (f : FileDelete) → (file_of done may f ≡ f) ⊎ IsNamed f (file_of done may f)
unfolding file_of
file_stays done may f = grind arith

-- ---- what naming sees

done_settled : (e : Workunit) → is_done_assimilate (settled e).assimilate ≡ is_done_assimilate e.assimilate
done_settled e = cond_keeps (λ v. is_done_assimilate v.assimilate) (is_clear e.error_mask) e (ended e) (sym (ready_done e.assimilate)) ∙ ready_done e.assimilate

all_named : (p : Instance → Bool) → ((b : Bool) (n : ℕ) (c : Option ℕ) (x : Instance) → p (with_output_readied c b n x) ≡ p x) → (s : Workunit)
    → list_all p (readied s).instances ≡ list_all p s.instances
all_named p same s =
    cond_keeps (λ v. list_all p v.instances) (is_done_assimilate s.assimilate) (with_files_readied s) s
    (all-placed p p (with_output_readied s.canonical (list_all is_finished s.instances)) (λ n x. same (list_all is_finished s.instances) n s.canonical x) 0 s.instances)

-- the file of an instance is named by nothing else
file_kept : (now : ℕ) (clear : Bool) (i : Instance) → (cond clear (timed_out now i) (given_up (timed_out now i))).file_delete ≡ i.file_delete
file_kept now clear i = grind arith

-- ---- when an output may go

may_of : (c : Option ℕ) (all : Bool) (n : ℕ) (j : Instance) → (all ≡ true → is_finished j ≡ true) → may_output_go c all n j ≡ true
    → (is_finished j ≡ true) × (c ≡ Some n → all ≡ true)
may_of c all n j each e = grind (arith, nat_tests)

may_test : (c : Option ℕ) (all : Bool) (n : ℕ) (j : Instance) → is_finished j ≡ true → (c ≡ Some n → all ≡ true) → may_output_go c all n j ≡ true
may_test c all n j finished after = grind (arith, nat_tests)

-- ---- the law

-- before files are named
abbrev before : Workunit → ℕ → Workunit
before w now = settled (extended (timed w now))

-- an instance before its file is named
abbrev as_ended : Workunit → ℕ → Instance → Instance
as_ended w now i = cond (is_clear (extended (timed w now)).error_mask) (timed_out now i) (given_up (timed_out now i))

input_is : (w : Workunit) (now : ℕ) → (transitioned w now).file_delete
    ≡ file_of (is_done_assimilate w.assimilate) (list_all is_over (transitioned w now).instances) w.file_delete
unfolding transitioned file_of
input_is w now =
    by (is_done_assimilate (before w now).assimilate)
    ∙ (ap (λ f. file_of (is_done_assimilate (before w now).assimilate) (is_all_over (before w now)) f) same
    ∙ (ap (λ b. file_of b (is_all_over (before w now)) w.file_delete) (done_settled (extended (timed w now)))
    ∙ ap (λ b. file_of (is_done_assimilate w.assimilate) b w.file_delete) (sym (all_named is_over (λ b n c x. refl) (before w now)))))
  where
    same : (before w now).file_delete ≡ w.file_delete
    same = cond_keeps (λ v. v.file_delete) (is_clear (extended (timed w now)).error_mask) (extended (timed w now)) (ended (extended (timed w now))) refl

    by : (b : Bool) → (cond b (with_files_readied (before w now)) (before w now)).file_delete ≡ file_of b (is_all_over (before w now)) (before w now).file_delete
    by true = refl
    by false = refl

-- an output that is named or not, by whether it may go
output_is : (w : Workunit) (now n : ℕ) (i j : Instance) → slice_get w.instances n ≡ Some i → slice_get (transitioned w now).instances n ≡ Some j
    → j.file_delete ≡ file_of (is_done_assimilate w.assimilate) (may_output_go w.canonical (list_all is_finished (transitioned w now).instances) n j) i.file_delete
unfolding transitioned file_of
output_is w now n i j here there =
    ap (λ y. y.file_delete) is
    ∙ (file_by (is_done_assimilate x.assimilate)
    ∙ (ap (λ b. file_of b (may_output_go x.canonical (list_all is_finished x.instances) n k) k.file_delete) (done_settled (extended (timed w now)))
    ∙ (ap (λ f. file_of (is_done_assimilate w.assimilate) (may_output_go x.canonical (list_all is_finished x.instances) n k) f) (file_kept now (is_clear (extended (timed w now)).error_mask) i)
    ∙ ap (λ b. file_of (is_done_assimilate w.assimilate) b i.file_delete) going)))
  where
    x : Workunit
    x = before w now

    k : Instance
    k = as_ended w now i

    is : j ≡ cond (is_done_assimilate (before w now).assimilate)
        (with_output_readied (before w now).canonical (list_all is_finished (before w now).instances) n (as_ended w now i)) (as_ended w now i)
    is = let both = sym there ∙ readied_at (before w now) n (as_ended w now i) (settled_at w now n i here) in cc

    file_by : (b : Bool)
        → (cond b (with_output_readied (before w now).canonical (list_all is_finished (before w now).instances) n (as_ended w now i)) (as_ended w now i)).file_delete
        ≡ file_of b (may_output_go (before w now).canonical (list_all is_finished (before w now).instances) n (as_ended w now i)) (as_ended w now i).file_delete
    file_by true = refl
    file_by false = refl

    finished_by : (b : Bool)
        → is_finished (as_ended w now i)
        ≡ is_finished (cond b (with_output_readied (before w now).canonical (list_all is_finished (before w now).instances) n (as_ended w now i)) (as_ended w now i))
    finished_by true = refl
    finished_by false = refl

    going : may_output_go (before w now).canonical (list_all is_finished (before w now).instances) n (as_ended w now i)
        ≡ may_output_go w.canonical (list_all is_finished (transitioned w now).instances) n j
    going =
        ap (λ c. may_output_go c (list_all is_finished (before w now).instances) n (as_ended w now i)) (settled_keeps (extended (timed w now)))
        ∙ (ap (λ b. may_output_go w.canonical b n (as_ended w now i)) (sym (all_named is_finished (λ b n c y. refl) (before w now)))
        ∙ ap (λ b. cond (option_map_or (λ c. c == n) w.canonical false) (list_all is_finished (transitioned w now).instances) b)
        (finished_by (is_done_assimilate (before w now).assimilate) ∙ ap is_finished (sym is)))

pub names_files : (w : Workunit) (now : ℕ) → NamesFiles w (transitioned w now)
names_files w now = record {
  input = (input_of, input_named);
  no_other_input = subst (λ g. (g ≡ w.file_delete) ⊎ IsNamed w.file_delete g) (sym (input_is w now)) (file_stays (is_done_assimilate w.assimilate) over w.file_delete);
  output = λ n i j here there. (output_of n i j here there, output_named n i j here there);
  no_other_output = λ n i j here there. subst (λ g. (g ≡ i.file_delete) ⊎ IsNamed i.file_delete g) (sym (output_is w now n i j here there))
      (file_stays (is_done_assimilate w.assimilate) (may_output_go w.canonical (list_all is_finished v.instances) n j) i.file_delete);
}
  where
    v : Workunit
    v = transitioned w now

    over : Bool
    over = list_all is_over (transitioned w now).instances

    input_of : IsNamed w.file_delete (transitioned w now).file_delete
        → (w.assimilate ≡ assimilate.Done) × (w.file_delete ≡ file_delete.Init) × All (λ j. is_over j ≡ true) (transitioned w now).instances
    input_of it =
        let parts = named_file (is_done_assimilate w.assimilate) over w.file_delete (subst (IsNamed w.file_delete) (input_is w now) it) in
        (done_of w.assimilate parts.0, it.0, AllPass-from_list_all is_over v.instances parts.1)

    input_named : (w.assimilate ≡ assimilate.Done) × (w.file_delete ≡ file_delete.Init) × All (λ j. is_over j ≡ true) (transitioned w now).instances
        → IsNamed w.file_delete (transitioned w now).file_delete
    input_named it =
        let done : is_done_assimilate w.assimilate ≡ true = ap is_done_assimilate it.0 in
        let all : over ≡ true = list_all-from_AllPass is_over v.instances it.2 in
        subst (IsNamed w.file_delete) (sym (input_is w now ∙ (ap (λ d. file_of d over w.file_delete) done ∙ ap (λ m. file_of true m w.file_delete) all)))
        (file_named w.file_delete it.1)

    all_through : Bool
    all_through = list_all is_finished (transitioned w now).instances

    output_of : (n : ℕ) (i j : Instance) → slice_get w.instances n ≡ Some i → slice_get (transitioned w now).instances n ≡ Some j
        → IsNamed i.file_delete j.file_delete → MayGo w (transitioned w now) n i j
    output_of n i j here there it =
        let parts = named_file (is_done_assimilate w.assimilate) (may_output_go w.canonical all_through n j) i.file_delete
        (subst (IsNamed i.file_delete) (output_is w now n i j here there) it) in
        let go = may_of w.canonical all_through n j (λ all. passes_at is_finished v.instances n j all there) parts.1 in
        record {
          assimilated = done_of w.assimilate parts.0;
          not_yet = it.0;
          finished = finished_of j go.0;
          after_all = λ is. all_finished_of v.instances (go.1 is);
        }

    output_named : (n : ℕ) (i j : Instance) → slice_get w.instances n ≡ Some i → slice_get (transitioned w now).instances n ≡ Some j
        → MayGo w (transitioned w now) n i j → IsNamed i.file_delete j.file_delete
    output_named n i j here there it =
        let done : is_done_assimilate w.assimilate ≡ true = ap is_done_assimilate it.assimilated in
        let go : may_output_go w.canonical all_through n j ≡ true =
        may_test w.canonical all_through n j (finished_test j it.finished) (λ is. all_finished_test v.instances (it.after_all is)) in
        subst (IsNamed i.file_delete)
        (sym (output_is w now n i j here there ∙ (ap (λ d. file_of d (may_output_go w.canonical all_through n j) i.file_delete) done ∙ ap (λ m. file_of true m i.file_delete) go)))
        (file_named i.file_delete it.not_yet)
