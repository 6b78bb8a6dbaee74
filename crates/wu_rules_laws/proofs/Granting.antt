-- Which results are granted credit, and how a canonical one is chosen.
use Rattle.std.proofs.Common.{◌≡◌, ℕ, zero, suc, ◌+◌, ◌/◌, ◌<◌, nat_le, Bool, true, false, cond, ◌&&◌, List, [], ◌∷◌, map, length, filter, Option, Some, None, refl, sym, ap, subst, ◌∙◌, bytes_eq, zero-add, leb-true, le-leb, ◌↔◌, arith}
use Rattle.std.specs.List.{position_from, filter_map, cons_option, enumerate_from, slice_get, All, AllByRecursion, AllPairs}
use Rattle.std.specs.Option.{option_map}
use Rattle.std.proofs.lemmas.Option.{slice_get-map}
use Rattle.std.proofs.lemmas.List.Elements.{All-from_recursion, All-weaker}
use Rattle.std.proofs.lemmas.List.Kept.{AllPairs-cons}
use Rattle.wu_core.specs.declared.workunit.Instance.{Instance}
use Rattle.wu_core.specs.declared.workunit.Workunit.{Workunit}
use Rattle.wu_core.specs.declared.workunit.Grant.{Grant}
use Rattle.wu_core.specs.Parameters.{Parameters}
use Rattle.wu_core.specs.declared.states.ValidateState.TheVariants as validate
use Rattle.wu_rules.specs.Instances.{is_viable, is_open_verdict}
use Rattle.wu_rules.specs.Counts.{viable, agreeing, is_agreed, consensus}
use Rattle.wu_rules.specs.Validation.{checked, concluded, credited, output_at, judged_by, judged_late_by, agreed_on, validated, grant_of, is_judged, granted_to, grants_by, grants}
use Rattle.wu_rules_laws.specs.Laws.{IsChosen, rehosted, IsRightGrantIn}
use Rattle.wu_rules.proofs.Lists.{count_step}
use Rattle.wu_rules_laws.proofs.Changed.{placed, count-placed}
use Rattle.wu_rules_laws.proofs.Checking.{at_checked, becomes_checked, checked_in, checked_number, checked_params, concluded_has, late, stands_checked}
use Rattle.wu_rules_laws.proofs.Spent.{and_from, and_left, and_right}

-- ---- the first that passes

-- x stands at k and passes, and nothing before it does
pub record First {A : Type 0} (p : A → Bool) (xs : List A) (k : ℕ) (x : A) : Type 0 where
  stands : slice_get xs k ≡ Some x
  passes : p x ≡ true
  before : (j : ℕ) (y : A) → j < k → slice_get xs j ≡ Some y → p y ≡ false

first_here : {A : Type 0} (p : A → Bool) (x : A) (xs : List A) → p x ≡ true → First p (x ∷ xs) 0 x
first_here p x xs h = record { stands = refl; passes = h; before = λ j y lt g. absurd (omega arith) }

first_later : {A : Type 0} (p : A → Bool) (x : A) (xs : List A) (k : ℕ) (y : A) → p x ≡ false → First p xs k y → First p (x ∷ xs) (suc k) y
first_later {A} p x xs k y h f = record { stands = f.stands; passes = f.passes; before = earlier }
  where
    earlier : (j : ℕ) (z : A) → j < suc k → slice_get (x ∷ xs) j ≡ Some z → p z ≡ false
    earlier zero z lt g = let same : x ≡ z = cc in subst (λ v. p v ≡ false) same h
    earlier (suc j) z lt g = f.before j z (omega arith) g

pub position_from-first : {A : Type 0} (p : A → Bool) (s : ℕ) (xs : List A) (n : ℕ) → position_from p s xs ≡ Some n → (k : ℕ) × (x : A) × (n ≡ s + k) × First p xs k x
position_from-first p s [] n e = cc
position_from-first {A} p s (x ∷ xs) n e = by_case (p x) refl e (λ f. position_from-first p (s + 1) xs n f)
  where
    by_case : (b : Bool) → b ≡ p x → cond b (Some s) (position_from p (s + 1) xs) ≡ Some n → (position_from p (s + 1) xs ≡ Some n → (k : ℕ) × (y : A) × (n ≡ s + 1 + k) × First p xs k y) → (k : ℕ) × (y : A) × (n ≡ s + k) × First p (x ∷ xs) k y
    by_case true h f r = (0, x, (let here : s ≡ n = cc in omega arith), first_here p x xs (sym h))
    by_case false h f r = let found = r f in (suc found.0, found.1, omega (arith, found.2), first_later p x xs found.0 found.1 (sym h) found.3)

-- the choice is a viable success on which enough agree, and the first such
pub chosen : (w : Workunit) (n : ℕ) → consensus w ≡ Some n → IsChosen w n
chosen w n e =
    let found = position_from-first (is_agreed w) 0 w.instances n e in
    let x = found.1 in
    let same : found.0 ≡ n = omega (arith, found.2) in
    let enough = nat_le (w.params.min_quorum / 2 + 1) (length (agreeing x.output (viable w))) in
    record {
      chosen = x;
      stands = subst (λ m. slice_get w.instances m ≡ Some x) same found.3.stands;
      is_viable = and_left (is_viable x) enough found.3.passes;
      enough = leb-true (w.params.min_quorum / 2 + 1) (length (agreeing x.output (viable w))) (and_right (is_viable x) enough found.3.passes);
      first = λ j y lt g. found.3.before j y (omega arith) g;
    }

-- where the first that passes stands is what is found
position_from-found : {A : Type 0} (p : A → Bool) (s : ℕ) (xs : List A) (k : ℕ) (x : A) → First p xs k x → position_from p s xs ≡ Some (s + k)
position_from-found p s [] k x f = let none : None ≡ Some x = f.stands in cc
position_from-found {A} p s (y ∷ ys) zero x f =
    let own : y ≡ x = (let stands : Some y ≡ Some x = f.stands in cc) in
    ap (λ b. cond b (Some s) (position_from p (s + 1) ys)) (ap p own ∙ f.passes) ∙ (let e : s ≡ s + 0 = omega arith in ap Some e)
position_from-found {A} p s (y ∷ ys) (suc k) x f =
    ap (λ b. cond b (Some s) (position_from p (s + 1) ys)) (f.before 0 y (omega arith) refl)
    ∙ (position_from-found p (s + 1) ys k x (record { stands = f.stands; passes = f.passes; before = λ j z lt g. f.before (suc j) z (omega arith) g })
    ∙ (let e : s + 1 + k ≡ s + suc k = omega arith in ap Some e))

-- such a result is the choice
chosen_first : (w : Workunit) (n : ℕ) → IsChosen w n → consensus w ≡ Some n
chosen_first w n h =
    let enough = le-leb (w.params.min_quorum / 2 + 1) (length (agreeing h.chosen.output (viable w))) h.enough in
    position_from-found (is_agreed w) 0 w.instances n h.chosen (record { stands = h.stands; passes = and_from (is_viable h.chosen) _ h.is_viable enough; before = h.first })
    ∙ ap Some (zero-add n)

-- the choice is exactly the first on which enough agree
pub chosen_exactly : (w : Workunit) (n : ℕ) → (consensus w ≡ Some n) ↔ IsChosen w n
chosen_exactly w n = (chosen w n, chosen_first w n)

-- ---- hosts

-- a filter of a filter counts what passes both
count_both : {A : Type 0} (p q : A → Bool) (xs : List A) → length (filter q (filter p xs)) ≡ length (filter (λ x. p x && q x) xs)
count_both p q [] = refl
count_both {A} p q (x ∷ xs) = by_case (p x) (q x) refl refl (count_both p q xs)
  where
    rest : List A
    rest = filter (λ y. p y && q y) xs

    by_case : (b c : Bool) → b ≡ p x → c ≡ q x → length (filter q (filter p xs)) ≡ length rest → length (filter q (cond b (x ∷ filter p xs) (filter p xs))) ≡ length (cond (b && q x) (x ∷ rest) rest)
    by_case true c e f h = count_step (q x) (q x) x x (filter q (filter p xs)) rest refl h
    by_case false c e f h = h

agreeing-rehosted : (hosts : ℕ → Instance → Option (List ℕ)) (w : Workunit) (output : List ℕ) → length (agreeing output (viable (rehosted hosts w))) ≡ length (agreeing output (viable w))
agreeing-rehosted hosts w output =
    count_both is_viable (λ i. bytes_eq i.output output) (rehosted hosts w).instances
    ∙ (count-placed (λ i. is_viable i && bytes_eq i.output output) (λ i. is_viable i && bytes_eq i.output output) (λ n i. record i { host = hosts n i }) (λ n i. refl) 0 w.instances
    ∙ sym (count_both is_viable (λ i. bytes_eq i.output output) w.instances))

position-placed : {A B : Type 0} (p : B → Bool) (q : A → Bool) (f : ℕ → A → B) → ((n : ℕ) (x : A) → p (f n x) ≡ q x) → (s t : ℕ) (xs : List A) → position_from p t (placed f s xs) ≡ position_from q t xs
position-placed p q f same s t [] = refl
position-placed p q f same s t (x ∷ xs) = ap (λ b. cond b (Some t) (position_from p (t + 1) (placed f (s + 1) xs))) (same s x) ∙ ap (λ o. cond (q x) (Some t) o) (position-placed p q f same (s + 1) (t + 1) xs)

pub consensus-rehosted : (hosts : ℕ → Instance → Option (List ℕ)) (w : Workunit) → consensus (rehosted hosts w) ≡ consensus w
consensus-rehosted hosts w =
    position-placed (is_agreed (rehosted hosts w)) (is_agreed w) (λ n i. record i { host = hosts n i }) (λ n i. ap (λ k. is_viable i && nat_le (w.params.min_quorum / 2 + 1) k) (agreeing-rehosted hosts w i.output)) 0 0 w.instances

-- ---- grants

-- what holds of each that is kept of the elements holds of all
pub kept_all : {A B : Type 0} (P : B → Type 0) (h : ℕ → A → Option B) (s : ℕ) (xs : List A) → ((k : ℕ) (x : A) (b : B) → slice_get xs k ≡ Some x → h (s + k) x ≡ Some b → P b) → AllByRecursion P (filter_map (λ p. h p.0 p.1) (enumerate_from s xs))
kept_all P h s [] each = tt
kept_all {A} {B} P h s (x ∷ xs) each = by_case (h s x) refl (kept_all P h (s + 1) xs (λ k y b here given. each (suc k) y b here ((let e : s + suc k ≡ s + 1 + k = omega arith in ap (λ m. h m y) e) ∙ given)))
  where
    rest : List B
    rest = filter_map (λ p. h p.0 p.1) (enumerate_from (s + 1) xs)

    by_case : (o : Option B) → o ≡ h s x → AllByRecursion P rest → AllByRecursion P (cons_option o rest)
    by_case None e r = r
    by_case (Some b) e r = (each 0 x b refl ((let z : s + 0 ≡ s = omega arith in ap (λ m. h m x) z) ∙ sym e), r)

pub granted_number : (w : Workunit) (output : List ℕ) (n : ℕ) (i : Instance) (g : Grant) → granted_to w output n i ≡ Some g → (is_judged w i ≡ true) × (bytes_eq i.output output ≡ true) × (option_map (λ host. record { workunit = w.number; n = n; host = host; credit = w.params.credit }) i.host ≡ Some g)
granted_number w output n i g e = grind arith

-- the parts of a grant
pub record NamesBy (w : Workunit) (n : ℕ) (o : Option (List ℕ)) (g : Grant) : Type 0 where
  pub workunit : g.workunit ≡ w.number
  pub number : g.n ≡ n
  pub host : o ≡ Some g.host
  pub credit : g.credit ≡ w.params.credit

pub names : (w : Workunit) (n : ℕ) (i : Instance) (g : Grant) → grant_of w n i ≡ Some g → NamesBy w n i.host g
names w n i g e = grind arith

judged_open : (w : Workunit) (i : Instance) → is_judged w i ≡ true → is_open_verdict i.validate_state ≡ true
judged_open w i judged = grind arith

-- a grant of these, for an instance that is judged and becomes VALID
right : (w : Workunit) (f : Instance → Instance) (output : List ℕ) (v : Workunit) → v.instances ≡ map f w.instances → ((i : Instance) → is_judged w i ≡ true → bytes_eq i.output output ≡ true → (f i).validate_state ≡ validate.Valid) → AllByRecursion (IsRightGrantIn w v) (grants_by w output)
right w f output v images valid = kept_all (IsRightGrantIn w v) (granted_to w output) 0 w.instances each
  where
    each : (k : ℕ) (i : Instance) (g : Grant) → slice_get w.instances k ≡ Some i → granted_to w output (0 + k) i ≡ Some g → IsRightGrantIn w v g
    each k i g here given =
        let parts = granted_number w output (0 + k) i g given in
        let named = names w (0 + k) i g parts.2 in
        let at : g.n ≡ k = named.number ∙ zero-add k in
        record {
          instance = i;
          stands = ap (λ m. slice_get w.instances m) at ∙ here;
          open_before = judged_open w i parts.0;
          valid_after =
              ap (λ m. option_map (λ j. j.validate_state) (slice_get v.instances m)) at
              ∙ (ap (λ zs. option_map (λ j. j.validate_state) (slice_get zs k)) images
              ∙ (ap (λ o. option_map (λ j. j.validate_state) o) (slice_get-map f w.instances k ∙ ap (λ o. option_map f o) here)
              ∙ ap Some (valid i parts.0 parts.1)));
          host = named.host;
          workunit = named.workunit;
          credit = named.credit;
        }

-- before the decision a viable success with this output becomes VALID, after it a new one
valid_agreed : (w : Workunit) (output : List ℕ) (i : Instance) → w.canonical ≡ None → is_judged w i ≡ true → bytes_eq i.output output ≡ true
    → (judged_by output i).validate_state ≡ validate.Valid
valid_agreed w output i none judged e = grind arith

valid_late : (w : Workunit) (output : List ℕ) (i : Instance) (c : ℕ) → w.canonical ≡ Some c → is_judged w i ≡ true → bytes_eq i.output output ≡ true
    → (judged_late_by false output i).validate_state ≡ validate.Valid
valid_late w output i c some judged e = grind arith

pub credits_right : (w : Workunit) → All (IsRightGrantIn w (concluded w)) (credited w)
credits_right w = All-from_recursion (IsRightGrantIn w (concluded w)) (credited w)
    (concluded_has (λ v gs. AllByRecursion (IsRightGrantIn w v) gs) w tt (λ c looked some. tt)
    (λ c looked some. right w (judged_late_by false (output_at w.instances c)) (output_at w.instances c) (late w false c) refl
    (λ i j e. valid_late w (output_at w.instances c) i c some j e))
    (λ n looked none agreed. right w (judged_by (output_at w.instances n)) (output_at w.instances n) (agreed_on w n) refl
    (λ i j e. valid_agreed w (output_at w.instances n) i none j e))
    (λ looked none. tt))

-- a grant of what is left is of an instance that was open before
right_before : (w v : Workunit) (g : Grant) → IsRightGrantIn (checked w) v g → IsRightGrantIn w v g
right_before w v g r = by_case (slice_get w.instances g.n) refl
  where
    was_open : (i : Instance) → checked_in w i ≡ r.instance → (b : Bool) → is_open_verdict i.validate_state ≡ b → is_open_verdict i.validate_state ≡ true
    was_open i same true e = e
    was_open i same false e =
        let verdict : r.instance.validate_state ≡ i.validate_state = sym (ap (λ (j : Instance). j.validate_state) same) ∙ (becomes_checked w i).final e in
        let both : true ≡ false = sym r.open_before ∙ (ap is_open_verdict verdict ∙ e) in
        cc

    by_case : (o : Option Instance) → slice_get w.instances g.n ≡ o → IsRightGrantIn w v g
    by_case None e =
        let none : None ≡ Some r.instance = sym (at_checked w g.n ∙ ap (option_map (checked_in w)) e) ∙ r.stands in
        absurd (cc)
    by_case (Some i) e =
        let there : Some (checked_in w i) ≡ Some r.instance = sym (stands_checked w g.n i e) ∙ r.stands in
        let same : checked_in w i ≡ r.instance = cc in
        record {
          instance = i;
          stands = e;
          open_before = was_open i same (is_open_verdict i.validate_state) refl;
          valid_after = r.valid_after;
          host = sym (becomes_checked w i).host ∙ (ap (λ (j : Instance). j.host) same ∙ r.host);
          workunit = r.workunit ∙ checked_number w;
          credit = r.credit ∙ ap (λ (p : Parameters). p.credit) (checked_params w);
        }

pub grants_right : (w : Workunit) → All (IsRightGrantIn w (validated w)) (grants w)
unfolding validated grants
grants_right w =
    All-weaker (IsRightGrantIn (checked w) (validated w)) (IsRightGrantIn w (validated w)) (right_before w (validated w)) (grants w) (credits_right (checked w))

-- ---- no second grant

increasing : (h : ℕ → Instance → Option Grant) → ((n : ℕ) (i : Instance) (g : Grant) → h n i ≡ Some g → g.n ≡ n) → (s : ℕ) (xs : List Instance) → AllPairs (λ a b. a.n < b.n) (filter_map (λ p. h p.0 p.1) (enumerate_from s xs))
increasing h number s [] = λ i j d lt inside. absurd (omega arith)
increasing h number s (x ∷ xs) = by_case (h s x) refl (increasing h number (s + 1) xs)
  where
    rest : List Grant
    rest = filter_map (λ p. h p.0 p.1) (enumerate_from (s + 1) xs)

    above : (g : Grant) → g.n ≡ s → All (λ b. g.n < b.n) rest
    above g at = All-from_recursion (λ b. g.n < b.n) rest (kept_all (λ b. g.n < b.n) h (s + 1) xs (λ k y b here given. let by = number (s + 1 + k) y b given in omega arith))

    by_case : (o : Option Grant) → o ≡ h s x → AllPairs (λ a b. a.n < b.n) rest → AllPairs (λ a b. a.n < b.n) (cons_option o rest)
    by_case None e r = r
    by_case (Some g) e r = AllPairs-cons (λ a b. a.n < b.n) g rest (above g (number s x g (sym e))) r

none_increasing : AllPairs {X = Grant} (λ a b. a.n < b.n) []
none_increasing = λ i j d lt inside. absurd (omega arith)

by_increasing : (w : Workunit) (output : List ℕ) → AllPairs (λ a b. a.n < b.n) (grants_by w output)
by_increasing w output = increasing (granted_to w output) (λ n i g e. (names w n i g (granted_number w output n i g e).2).number) 0 w.instances

credits_increasing : (w : Workunit) → AllPairs (λ a b. a.n < b.n) (credited w)
credits_increasing w =
    concluded_has (λ v gs. AllPairs (λ a b. a.n < b.n) gs) w none_increasing (λ c looked some. none_increasing)
    (λ c looked some. by_increasing w (output_at w.instances c)) (λ n looked none agreed. by_increasing w (output_at w.instances n))
    (λ looked none. none_increasing)

pub grants_increasing : (w : Workunit) → AllPairs (λ a b. a.n < b.n) (grants w)
unfolding grants
grants_increasing w = credits_increasing (checked w)
