-- Each instance gets one grant exactly where it is made VALID.
use Rattle.std.proofs.Common.{◌≡◌, ◌≢◌, ℕ, zero, suc, ◌+◌, ◌==◌, ◌<◌, Bool, true, false, not, cond, ◌&&◌, ◌||◌, List, [], ◌∷◌, length, filter, Option, Some, None, is_none, is_some, refl, sym, ap, ◌∙◌, bytes_eq, arith}
use Rattle.std.proofs.lemmas.Bool.{eq-eqb, ne_eqb}
use Rattle.std.proofs.lemmas.List.Elements.{All-weaker}
use Rattle.std.specs.List.{All, AllByRecursion, cons_option, enumerate_from, filter_map, slice_get}
use Rattle.std.specs.Option.{option_map_or}
use Rattle.wu_core.specs.Formed.{IsInstance}
use Rattle.wu_core.specs.declared.workunit.Grant.{Grant}
use Rattle.wu_core.specs.declared.workunit.Instance.{Instance}
use Rattle.wu_core.specs.declared.workunit.Workunit.{Workunit}
use Rattle.wu_rules.specs.Instances.{is_open_verdict, is_success, is_viable}
use Rattle.wu_rules.specs.Validation.{granted_to, grants_by, is_judged}
use Rattle.wu_rules.specs.Consistent.{GrantsToTheNew, IsGrantFor, is_valid_at, is_valid_verdict, one_if}
use Rattle.wu_rules_laws.specs.Laws.{IsRightGrantIn}
use Rattle.wu_rules_laws.proofs.Becoming.{AllBecome, judged_is_viable, same_host, valid_at}
use Rattle.wu_rules_laws.proofs.Granting.{granted_number, names}
use Rattle.wu_rules_laws.proofs.Spent.{and_left}

-- ---- how many grants have a number

-- what an element gives has its number
abbrev Numbers : (ℕ → Instance → Option Grant) → Type 0
Numbers h = (n : ℕ) (i : Instance) (g : Grant) → h n i ≡ Some g → g.n ≡ n

-- what the elements give, from this number on
abbrev given_from : (ℕ → Instance → Option Grant) → ℕ → List Instance → List Grant
given_from h s xs = filter_map (λ p. h p.0 p.1) (enumerate_from s xs)

-- how many have this number
abbrev numbered : ℕ → List Grant → ℕ
numbered n grants = length (filter (λ grant. grant.n == n) grants)

-- one more counts where it has the number
counts_own : (g : Grant) (rest : List Grant) (n : ℕ) → g.n ≡ n → numbered n (g ∷ rest) ≡ suc (numbered n rest)
counts_own g rest n e = ap (λ b. length (cond b (g ∷ filter (λ grant. grant.n == n) rest) (filter (λ grant. grant.n == n) rest))) (eq-eqb g.n n e)

-- an element with another number does not count
counts_other : (h : ℕ → Instance → Option Grant) → Numbers h → (s m : ℕ) (x : Instance) (rest : List Grant) → s ≢ m
    → numbered m (cons_option (h s x) rest) ≡ numbered m rest
counts_other h number s m x rest other = by_case (h s x) refl
  where
    by_case : (o : Option Grant) → o ≡ h s x → numbered m (cons_option o rest) ≡ numbered m rest
    by_case None e = refl
    by_case (Some g) e =
        ap (λ b. length (cond b (g ∷ filter (λ grant. grant.n == m) rest) (filter (λ grant. grant.n == m) rest)))
        (ne_eqb g.n m (λ same. other (sym (number s x g (sym e)) ∙ same)))

-- none has a number from before
none_before : (h : ℕ → Instance → Option Grant) → Numbers h → (s : ℕ) (xs : List Instance) (m : ℕ) → m < s → numbered m (given_from h s xs) ≡ 0
none_before h number s [] m lt = refl
none_before h number s (x ∷ xs) m lt =
    counts_other h number s m x (given_from h (s + 1) xs) (λ same. omega (arith, same, lt)) ∙ none_before h number (s + 1) xs m (omega arith)

-- one has the number of an element that gives one, and else none
numbered_at : (h : ℕ → Instance → Option Grant) (gives : Instance → Bool) → Numbers h → (s : ℕ) (xs : List Instance)
    → AllByRecursion (λ i. (n : ℕ) → is_some (h n i) ≡ gives i) xs → (k m : ℕ) → m ≡ s + k
    → numbered m (given_from h s xs) ≡ one_if (option_map_or gives (slice_get xs k) false)
numbered_at h gives number s [] all k m e = refl
numbered_at h gives number s (x ∷ xs) all zero m e = by_case (h s x) refl (none_before h number (s + 1) xs m (omega arith))
  where
    by_case : (o : Option Grant) → o ≡ h s x → numbered m (given_from h (s + 1) xs) ≡ 0
        → numbered m (cons_option o (given_from h (s + 1) xs)) ≡ one_if (gives x)
    by_case None f none = none ∙ ap one_if (ap is_some f ∙ all.0 s)
    by_case (Some g) f none =
        let at : g.n ≡ s = number s x g (sym f) in
        counts_own g (given_from h (s + 1) xs) m (omega (arith, at, e)) ∙ (ap suc none ∙ ap one_if (ap is_some f ∙ all.0 s))
numbered_at h gives number s (x ∷ xs) all (suc k) m e =
    counts_other h number s m x (given_from h (s + 1) xs) (λ same. omega (arith, same, e))
    ∙ numbered_at h gives number (s + 1) xs all.1 k m (omega arith)

-- ---- what is judged and equal gives a grant

-- a success has a host
pub success_host : (i : Instance) → IsInstance i → is_success i ≡ true → is_some i.host ≡ true
success_host i formed e = grind arith

-- an instance that is judged and equal, and has a host, gives a grant, and no other does
gives_grant : (w : Workunit) (output : List ℕ) (n : ℕ) (i : Instance) → (is_judged w i ≡ true → is_some i.host ≡ true)
    → is_some (granted_to w output n i) ≡ (is_judged w i && bytes_eq i.output output)
gives_grant w output n i host = grind arith

-- ---- what a validation grants

-- what is made VALID is that which is VALID now and was not
made_new : (made now before : Bool) → now ≡ (made || before) → (made ≡ true → before ≡ false) → made ≡ (now && not before)
made_new made now before e f = grind arith

-- what is made VALID was not
made_open : (made : Instance → Bool) → ((i : Instance) → made i ≡ true → is_viable i ≡ true) → (o : Option Instance) → option_map_or made o false ≡ true
    → option_map_or (λ i. is_valid_verdict i.validate_state) o false ≡ false
made_open made viable o e = grind arith

-- of well-formed instances each that is judged and equal gives a grant
all_give : (w : Workunit) (output : List ℕ) (xs : List Instance) → AllByRecursion IsInstance xs
    → AllByRecursion (λ i. (n : ℕ) → is_some (granted_to w output n i) ≡ (is_judged w i && bytes_eq i.output output)) xs
all_give w output [] all = tt
all_give w output (x ∷ xs) all = (
  (λ n. gives_grant w output n x (λ e. success_host x all.0 (and_left (is_success x) (is_open_verdict x.validate_state) (judged_is_viable (is_none w.canonical) x e)))),
  all_give w output xs all.1,
)

-- the grants by an output, where what is judged and equal to it is made VALID
pub grants_new : (w v : Workunit) (output : List ℕ) → AllByRecursion IsInstance w.instances
    → AllBecome (λ i. is_judged w i && bytes_eq i.output output) w.instances v.instances → v.params.credit ≡ w.params.credit
    → All (IsRightGrantIn w v) (grants_by w output) → GrantsToTheNew w v (grants_by w output)
grants_new w v output formed become credit right = record {
  workunit = All-weaker (IsRightGrantIn w v) (λ g. g.workunit ≡ w.number) (λ g r. r.workunit) (grants_by w output) right;
  each = λ n. counted n ∙ ap one_if (new_at n);
  own = All-weaker (IsRightGrantIn w v) (IsGrantFor v) own (grants_by w output) right;
}
  where
    made : Instance → Bool
    made i = is_judged w i && bytes_eq i.output output

    counted : (n : ℕ) → length (filter (λ grant. grant.n == n) (grants_by w output)) ≡ one_if (option_map_or made (slice_get w.instances n) false)
    counted n =
        numbered_at (granted_to w output) made (λ m i g e. (names w m i g (granted_number w output m i g e).2).number) 0 w.instances
        (all_give w output w.instances formed) n n (omega arith)

    new_at : (n : ℕ) → option_map_or made (slice_get w.instances n) false ≡ (is_valid_at v.instances n && not (is_valid_at w.instances n))
    new_at n =
        made_new (option_map_or made (slice_get w.instances n) false) (is_valid_at v.instances n) (is_valid_at w.instances n)
        (valid_at made w.instances v.instances become n)
        (made_open made (λ i e. judged_is_viable (is_none w.canonical) i (and_left (is_judged w i) (bytes_eq i.output output) e)) (slice_get w.instances n))

    own : (g : Grant) → IsRightGrantIn w v g → IsGrantFor v g
    own g r = record {
      host =
          same_host made w.instances v.instances become g.n
          ∙ (ap (λ o. option_map_or (λ (i : Instance). i.host) o None) r.stands ∙ r.host);
      credit = r.credit ∙ sym credit;
    }
