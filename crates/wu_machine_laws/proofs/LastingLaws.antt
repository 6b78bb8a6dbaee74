-- What follows from what lasts over a list of requests.
use Rattle.std.proofs.Common.{◌≡◌, ◌<◌, ◌==◌, true, List, [], ◌∷◌, get_or, refl, sym, subst, ◌∙◌, arith}
use Rattle.std.proofs.lemmas.Bool.{eq-eqb}
use Rattle.std.proofs.lemmas.List.Elements.{All-cons, All-contains, All-nil}
use Rattle.std.proofs.lemmas.List.Folds.{list_any_at}
use Rattle.std.specs.List.{All}
use Rattle.wu_core.specs.World.{empty_world}
use Rattle.wu_core.specs.declared.workunit.Workunit.{Workunit}
use Rattle.wu_rules.specs.Consistent.{HostsApart}
use Rattle.wu_machine.specs.Machine.{fold_steps}
use Rattle.wu_machine.specs.Passes.{is_among}
use Rattle.wu_machine_laws.specs.Lasting.{HostsAreApart, NumbersAreGivenOnce, WhilePresent}
use Rattle.wu_machine_laws.proofs.Lasts.{Came, Continues}
use Rattle.wu_machine_laws.proofs.Middles.{Pairs, to_pairs}
use Rattle.wu_machine_laws.proofs.SoundLemmas.{empty_sound}
use Rattle.wu_machine_laws.proofs.SoundSteps.{sound_steps}
use Rattle.wu_machine_laws.proofs.SoundParts.{Ordered}

-- where numbers ascend, those of one number are one
pub one_of_number : (ws : List Workunit) → Pairs Ordered ws → All (λ (a : Workunit). All (λ (b : Workunit). a.number ≡ b.number → a ≡ b) ws) ws
one_of_number [] up = All-nil (λ (a : Workunit). All (λ (b : Workunit). a.number ≡ b.number → a ≡ b) [])
one_of_number (w ∷ ws) up =
    All-cons (λ (a : Workunit). All (λ (b : Workunit). a.number ≡ b.number → a ≡ b) (w ∷ ws)) w ws
    (All-cons (λ (b : Workunit). w.number ≡ b.number → w ≡ b) w ws (λ same. refl)
    (λ k d low same. let less = up.0 k d low in absurd (omega (arith, less, same))))
    (λ j e here. All-cons (λ (b : Workunit). (get_or ws j e).number ≡ b.number → get_or ws j e ≡ b) w ws
    (λ same. let less = up.0 j e here in absurd (omega (arith, less, same))) (one_of_number ws up.1 j e here))

-- what has the number of a workunit continues it
pub continues_on : WhilePresent Continues
continues_on world requests values sound k d low j e here same =
    let later = fold_steps world requests in
    let w = get_or world.workunits k d in
    let v = get_or later.workunits j e in
    let given : w.number < world.next_number = (sound.given k d low).1 in
    let came : Came world v = (sound_steps requests world values sound).1.came j e here (omega (arith, given, same)) in
    let alone = one_of_number world.workunits (to_pairs Ordered world.workunits sound.ascending) in
    let same_one : came.0 ≡ w =
    All-contains (λ (a : Workunit). All (λ (b : Workunit). a.number ≡ b.number → a ≡ b) world.workunits) world.workunits came.0 alone came.1 k d low
    (sym came.2.number ∙ same) in
    subst (λ u. Continues u v) same_one came.2

-- in a fresh project hosts are apart
pub hosts_are_apart : HostsAreApart
hosts_are_apart requests values = (sound_steps requests empty_world values empty_sound).1.apart (All-nil HostsApart)

-- what came from a world was there under its number
pub numbers_are_given_once : NumbersAreGivenOnce
numbers_are_given_once world requests values sound k d low old =
    let v = get_or (fold_steps world requests).workunits k d in
    let came : Came world v = (sound_steps requests world values sound).1.came k d low old in
    All-contains (λ (u : Workunit). u.number ≡ v.number → is_among world.workunits v ≡ true) world.workunits came.0
    (λ j e within same. list_any_at (λ (u : Workunit). u.number == v.number) world.workunits j e within (eq-eqb _ v.number same)) came.1 (sym came.2.number)
