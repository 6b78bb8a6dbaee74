-- The program with one subcommand alone finds and refuses in the words of that subcommand what the program does.
use Rattle.std.proofs.Common.{◌≡◌, ◌∙◌, ◌++◌, ◌∷◌, List, [], Option, Some, true, false, ap, ap₂, append-nil, append_assoc, find, fold, refl, subst, sym}
use Rattle.std.specs.Prelude.{is_some, option_map, Result, Ok, Err, IfOk, IfSome, OnOk, OnSome}
use Rattle.std.specs.Result.{result_ok}
use Rattle.std.specs.Option.{option_map_or}
use Rattle.clap.specs.Faults.{built_fault, level_fault, turn_fault, walk_fault, settle_fault, defaults_fault, check_fault, entered_fault, fault_of, is_simple_and_free}
use Rattle.clap.specs.Kinds.{Kinds, or_else}
use Rattle.clap.specs.Simple.{App, Shape, built, entered, label_of, names_of, rows_at, subcommand_of, subcommand_rows_of}
use Rattle.clap.specs.Walk.{Names, Rule, Text, Walk, answers_to, finished, idle, nothing_held, settled, subcommand_met, walk, walk_from, walked}
use Rattle.clap.specs.declared.parser.matches.ArgMatches.{ArgMatches}
use Rattle.wu_arguments.specs.declared.usage.Usage.{Usage}
use Rattle.wu_arguments.specs.CommandLine.{all_subcommands, named_by, program, program_alone, subcommand_name}
use Rattle.wu_arguments.specs.declared.subcommand.Subcommand.{Subcommand}
use Rattle.wu_arguments.specs.declared.subcommand.Subcommand.TheVariants.{Import, Pass}
use Rattle.wu_core.specs.declared.import.ImportKind.TheVariants as kind
use Rattle.wu_rules.specs.declared.due.Pass.TheVariants as pass
use Rattle.wu_arguments.proofs.OrderLemmas.{its_name}

-- ---- of each subcommand

abbrev whole : App
whole = built program

abbrev small : Subcommand → App
small one = built (program_alone one)

abbrev shape_in : App → Text → Option Shape
shape_in app name = find (λ s. answers_to name (label_of s)) app.subs

-- what is seen of a subcommand by computing
abbrev IsSeen : Subcommand → Type 0
IsSeen one = record {
  free : is_simple_and_free (program_alone one) ≡ true;
  top : (small one).top ≡ whole.top;
  met : subcommand_met (names_of (small one)) idle (subcommand_name one) ≡ Some (subcommand_name one);
  met_too : subcommand_met (names_of whole) idle (subcommand_name one) ≡ Some (subcommand_name one);
  shape : shape_in (small one) (subcommand_name one) ≡ shape_in whole (subcommand_name one);
  passes : turn_fault whole.top (names_of (small one)) (walk_from nothing_held) (subcommand_name one) ≡ [];
  passes_too : turn_fault whole.top (names_of whole) (walk_from nothing_held) (subcommand_name one) ≡ [];
}

seen : (one : Subcommand) → IsSeen one
seen (Import kind.Batch) = record { free = refl; top = refl; met = refl; met_too = refl; shape = refl; passes = refl; passes_too = refl }
seen (Pass pass.Transition) = record { free = refl; top = refl; met = refl; met_too = refl; shape = refl; passes = refl; passes_too = refl }
seen _ = record { free = refl; top = refl; met = refl; met_too = refl; shape = refl; passes = refl; passes_too = refl }

pub alone_is_free : (one : Subcommand) → is_simple_and_free (program_alone one) ≡ true
alone_is_free one = (seen one).free

-- ---- a walk that met a subcommand

-- it stands where it met the name, with these words after it
abbrev stopped_at : Text → List Text → Walk
stopped_at name after = record (walk_from nothing_held) { stopped = Some (name, after) }

module _ (c : List Rule) (names : Names) (name : Text) where
  goes_on : (after rest : List Text) → fold (walked c names) (stopped_at name after) rest ≡ stopped_at name (after ++ rest)
  unfolding walked
  goes_on after [] = ap (stopped_at name) (sym (append-nil after))
  goes_on after (word ∷ rest) = goes_on (after ++ word ∷ []) rest ∙ ap (stopped_at name) (append_assoc after (word ∷ []) rest)

  meets : subcommand_met names idle name ≡ Some name → walked c names (walk_from nothing_held) name ≡ stopped_at name []
  unfolding walked
  meets met = rw met refl

  -- the walk over its name and what follows
  stops : subcommand_met names idle name ≡ Some name → (rest : List Text) → walk c names nothing_held (name ∷ rest) ≡ stopped_at name rest
  stops met rest = ap (λ w. fold (walked c names) w rest) (meets met) ∙ goes_on [] rest

module _ (s : Shape) (names : Names) (name : Text) where
  passes_on : (after rest : List Text) → walk_fault s names (stopped_at name after) rest ≡ []
  unfolding walk_fault walked
  passes_on after [] = refl
  passes_on after (word ∷ rest) = passes_on (after ++ word ∷ []) rest

  -- no fault is met
  passes_all : subcommand_met names idle name ≡ Some name → turn_fault s names (walk_from nothing_held) name ≡ [] → (rest : List Text) → walk_fault s names (walk_from nothing_held) (name ∷ rest) ≡ []
  unfolding walk_fault
  passes_all met none rest = rw (none, meets s.rules names name met) (passes_on [] rest)

-- ---- what an app makes of words that begin with the name of a subcommand

-- what a level refuses after such a walk
abbrev after_walk : App → Walk → Kinds → Kinds
after_walk app w met = or_else met
    (or_else (entered_fault app w.stopped) (or_else (settle_fault app.top.rules app.top.args_override_self w.held)
    (or_else (defaults_fault (settled app.top.rules w.held).rows app.top.rules) (check_fault app.top (finished app.top.rules w.held) (is_some (entered app w.stopped))))))

-- of the top and of the subcommand's shape, as far as they are
abbrev fault_in : Shape → List Text → Option Shape → Kinds
fault_in top rest shape = or_else (option_map_or (λ s. level_fault s [] nothing_held rest false []) shape [])
    (or_else (settle_fault top.rules top.args_override_self nothing_held)
    (or_else (defaults_fault (settled top.rules nothing_held).rows top.rules) (check_fault top (finished top.rules nothing_held) (is_some (option_map (λ s. rows_at s rest) shape)))))

module _ (app : App) (name : Text) (met : subcommand_met (names_of app) idle name ≡ Some name) (passes : turn_fault app.top (names_of app) (walk_from nothing_held) name ≡ []) (rest : List Text) where
  entered_in : entered app (walk app.top.rules (names_of app) nothing_held (name ∷ rest)).stopped ≡ option_map (λ s. rows_at s rest) (shape_in app name)
  entered_in = ap (λ (w : Walk). entered app w.stopped) (stops app.top.rules (names_of app) name met rest)

  refused_in : built_fault app nothing_held (name ∷ rest) ≡ fault_in app.top rest (shape_in app name)
  refused_in = ap₂ (after_walk app) (stops app.top.rules (names_of app) name met rest) (passes_all app.top (names_of app) name met passes rest)

-- ---- of the words that name a subcommand

module _ (one : Subcommand) (first : Text) (rest : List Text) where
  abbrev words : List Text
  words = first ∷ subcommand_name one ∷ rest

  found_alone : subcommand_of (program_alone one) words ≡ subcommand_of program words
  found_alone =
      let it = seen one in
      entered_in (small one) (subcommand_name one) it.met it.passes rest ∙ ap (option_map (λ s. rows_at s rest)) it.shape ∙ sym (entered_in whole (subcommand_name one) it.met_too it.passes_too rest)

  fault_alone : fault_of (program_alone one) words ≡ fault_of program words
  fault_alone =
      let it = seen one in
      refused_in (small one) (subcommand_name one) it.met it.passes rest ∙ ap (fault_in whole.top rest) it.shape ∙ sym (refused_in whole (subcommand_name one) it.met_too it.passes_too rest)

pub found_same : (words : List Text) (one : Subcommand) → named_by words ≡ Some one → subcommand_of (program_alone one) words ≡ subcommand_of program words
found_same [] one is = absurd (cc is)
found_same (first ∷ []) one is = absurd (cc is)
found_same (first ∷ word ∷ rest) one is =
    subst (λ w. subcommand_of (program_alone one) (first ∷ w ∷ rest) ≡ subcommand_of program (first ∷ w ∷ rest)) (sym (its_name word one all_subcommands is)) (found_alone one first rest)

pub fault_same : (words : List Text) (one : Subcommand) → named_by words ≡ Some one → fault_of (program_alone one) words ≡ fault_of program words
fault_same [] one is = absurd (cc is)
fault_same (first ∷ []) one is = absurd (cc is)
fault_same (first ∷ word ∷ rest) one is =
    subst (λ w. fault_of (program_alone one) (first ∷ w ∷ rest) ≡ fault_of program (first ∷ w ∷ rest)) (sym (its_name word one all_subcommands is)) (fault_alone one first rest)

-- ---- what is answered by it

module _ (words : List Text) (one : Subcommand) (named : named_by words ≡ Some one) where
  pub answered : (r : Result ArgMatches Usage) → IfOk r (λ found. subcommand_rows_of found ≡ subcommand_of (program_alone one) words) → IfSome (result_ok r) (λ found. subcommand_rows_of found ≡ subcommand_of program words)
  answered (Ok found) is = is ∙ found_same words one named
  answered (Err usage) is = tt

  pub taken : (r : Result ArgMatches Usage) → OnOk r (fault_of (program_alone one) words ≡ []) → OnSome (result_ok r) (fault_of program words ≡ [])
  taken (Ok found) none = sym (fault_same words one named) ∙ none
  taken (Err usage) none = tt
