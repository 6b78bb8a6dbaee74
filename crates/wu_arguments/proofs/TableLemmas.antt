-- A table gone through one by one.
use Rattle.std.proofs.Common.{ℕ, zero, suc, ◌≤◌, arith, bytes_eq, drop, find, Option, Some, None, ◌+◌, ◌<◌, ◌≡◌, ◌∙◌, ◌++◌, List, [], ◌∷◌, Bool, false, length, map, take, get_or, ap, ap₂, append_assoc, append-nil, refl, subst, sym, true, Result, Ok, Err, IfOk}
use Rattle.clap.specs.Words.{AddsArg, AddsInTurn, AddsSubcommand, App, Rule, Shape, app_of, rule_of, shape_of, with_rule, with_subcommand}
use Rattle.clap.specs.declared.builder.arg.Arg.{Arg}
use Rattle.clap.specs.declared.builder.command.Command.{Command}
use Rattle.clap.specs.declared.builder.command.Command.TheViews.{out-Command}
use Rattle.wu_arguments.specs.CommandLine.{leaf_with, local_rule, local_shape, option_rule, program_with, rule_and_global, shape_and_globals, shape_with, subcommand_name, subcommand_shape}
use Rattle.wu_arguments.specs.declared.option.LineOption.{LineOption}
use Rattle.wu_arguments.specs.declared.subcommand.Subcommand.{Subcommand}
use Rattle.std.proofs.lemmas.List.{map-append, take_more}

-- the images of one item more
map_more : {X Y : Type 0} (f : X → Y) (xs : List X) (i : ℕ) (d : X) → i < length xs → map f (take (i + 1) xs) ≡ map f (take i xs) ++ f (get_or xs i d) ∷ []
map_more f xs i d h = ap (map f) (take_more xs i d h) ∙ map-append f (take i xs) (get_or xs i d ∷ [])

-- the image of a list that has one item more
pub image_more : {X Y Z : Type 0} (f : X → Z) (g : Y → Z) (xs all : List X) (x : X) (ys : List Y) (i : ℕ) (d : Y) → i < length ys
    → all ≡ xs ++ x ∷ [] → map f xs ≡ map g (take i ys) → f x ≡ g (get_or ys i d) → map f all ≡ map g (take (i + 1) ys)
image_more f g xs all x ys i d h more are is =
    ap (map f) more ∙ map-append f xs (x ∷ []) ∙ ap₂ (λ l z. l ++ z ∷ []) are is ∙ sym (map_more g ys i d h)

-- a subcommand with options more
pub args_added : (name : List ℕ) (rules : List Rule) (options : List LineOption) (args : List Arg) (old new : Command)
    → map rule_and_global args ≡ map local_rule options → app_of old ≡ leaf_with name rules → (out-Command old).has_globals ≡ false
    → AddsInTurn AddsArg old args new → shape_and_globals new ≡ (shape_with name (rules ++ map option_rule options), false)
args_added name rules [] [] old new are is local same =
    subst (λ c. shape_and_globals c ≡ (shape_with name (rules ++ []), false)) same
    (ap₂ {C = Shape × Bool} (λ (a : App) (b : Bool). (a.top, b)) (is ∙ ap (leaf_with name) (sym (append-nil rules))) local)
args_added name rules [] (arg ∷ args) old new are is local adds = absurd (cc are)
args_added name rules (option ∷ options) [] old new are is local adds = absurd (cc are)
args_added name rules (option ∷ options) (arg ∷ args) old new are is local (between, adds, rest) =
    let first : rule_and_global arg ≡ local_rule option = cc are in
    let rule : rule_of arg ≡ option_rule option = ap (λ p. p.0) first in
    let of_it : arg.global ≡ false = ap (λ p. p.1) first in
    let others : map rule_and_global args ≡ map local_rule options = cc are in
    let globals : (out-Command between).has_globals ≡ false = rw (adds.globals, local, of_it) refl in
    args_added name (rules ++ option_rule option ∷ []) options args between new others (adds.shape of_it ∙ ap₂ with_rule is rule) globals rest
    ∙ ap {B = Shape × Bool} (λ l. (shape_with name l, false)) (append_assoc rules (option_rule option ∷ []) (map option_rule options))

pub options_added : {E : Type 0} (name : List ℕ) (options : List LineOption) (args : List Arg) (old : Command) (added : Result Command E)
    → map rule_and_global args ≡ map local_rule options → app_of old ≡ leaf_with name [] → (out-Command old).has_globals ≡ false
    → IfOk added (AddsInTurn AddsArg old args) → IfOk added (λ c. shape_and_globals c ≡ (shape_with name (map option_rule options), false))
options_added name options args old (Ok new) are is local adds = args_added name [] options args old new are is local adds
options_added name options args old (Err error) are is local adds = tt

-- the program with one subcommand more
program_more : (shapes : List Shape) (shape : Shape) → with_subcommand (program_with shapes) shape ≡ program_with (shapes ++ shape ∷ [])
program_more [] shape = refl
program_more (first ∷ shapes) shape = refl

-- and with more of them
subs_added : (shapes : List Shape) (subcommands : List Subcommand) (subs : List Command) (old new : Command)
    → map shape_and_globals subs ≡ map local_shape subcommands → app_of old ≡ program_with shapes
    → AddsInTurn AddsSubcommand old subs new → app_of new ≡ program_with (shapes ++ map subcommand_shape subcommands)
subs_added shapes [] [] old new are is same = subst (λ c. app_of c ≡ program_with (shapes ++ [])) same (is ∙ ap program_with (sym (append-nil shapes)))
subs_added shapes [] (sub ∷ subs) old new are is adds = absurd (cc are)
subs_added shapes (subcommand ∷ subcommands) [] old new are is adds = absurd (cc are)
subs_added shapes (subcommand ∷ subcommands) (sub ∷ subs) old new are is (between, adds, rest) =
    let first : shape_and_globals sub ≡ local_shape subcommand = cc are in
    let shape : shape_of sub ≡ subcommand_shape subcommand = ap (λ p. p.0) first in
    let local : (out-Command sub).has_globals ≡ false = ap (λ p. p.1) first in
    let others : map shape_and_globals subs ≡ map local_shape subcommands = cc are in
    subs_added (shapes ++ subcommand_shape subcommand ∷ []) subcommands subs between new others
    (adds.shape local ∙ ap₂ with_subcommand is shape ∙ program_more shapes (subcommand_shape subcommand)) rest
    ∙ ap program_with (append_assoc shapes (subcommand_shape subcommand ∷ []) (map subcommand_shape subcommands))

pub subcommands_added : {E : Type 0} (subcommands : List Subcommand) (subs : List Command) (old : Command) (added : Result Command E)
    → map shape_and_globals subs ≡ map local_shape subcommands → app_of old ≡ program_with []
    → IfOk added (AddsInTurn AddsSubcommand old subs) → IfOk added (λ c. app_of c ≡ program_with (map subcommand_shape subcommands))
subcommands_added subcommands subs old (Ok new) are is adds = subs_added [] subcommands subs old new are is adds
subcommands_added subcommands subs old (Err error) are is adds = tt

-- a line has to name a subcommand, or asks for the version
abbrev pub requiring : App → App
requiring app = record app { top = record app.top { subcommand_required = true; has_version = true } }

-- the first subcommand of this name
abbrev pub named_among : List ℕ → List Subcommand → Option Subcommand
named_among name among = find (λ one. bytes_eq name (subcommand_name one)) among

module _ (name : List ℕ) (d : Subcommand) where
  pub is_named : (all : List Subcommand) (i : ℕ) → i < length all → bytes_eq name (subcommand_name (get_or all i d)) ≡ true
      → named_among name (drop i all) ≡ Some (get_or all i d)
  is_named [] i h is = absurd (omega arith)
  is_named (one ∷ all) zero h is = rw is refl
  is_named (one ∷ all) (suc i) h is = is_named all i (omega arith) is

  pub is_other : (all : List Subcommand) (i : ℕ) → i < length all → bytes_eq name (subcommand_name (get_or all i d)) ≡ false
      → named_among name (drop i all) ≡ named_among name (drop (i + 1) all)
  is_other [] i h is = absurd (omega arith)
  is_other (one ∷ all) zero h is = rw is refl
  is_other (one ∷ all) (suc i) h is =
      let next : suc i + 1 ≡ suc (i + 1) = omega arith in
      rw next (is_other all i (omega arith) is)

  pub is_none : (all : List Subcommand) (i : ℕ) → length all ≤ i → named_among name (drop i all) ≡ None
  is_none [] zero h = refl
  is_none [] (suc i) h = refl
  is_none (one ∷ all) zero h = absurd (omega arith)
  is_none (one ∷ all) (suc i) h = is_none all i (omega arith)
