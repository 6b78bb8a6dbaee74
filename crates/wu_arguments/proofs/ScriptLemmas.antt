-- What the lines of a script ask for, with the exports at its end, one line after the other.
use Rattle.std.proofs.Common.{◌≡◌, ◌<◌, ◌+◌, ◌∙◌, ℕ, arith, drop, get_or, length, map, List, [], ◌∷◌, ◌++◌, String, Global, string_bytes, Option, Result, Ok, Err, ap, append_assoc, append-nil, inl, inr, refl, subst, sym}
use Rattle.std.proofs.lemmas.List.{at_drop_more}
use Rattle.std.specs.List.{AllZip}
use Rattle.wu_feed.specs.declared.script.ScriptLine.{ScriptLine}
use Rattle.wu_arguments.specs.Scripts.{export_asked, or_else, stranger_among, stranger_word}
use Rattle.wu_arguments.specs.Steps.{AskFor, AsksExport, AsksStep, GivesStep, IsBadAfter, Takes}
use Rattle.wu_arguments.specs.declared.order.Export.{Export}
use Rattle.wu_arguments.specs.declared.refusal.Outsider.TheVariants as outsider
use Rattle.wu_arguments.specs.declared.refusal.Refusal.{Refusal}
use Rattle.wu_arguments.specs.declared.refusal.Refusal.TheVariants as refusal
use Rattle.wu_arguments.specs.declared.step.Step.{Step}

-- ---- a refusal that asks for an export

export_is : (why : Refusal) (export : Export) → export_asked why ≡ Ok export → why ≡ refusal.Outsider (outsider.Export export)
export_is why export is = grind arith

-- one that asks for none is handed on
refused_is : (asked why : Refusal) → export_asked asked ≡ Err why → asked ≡ why
refused_is asked why is = grind arith

-- ---- lists side by side

zip_more : {A B : Type 0} (R : A → B → Type 0) (xs : List A) (ys : List B) (x : A) (y : B) → AllZip R xs ys → R x y → AllZip R (xs ++ x ∷ []) (ys ++ y ∷ [])
zip_more R [] [] x y all is = (is, tt)
zip_more R [] (b ∷ ys) x y all is = absurd all
zip_more R (a ∷ xs) [] x y all is = absurd all
zip_more R (a ∷ xs) (b ∷ ys) x y all is = (all.0, zip_more R xs ys x y all.1 is)

zip_none : {A B : Type 0} (R : A → B → Type 0) (xs : List A) (ys : List B) → ys ≡ [] → AllZip R xs ys → xs ≡ []
zip_none R [] ys none all = refl
zip_none R (x ∷ xs) [] none all = absurd all
zip_none R (x ∷ xs) (y ∷ ys) none all = absurd cc

module _ (gives : List ℕ → ℕ → Option (List ℕ) → Type 0) (db : List ℕ) where
  pub none_asked : AskFor gives db [] [] []
  none_asked = record {
    front = [];
    behind = [];
    order = refl;
    each_step = tt;
    each_export = tt;
  }

  -- a step more, before any export
  step_more : (lines : List ScriptLine) (steps : List Step) (exports : List Export) (line : ScriptLine) (step : Step) → exports ≡ [] → AskFor gives db lines steps exports
      → GivesStep gives db line (Ok step) → AskFor gives db (lines ++ line ∷ []) (steps ++ step ∷ []) exports
  step_more lines steps exports line step none asks is =
      let alone : asks.behind ≡ [] = zip_none _ asks.behind exports none asks.each_export in
      let order : lines ≡ asks.front = asks.order ∙ ap (λ l. asks.front ++ l) alone ∙ append-nil asks.front in
      record {
        front = asks.front ++ line ∷ [];
        behind = [];
        order = ap (λ l. l ++ line ∷ []) order ∙ sym (append-nil (asks.front ++ line ∷ []));
        each_step = zip_more (AsksStep gives db) asks.front steps line step asks.each_step is;
        each_export = subst (λ l. AllZip (AsksExport gives db) [] l) (sym none) tt;
      }

  -- an export more
  export_more : (lines : List ScriptLine) (steps : List Step) (exports : List Export) (line : ScriptLine) (export : Export) → AskFor gives db lines steps exports
      → AsksExport gives db line export → AskFor gives db (lines ++ line ∷ []) steps (exports ++ export ∷ [])
  export_more lines steps exports line export asks is = record {
    front = asks.front;
    behind = asks.behind ++ line ∷ [];
    order = ap (λ l. l ++ line ∷ []) asks.order ∙ append_assoc asks.front asks.behind (line ∷ []);
    each_step = asks.each_step;
    each_export = zip_more (AsksExport gives db) asks.behind exports line export asks.each_export is;
  }

  -- what a line asks for was added
  pub taken : (lines : List ScriptLine) (steps more_steps : List Step) (exports more_exports : List Export) (line : ScriptLine) (asked : Result Step Refusal)
      → AskFor gives db lines steps exports → GivesStep gives db line asked → Takes steps exports asked more_steps more_exports (Ok tt) → AskFor gives db (lines ++ line ∷ []) more_steps more_exports
  taken lines steps more_steps exports more_exports line (Ok step) asks gave (none, longer, same) =
      subst (λ l. AskFor gives db (lines ++ line ∷ []) more_steps l) (sym same)
      (subst (λ l. AskFor gives db (lines ++ line ∷ []) l exports) (sym longer) (step_more lines steps exports line step none asks gave))
  taken lines steps more_steps exports more_exports line (Err why) asks gave (export, is, same, longer) =
      let asks_it : AsksExport gives db line export = subst (λ w. GivesStep gives db line (Err w)) (export_is why export is) gave in
      subst (λ l. AskFor gives db (lines ++ line ∷ []) more_steps l) (sym longer)
      (subst (λ l. AskFor gives db (lines ++ line ∷ []) l (exports ++ export ∷ [])) (sym same) (export_more lines steps exports line export asks asks_it))

  -- or why it was not
  pub not_taken : (steps more_steps : List Step) (exports more_exports : List Export) (line : ScriptLine) (asked : Result Step Refusal) (why : Refusal)
      → GivesStep gives db line asked → Takes steps exports asked more_steps more_exports (Err why) → IsBadAfter gives db exports line why
  not_taken steps more_steps exports more_exports line (Ok step) why gave (inl memory) = inl (memory, inl (step, gave))
  not_taken steps more_steps exports more_exports line (Ok step) why gave (inr (after, some)) = inr (inr (after, some, (step, gave)))
  not_taken steps more_steps exports more_exports line (Err asked) why gave (inl (memory, (export, is))) =
      inl (memory, inr (export, subst (λ w. GivesStep gives db line (Err w)) (export_is asked export is) gave))
  not_taken steps more_steps exports more_exports line (Err asked) why gave (inr is) =
      let same = refused_is asked why is in
      inr (inl (subst (λ w. GivesStep gives db line (Err w)) same gave, subst (λ w. export_asked w ≡ Err why) same is))

-- ---- the words of a line

-- what stands in no line among the words from one on is that word, or among those behind it
pub among_from : (words : List (String Global)) (i : ℕ) (word : String Global) → i < length words → word ≡ get_or words i word
    → stranger_among (map string_bytes (drop i words)) ≡ or_else (stranger_word (string_bytes word)) (stranger_among (map string_bytes (drop (i + 1) words)))
among_from words i word within is =
    at_drop_more (λ ws. stranger_among (map string_bytes ws)) words i word within
    ∙ ap (λ w. or_else (stranger_word (string_bytes w)) (stranger_among (map string_bytes (drop (i + 1) words)))) (sym is)
