use Rattle.std.proofs.Common.{List, Vec, Global, ◌≡◌, ◌⊎◌, ◌≤◌, ◌++◌, ◌∷◌, [], length, ap, sym, subst, take, inl, inr, arith, refl, ◌∙◌}
use Rattle.std.proofs.Math.Logic.{∥∥₁_elim, ∥∥₁_map}
use Rattle.std.proofs.Math.Seq.{take-length}
use Rattle.std.proofs.lemmas.List.{length-map}
use Rattle.wu_passes.specs.Projects.{IsSessionOpen}
use Rattle.wu_machine.specs.declared.command.Command.{Command}
use Rattle.wu_machine.specs.Sessions.{world_of_life}
use Rattle.wu_lives.specs.Lives.{EachDoesAll, TellsLives, Transcript}
use Rattle.wu_lives.specs.Reopening.{DoesAll}
use Rattle.wu_lives.proofs.ReopeningLemmas.{each_more, ends_more, lived_more, lived_none, of_more, one_more, written_more}
use Rattle.wu_lives.proofs.reopening.live_all.Goals as goal

pub loop-commands-init : goal.loop-commands-init
loop-commands-init g c = (
  ([], record { their_commands = refl; their_runs = sym c.new-runs.ensures.items }, refl, λ clean world over. ∣ record { lived = lived_none world _ over; ends = tt } ∣₁),
  λ clean. clean,
  λ on. elim on [
    | inl going ↦ going
    | inr more ↦ absurd (omega (arith, more))
  ],
  ap (λ rs. length rs) c.new-runs.ensures.items,
  subst (λ rs. EachDoesAll [] rs) (sym c.new-runs.ensures.items) tt,
)

pub loop-commands-preserved : goal.loop-commands-preserved
loop-commands-preserved g c =
    let ((told, are, written, found), was, begins, count, each) = c.loop-commands.invariant in
    let (answers, texts, replied) = c.in-Some.ensures.answers in
    let next : Transcript = record { commands = c.as_slice.result.now; answers = answers; run = c.in-Some.lived.0 } in
    let many : length told ≡ c.loop-commands.commands-index = sym (length-map told (λ (t : Transcript). t.run)) ∙ ap (λ rs. length rs) are.their_runs ∙ count in
    let on : IsSessionOpen c.args.project ⊎ (1 ≤ length told) → IsSessionOpen c.loop-commands.project = λ it. begins (subst (λ n. IsSessionOpen c.args.project ⊎ (1 ≤ n)) many it) in (
      (
        told ++ next ∷ [],
        of_more c.args.lives.now c.loop-commands.commands-index c.commands-item.result c.commands-item.result c.loop-commands.runs.items _ told next c.loop-commands-test.true (sym c.commands-item.is) c.as_slice.ensures.value
            c.in-Ok.ensures.items are,
        written_more _ _ _ told next written texts,
        λ clean world over.
            ∥∥₁_elim (found (c.in-Some.ensures.clean clean) world over) squash₁ (λ it.
            let lived = it.lived in
            ∥∥₁_map (c.in-Some.ensures.found clean (world_of_life world lived.life) lived.over) (λ holds.
            record {
              lived = lived_more world told next _ _ lived holds (c.in-Some.ensures.begins.1 clean _ holds.goes.stands) (replied clean (world_of_life world lived.life) lived.over);
              ends = ends_more (IsSessionOpen c.args.project) world told lived.life next _ lived.sessions it.ends (λ begun. c.in-Some.ensures.ends (on begun) clean (world_of_life world lived.life) lived.over);
            })),
      ),
      λ clean. was (c.in-Some.ensures.clean clean),
      λ on. c.in-Some.ensures.begins.0,
      one_more c.loop-commands.runs.items _ _ _ c.in-Ok.ensures.items count,
      each_more c.args.lives.now c.loop-commands.commands-index c.commands-item.result c.commands-item.result c.loop-commands.runs.items _ c.in-Some.lived.0 c.loop-commands-test.true (sym c.commands-item.is)
          c.in-Ok.ensures.items each (subst (λ cs. DoesAll cs c.in-Some.lived.0) c.as_slice.ensures.value c.in-Some.ensures.all),
    )

pub returns : goal.returns
returns g c =
    let (found, was, begins, count, each) = c.loop-commands.invariant in
    let lives = c.args.lives.now in
    let whole : c.loop-commands.commands-index ≡ length lives = omega (arith, c.loop-commands.auto.commands-index-end, c.loop-commands-test.false) in
    record {
      clean = was;
      begins = λ on. begins (subst (λ n. IsSessionOpen c.args.project ⊎ (1 ≤ n)) (sym whole) on);
      count = count ∙ whole;
      all =
          let did : List (Vec Command Global) → Type 0 = λ ls. EachDoesAll ls c.loop-commands.runs.items in
          subst did (take-length lives) (subst (λ k. did (take k lives)) whole each);
      found =
          let tells : List (Vec Command Global) → Type 0 = λ ls. TellsLives (g.W.Write.contents c.args.out.now) (g.W.Write.contents c.loop-commands.out) c.args.project ls c.loop-commands.runs.items c.loop-commands.project in
          subst tells (take-length lives) (subst (λ k. tells (take k lives)) whole found);
    }
