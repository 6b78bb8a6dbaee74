use Rattle.std.proofs.Common.{◌≢◌, ◌+◌, ◌++◌, ◌∙◌, ap, sym, take, true≢false}
use Rattle.std.proofs.lemmas.Option.{IfSome_then}
use Rattle.std.proofs.lemmas.List.Elements.{All-append}
use Rattle.std.proofs.BufReadLemmas.{Consumes_through}
use Rattle.std.proofs.KnownBytes.{Consumes-trans}
use Rattle.wu_cli.specs.declared.hearing.TheConstants.{LONGEST_LINE}
use Rattle.wu_cli.proofs.HearingLemmas.{kept_more}
use Rattle.wu_cli.proofs.hearing.take_line.Goals as goal

pub loop-preserved : goal.loop-preserved
loop-preserved g c =
    let (seen, kept, none, read) = c.loop.invariant in
    let step = c.in_ok-take_part.ensures in (
      seen ++ step.part,
      step.kept ∙ kept_more c.loop.text.items seen step.part kept,
      All-append (λ byte. byte ≢ 10) seen step.part none (step.more (λ is. true≢false (sym is ∙ c.if-branch.false))),
      Consumes-trans _ _ _ seen step.part read step.taken,
    )

pub returns-then-branch : goal.returns-then-branch
returns-then-branch g c =
    let (seen, kept, none, read) = c.loop.invariant in
    let step = c.in_ok-take_part.ensures in
    let all = Consumes_through 10 _ _ _ seen step.part read none step.taken step.stops (step.whole c.if-branch.true) (step.end c.if-branch.true) in
    let whole = step.kept ∙ kept_more c.loop.text.items seen step.part kept in
    (IfSome_then (g.R.Read.remaining c.args.input.now) all.0 (λ bytes is. whole ∙ ap (take (LONGEST_LINE + 1)) is), all.1)
