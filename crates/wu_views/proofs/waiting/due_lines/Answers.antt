use Rattle.std.proofs.Common.{rules, ◌≡◌, ◌++◌, ◌∷◌, [], ◌∙◌, arith, ap, get_or, sym, take}
use Rattle.std.proofs.Math.ListN.{get_or-map}
use Rattle.std.proofs.lemmas.List.{take_all, take_more}
use Rattle.std.specs.Prelude.{IfErr}
use Rattle.wu_store.proofs.AskLemmas.{opens_handed, reads_both, reads_made, reads_then_handed, reads_none, reads_if, reads_also, never_broken, fault_read, reads_opens}
use Rattle.wu_schema.specs.Reading.{IsReadFault}
use Rattle.wu_rules.specs.declared.due.Pass.TheVariants.{Transition}
use Rattle.wu_views.specs.declared.waiting.StatusLine.{StatusLine}
use Rattle.wu_views.specs.declared.waiting.StatusLine.TheVariants.{Due}
use Rattle.wu_views.specs.Waiting.{all_passes, due_line_of, due_lines}
use Rattle.wu_views.proofs.waiting.due_lines.Goals as goal

pub loop-pass-init : goal.loop-pass-init
loop-pass-init g c = reads_none g.S.Store _ tt (λ some. absurd (omega (arith, some))) (λ world stood. search rules)

pub loop-pass-preserved : goal.loop-pass-preserved
loop-pass-preserved g c =
    let both = reads_both g.S.Store _ _ _ tt c.loop-pass.invariant c.in_ok-count.count c.in_ok-count.ensures.reads in
    reads_opens (λ some. c.in_ok-count.ensures.reads.opens tt) (reads_made g.S.Store _ _ _ tt both (λ world stood found.
    let i = c.loop-pass.pass-index in
    let now = c.args.now in
    let lines = due_lines now world in
    let pass = get_or all_passes i Transition in
    let mine : StatusLine = Due (record { pass = pass; count = c.in_ok-count.count }) in
    let pushed : c.push.new.self.items ≡ c.loop-pass.lines.items ++ mine ∷ [] = search rules in
    pushed ∙ ap (λ ls. ls ++ mine ∷ []) found.0
    ∙ ap (λ n. take i lines ++ Due (record { pass = pass; count = n }) ∷ []) found.1
    ∙ ap (λ (l : StatusLine). take i lines ++ l ∷ []) (sym (get_or-map (due_line_of now world) all_passes i Transition))
    ∙ sym (take_more lines i (due_line_of now world Transition) c.loop-pass-test.true)))

pub returns-in_err-count : goal.returns-in_err-count
returns-in_err-count g c = record {
  reads = let fault = c.in_err-count.field-0.0 in
      let r = c.from_residual.result in
      let same = c.from_residual.ensures.1 in
      reads_opens (λ asked. opens_handed r fault same g.S.Store c.count_due.new.conn (c.in_err-count.ensures.reads.opens tt))
      (reads_then_handed g.S.Store _ _ _ tt c.loop-pass.invariant r fault same c.in_err-count.ensures.reads (λ other told world. tt) (λ world stood one can. tt));
}

pub returns-in_err-push : goal.returns-in_err-push
returns-in_err-push g c = record {
  reads = let told : IfErr c.from_residual-in_err-push.result IsReadFault = search rules in
      let both = reads_both g.S.Store _ _ _ tt c.loop-pass.invariant c.in_ok-count.count c.in_ok-count.ensures.reads in
      reads_also g.S.Store _ _ c.in_ok-count.count _ (never_broken _ told) (fault_read _ told) (reads_opens (λ asked. c.in_ok-count.ensures.reads.opens tt) both) (λ world stood found. search rules) (λ world stood found can. search rules);
}

pub returns : goal.returns
returns g c = record { reads = reads_made g.S.Store _ _ tt _ (reads_if (λ asked. omega (arith, c.loop-pass-test.false)) c.loop-pass.invariant) (λ world stood found. found ∙ take_all c.loop-pass.pass-index (due_lines c.args.now world) (omega (arith, c.loop-pass-test.false))) }
