use Rattle.std.proofs.Common.{rules, ◌≡◌, ◌<◌, ◌∙◌, ◌^◌, arith, inl, length, refl}
use Rattle.wu_store.proofs.AskLemmas.{reads_handed, reads_made, reads_if, reads_also}
use Rattle.wu_views.proofs.WaitingLemmas.{due_counted}
use Rattle.wu_views.proofs.waiting.count_due.Goals as goal

pub returns-in_err-due : goal.returns-in_err-due
returns-in_err-due g c = record {
  reads = let low : 9223372036854775807 < 2 ^ 63 = omega arith in
      reads_handed g.S.Store _ _ c.from_residual.result c.in_err-due.field-0.0 c.from_residual.ensures.1 (reads_if (λ asked. low) c.in_err-due.ensures.reads) (λ other told world. tt) (λ world stood can. low);
}

pub returns-then-count-lt-MANY : goal.returns-then-count-lt-MANY
returns-then-count-lt-MANY g c = record {
  reads = let low : 9223372036854775807 < 2 ^ 63 = omega arith in
      let counted : c.len-count.result ≡ length c.in_ok-due.due.items = search rules in
      let few : length c.in_ok-due.due.items < 9223372036854775807 = omega (arith, counted, c.if-count-lt-MANY.true) in
      reads_made g.S.Store _ _ c.in_ok-due.due c.len-count.result (reads_if (λ asked. low) c.in_ok-due.ensures.reads) (λ world stood found. counted ∙ due_counted c.args.pass c.args.now 9223372036854775807 world c.in_ok-due.due.items found few);
}

pub returns : goal.returns
returns g c = record {
  reads = let low : 9223372036854775807 < 2 ^ 63 = omega arith in
      reads_also g.S.Store _ _ c.in_ok-due.due _ (λ is. absurd cc) (inl refl) (reads_if (λ asked. low) c.in_ok-due.ensures.reads) (λ world stood found. tt) (λ world stood found can is. absurd cc);
}
