use Rattle.std.proofs.Common.{rules, ◌≡◌, ◌++◌, ◌∷◌, [], ◌∙◌, append-nil, arith, ap, get_or, sym}
use Rattle.std.proofs.lemmas.List.{take_all}
use Rattle.std.specs.Prelude.{IfErr, filter_map}
use Rattle.wu_core.specs.declared.import.ImportKind.TheVariants.{Batch}
use Rattle.wu_store.proofs.AskLemmas.{opens_handed, reads_both, reads_made, reads_then_handed, reads_none, reads_if, reads_also, never_broken, fault_read, reads_opens}
use Rattle.wu_schema.specs.Reading.{IsReadFault}
use Rattle.wu_views.proofs.NamedLemmas.{all_kinds, can_load, kind_more, lines_named}
use Rattle.wu_views.specs.Lines.{import_line_named}
use Rattle.std.specs.List.{cons_option}
use Rattle.wu_views.proofs.named.import_lines_named.Goals as goal
use Rattle.wu_views.proofs.named.import_lines_named.Goals.{in-Some+in_ok-push, in_default}

pub loop-kind-init : goal.loop-kind-init
loop-kind-init g c = reads_none g.S.Store _ tt (λ some. absurd (omega (arith, some))) (λ world stood. search rules)

pub loop-kind-preserved : goal.loop-kind-preserved
loop-kind-preserved g c =
    let before = c.loop-kind.lines.items in
    let added : c.match-branch-2.lines.items ≡ before ++ cons_option c.in_ok-line.field-0 [] = elim c.match-branch-2.branch [
      | in-Some+in_ok-push w ↦
          let pushed : w.push.new.self.items ≡ before ++ w.in-Some.line ∷ [] = search rules in
          rw (w.in-Some.is, w.lines-is) pushed
      | in_default w ↦ rw (w.in_default.is, w.lines-is) (sym (append-nil before))
    ] in
    let both = reads_both g.S.Store _ _ _ tt c.loop-kind.invariant c.in_ok-line.field-0 c.in_ok-line.ensures.reads in
    reads_opens (λ some. c.in_ok-line.ensures.reads.opens tt) (reads_made g.S.Store _ _ _ tt both (λ world stood found.
    added ∙ ap (λ ls. ls ++ cons_option c.in_ok-line.field-0 []) found.0 ∙ kind_more c.args.name.now world c.loop-kind.kind-index c.in_ok-line.field-0 c.loop-kind-test.true found.1))

pub returns-in_err-line : goal.returns-in_err-line
returns-in_err-line g c = record {
  reads = let same = c.from_residual.ensures.1 in
      reads_opens (λ asked. opens_handed _ _ same g.S.Store c.import_line.new.conn (c.in_err-line.ensures.reads.opens tt))
      (reads_then_handed g.S.Store _ _ _ tt c.loop-kind.invariant _ _ same c.in_err-line.ensures.reads (λ other told world. tt) (λ world stood one can. can_load (get_or all_kinds c.loop-kind.kind-index Batch) c.args.name.now world can));
}

pub returns-in_err-push : goal.returns-in_err-push
returns-in_err-push g c = record {
  reads = let told : IfErr c.from_residual-in_err-push.result IsReadFault = search rules in
      let both = reads_both g.S.Store _ _ _ tt c.loop-kind.invariant c.in_ok-line.field-0 c.in_ok-line.ensures.reads in
      reads_also g.S.Store _ _ c.in_ok-line.field-0 _ (never_broken _ told) (fault_read _ told) (reads_opens (λ asked. c.in_ok-line.ensures.reads.opens tt) both) (λ world stood found. search rules) (λ world stood found can. search rules);
}

pub returns : goal.returns
returns g c = record {
  reads = reads_made g.S.Store _ _ tt _ (reads_if (λ asked. omega (arith, c.loop-kind-test.false)) c.loop-kind.invariant) (λ world stood found.
      found ∙ ap (filter_map (λ kind. import_line_named kind c.args.name.now world)) (take_all c.loop-kind.kind-index all_kinds (omega (arith, c.loop-kind-test.false)))
      ∙ lines_named c.args.name.now world stood.rows.imported_once);
}
