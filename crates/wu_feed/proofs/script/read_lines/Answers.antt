use Rattle.std.proofs.Common.{ap, inl, refl, Ok}
use Rattle.wu_feed.proofs.ReadLemmas.{for_memory, passed_on, refused}
use Rattle.wu_feed.proofs.ScriptLemmas.{all_lines, line_added, line_skipped}
use Rattle.wu_feed.proofs.script.read_lines.Goals.{in-Some+in_ok-push, in_default}
use Rattle.wu_feed.proofs.script.read_lines.Goals as goal

pub loop-line-init : goal.loop-line-init
loop-line-init c = rw c.new-items.ensures.items (record { numbered = refl; read = refl })

pub loop-line-preserved : goal.loop-line-preserved
loop-line-preserved c =
    let inv = c.loop-line.invariant in
    elim c.match-branch-2.branch [
      | in-Some+in_ok-push w ↦
          rw (w.items-is, w.in_ok-push.ensures.items) (record {
            numbered = rw inv.numbered refl;
            read = line_added c.loop-line.items.items w.in-Some.item c.loop-line.number c.args.lines.now c.loop-line.line-index _ _
                c.loop-line-test.true (rw w.in-Some.is at c.in_ok-item.ensures.exact) inv.read;
          })
      | in_default w ↦
          rw w.items-is (record {
            numbered = rw inv.numbered refl;
            read = line_skipped c.loop-line.items.items c.loop-line.number c.args.lines.now c.loop-line.line-index _ _
                c.loop-line-test.true (rw w.in_default.is at c.in_ok-item.ensures.exact) inv.read;
          })
    ]

pub returns : goal.returns
returns c = rw c.from_vec.ensures (inl (ap Ok (all_lines c.loop-line.items.items c.loop-line.number c.args.lines.now c.loop-line.line-index _ c.loop-line-test.false c.loop-line.invariant.read)))

pub returns-in_err-item : goal.returns-in_err-item
returns-in_err-item c =
    rw (passed_on c.in_err-item.field-0.0 c.from_residual.result c.from_residual.ensures) (refused c.in_err-item.field-0.0 _ _ c.in_err-item.ensures.exact)

pub returns-in_err-push : goal.returns-in_err-push
returns-in_err-push c = for_memory c.from_residual-in_err-push.result _ c.from_residual-in_err-push.ensures
