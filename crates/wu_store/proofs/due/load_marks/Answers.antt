use Rattle.std.proofs.Common.{inl, rules, ◌≡◌, ◌-◌, ◌<◌, ◌∙◌, ◌^◌, None, Option, Some, sym, ap, subst}
use Rattle.wu_core.specs.declared.fault.Fault.TheVariants.{Memory, NotAProject}
use Rattle.wu_schema.specs.Reading.{IsReadFault}
use Rattle.sqlite.specs.Held.{state}
use Rattle.wu_core.specs.declared.workunit.Workunit.{Workunit}
use Rattle.wu_store.specs.Due.{numbers_left}
use Rattle.wu_store.proofs.DueLemmas.{above_loads}
use Rattle.wu_store.proofs.MarkedLemmas.{marks_row, marks_rows}
use Rattle.wu_store.proofs.ListingLemmas.{all_listed, AreListed, listed_storable, one_listed}
use Rattle.wu_store.proofs.AskLemmas.{fault_read, handed_on, match_handed, read_handed, read_told, reads_handed, reads_then_handed, reads_made, reads_also, reads_both, never_broken}
use Rattle.wu_store.proofs.due.load_marks.Goals as goal

pub returns-in_err-next-2 : goal.returns-in_err-next-2
returns-in_err-next-2 g c = record {
  reads = reads_then_handed g.S.Store _ _ _ tt c.loop-next.invariant c.from_residual-in_err-next-2.result c.in_err-next-2.field-0.0 c.from_residual-in_err-next-2.ensures.1 c.in_err-next-2.ensures.reads (λ other told world early. told) (λ world stands found can.
      let so_far : AreListed marks_row world c.loop-next.rows.items (Some c.in-Some.workunit) = subst (λ (next : Option Workunit). AreListed marks_row world c.loop-next.rows.items next) c.in-Some.is (found can.0) in
      let listed = listed_storable marks_row world c.loop-next.rows.items c.in-Some.workunit so_far can.1 in
      above_loads c.in-Some.workunit.number world listed.number can);
}

pub loop-next-smaller : goal.loop-next-smaller
loop-next-smaller g c =
    let was : numbers_left c.loop-next.next ≡ 2 ^ 64 - c.in-Some.workunit.number = ap (λ (next : Option Workunit). numbers_left next) c.in-Some.is in
    let less : numbers_left c.in_ok-next-2.next < 2 ^ 64 - c.in-Some.workunit.number = c.in_ok-next-2.ensures.shrinks in
    subst (λ n. numbers_left c.in_ok-next-2.next < n) (sym was) less

pub loop-next-preserved : goal.loop-next-preserved
loop-next-preserved g c =
    reads_made g.S.Store _ _ c.in_ok-next-2.next tt (reads_both g.S.Store _ _ _ tt c.loop-next.invariant c.in_ok-next-2.next c.in_ok-next-2.ensures.reads) (λ world stands found early.
    let so_far : AreListed marks_row world c.loop-next.rows.items (Some c.in-Some.workunit) = subst (λ (next : Option Workunit). AreListed marks_row world c.loop-next.rows.items next) c.in-Some.is (found.0 early) in
    one_listed marks_row world c.loop-next.rows.items c.in-Some.workunit so_far (state g.S.Store c.args.conn.now).now stands c.add_marks.new.rows.items c.in_ok-add_marks.ensures.ok c.in_ok-next-2.next (found.1 early))

pub returns : goal.returns
returns g c = record {
  reads = let none : c.loop-next.next ≡ None = search rules in
      reads_made g.S.Store _ _ tt _ c.loop-next.invariant (λ world stands found early.
      let so_far : AreListed marks_row world c.loop-next.rows.items None = subst (λ (next : Option Workunit). AreListed marks_row world c.loop-next.rows.items next) none (found early) in
      all_listed marks_row world c.loop-next.rows.items so_far ∙ marks_rows world.workunits);
}

pub returns-in_err-add_marks : goal.returns-in_err-add_marks
returns-in_err-add_marks g c =
    let same = c.from_residual-in_err-add_marks.ensures.1 in
    let wants : IsReadFault c.in_err-add_marks.field-0.0 = inl c.in_err-add_marks.ensures.fault in
    let told = read_handed _ _ same wants in
    record {
      reads = reads_also g.S.Store _ _ _ _ (never_broken _ told) (fault_read _ told) c.loop-next.invariant (λ world stands found early. match_handed _ _ same _ (read_told _ wants))
          (λ world stands found can. handed_on _ _ same (λ is. let no : Memory ≡ NotAProject = sym c.in_err-add_marks.ensures.fault ∙ is in cc));
    }

pub returns-in_err-next : goal.returns-in_err-next
returns-in_err-next g c =
    let same = c.from_residual.ensures.1 in
    record {
      reads = reads_handed g.S.Store _ _ _ _ same c.in_err-next.ensures.reads (λ other told world early. told) (λ world stands storable. storable);
    }
