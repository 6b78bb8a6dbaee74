use Rattle.wu_schema.proofs.Words.{IsPermutation, List, Option, Row, class_cells, inl, inr, map, subst, sym, workunit_row, ◌∙◌}
use Rattle.wu_loader.specs.Rows.{classed_row}
use Rattle.wu_schema.specs.Reading.{IsStoredHostClass}
use Rattle.wu_loader.specs.Worlds.{AreAnyClassRowsOf, HasClassesOf}
use Rattle.std.specs.Prelude.{All}
use Rattle.wu_core.specs.Classes.{AreInOrder}
use Rattle.wu_core.specs.declared.workunit.HostClass.{HostClass}
use Rattle.wu_loader.specs.First.{AreHostClasses, IsFirstClass}
use Rattle.wu_loader.specs.declared.tables.ClassRows.{ClassRows}
use Rattle.wu_loader.proofs.ClassLemmas.{differs_keys, found_classes, found_none, never_classed, never_others}
use Rattle.wu_loader.proofs.WholeLemmas.{handed, rows_plain}
use Rattle.wu_loader.proofs.FirstLemmas.{first_host_class, first_workunit_class}
use Rattle.wu_loader.proofs.world.classes_from.Goals as goal

pub returns : goal.returns
returns c =
    let read = c.in_ok-classes.ensures.same ∙ rows_plain classed_row c.in_ok-classes.classes.items in
    let by = rw c.deref.ensures.value at c.in_ok-workunits.ensures.classed in
    let hosts = c.in_ok-hosts.ensures.same in
    record {
      found = subst (λ (rows : Option ClassRows). HasClassesOf c.args.workunits.items rows (record { workunits = c.in_ok-workunits.workunits; hosts = c.in_ok-hosts.hosts })) (sym c.in-Some.is)
          (found_classes c.args.workunits.items c.in-Some.rows c.in_ok-classes.classes.items (record { workunits = c.in_ok-workunits.workunits; hosts = c.in_ok-hosts.hosts }) read by hosts c.in_ok-hosts.ensures.order);
      none = tt;
      told = tt;
    }

pub returns-in_default-clause-found : goal.returns-in_default-clause-found
returns-in_default-clause-found c =
    subst (λ (rows : Option ClassRows). HasClassesOf c.args.workunits.items rows (record { workunits = c.without_classes.result; hosts = c.new.result })) (sym c.in_default.is)
    (found_none c.args.workunits.items (record { workunits = c.without_classes.result; hosts = c.new.result }) c.without_classes.ensures c.new.ensures.items)

pub returns-in_err-classes-clause-none : goal.returns-in_err-classes-clause-none
returns-in_err-classes-clause-none c =
    handed c.from_residual-in_err-classes.result c.in_err-classes.field-0.0 _ _ (λ wrong none world readable in_order rows any.
    let are = subst (λ (rows : Option ClassRows). AreAnyClassRowsOf rows world) c.in-Some.is any in
    never_classed c.in-Some.rows.workunits wrong.place none.1 world.workunits readable.workunits are.workunits)
    c.from_residual-in_err-classes.ensures.1 c.in_err-classes.ensures.none

pub returns-in_err-workunits-clause-none : goal.returns-in_err-workunits-clause-none
returns-in_err-workunits-clause-none c =
    handed c.from_residual-in_err-workunits.result c.in_err-workunits.field-0.0 _ _ (λ wrong others world readable in_order rows any.
    let are = subst (λ (rows : Option ClassRows). AreAnyClassRowsOf rows world) c.in-Some.is any in
    let read = sym (c.in_ok-classes.ensures.same ∙ rows_plain classed_row c.in_ok-classes.classes.items) ∙ are.workunits in
    never_others c.args.workunits.items world.workunits c.in_ok-classes.classes.items (rw c.deref.ensures.value at others) rows read)
    c.from_residual-in_err-workunits.ensures.1 c.in_err-workunits.ensures.none

-- the classes of hosts are right
hosts_right : (rows : List Row) (classes : List HostClass) → IsPermutation (map class_cells classes) rows → AreInOrder classes → All IsStoredHostClass classes → AreHostClasses rows
hosts_right rows classes same in_order stored = record { classes = classes; stored = stored; same = same; in_order = in_order }

pub returns-in_err-hosts-clause-told : goal.returns-in_err-hosts-clause-told
returns-in_err-hosts-clause-told c =
    let works = map workunit_row c.args.workunits.items in
    handed c.from_residual.result c.in_err-hosts.field-0.0 _ _ (λ wrong it. subst (λ (rows : Option ClassRows). IsFirstClass works rows wrong) (sym c.in-Some.is)
    (first_host_class works c.in-Some.rows wrong it.0 it.1))
    c.from_residual.ensures.1 c.in_err-hosts.ensures.told

pub returns-in_err-classes-clause-told : goal.returns-in_err-classes-clause-told
returns-in_err-classes-clause-told c =
    let works = map workunit_row c.args.workunits.items in
    let hosts = c.in_ok-hosts.ensures in
    let right = hosts_right c.in-Some.rows.hosts c.in_ok-hosts.hosts.items hosts.same hosts.order hosts.stored in
    handed c.from_residual-in_err-classes.result c.in_err-classes.field-0.0 _ _ (λ wrong none. subst (λ (rows : Option ClassRows). IsFirstClass works rows wrong) (sym c.in-Some.is)
    (first_workunit_class works c.in-Some.rows wrong right none.0 (inl none.1)))
    c.from_residual-in_err-classes.ensures.1 c.in_err-classes.ensures.none

pub returns-in_err-workunits-clause-told : goal.returns-in_err-workunits-clause-told
returns-in_err-workunits-clause-told c =
    let works = map workunit_row c.args.workunits.items in
    let hosts = c.in_ok-hosts.ensures in
    let right = hosts_right c.in-Some.rows.hosts c.in_ok-hosts.hosts.items hosts.same hosts.order hosts.stored in
    let given = c.in_ok-classes.ensures.same in
    let read = given ∙ rows_plain classed_row c.in_ok-classes.classes.items in
    handed c.from_residual-in_err-workunits.result c.in_err-workunits.field-0.0 _ _ (λ wrong it. subst (λ (rows : Option ClassRows). IsFirstClass works rows wrong) (sym c.in-Some.is)
    (first_workunit_class works c.in-Some.rows wrong right it.0 (inr (
      record { values = c.in_ok-classes.classes.items; stored = c.in_ok-classes.ensures.each; same = given },
      differs_keys c.args.workunits.items c.in_ok-classes.classes.items c.in-Some.rows.workunits wrong.place read (rw c.deref.ensures.value at it.1),
    ))))
    c.from_residual-in_err-workunits.ensures.1 c.in_err-workunits.ensures.told
