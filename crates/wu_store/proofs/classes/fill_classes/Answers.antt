use Rattle.wu_schema.proofs.Words.{Workunit, arith, get_or, length, length-map, map, map-map, rules, subst, sym, take, ap, ℕ, ◌<◌, ◌∙◌, ◌≡◌, ◌+◌, [], ◌∷◌}
use Rattle.std.proofs.Math.Seq.{take-length}
use Rattle.std.proofs.lemmas.List.{get_or-map}
use Rattle.wu_core.specs.declared.marks.Marks.{Marks}
use Rattle.wu_store.proofs.ChangeLemmas.{works_none, works_once, works_then}
use Rattle.wu_schema.specs.Classes.{HasClassTables, unbound_in}
use Rattle.wu_store.specs.Classes.{with_class_of}
use Rattle.wu_store.proofs.MarkedLemmas.{filled_more, tagged}
use Rattle.wu_store.proofs.PlacedLemmas.{world_rises}
use Rattle.wu_schema.proofs.OthersLemmas.{spares_none, spares_then}
use Rattle.wu_schema.specs.Made.{workunit_class_table}
use Rattle.wu_store.proofs.classes.fill_classes.Goals as goal

-- a row's number, with class 0
abbrev zeroed : ℕ × Marks → ℕ × ℕ
zeroed p = (p.0, 0)

pub loop-row-init : goal.loop-row-init
loop-row-init g c = (works_none _ _, λ _. (spares_none (workunit_class_table ∷ []) _, λ world older s same tables. (s, tables, λ marked q. q)))

pub loop-row-preserved : goal.loop-row-preserved
loop-row-preserved g c =
    let (works, before) = c.loop-row.invariant in
    let wrote = c.in_ok-insert_class.ensures.writes in
    let rows = c.args.rows.now in
    let i = c.loop-row.row-index in
    let one = c.row-item.result in
    let low : i < length rows = omega (arith, c.loop-row-test.true) in
    let at : get_or rows i one ≡ one = search rules in (
      works_then works (works_once wrote),
      λ clean.
          let so_far = before (omega (arith, wrote.part.survives.clean)) in
          let adds = c.in_ok-insert_class.ensures.adds clean in (
            spares_then (workunit_class_table ∷ []) _ _ _ so_far.0 (c.in_ok-insert_class.ensures.spares clean),
            λ world older s same none.
                let (stands, tables, keeps) = so_far.1 world older s same none in
                let zeros : map zeroed rows ≡ unbound_in world = ap (map zeroed) same ∙ map-map zeroed tagged world.workunits in
                let within : i < length (unbound_in world) = omega (arith, low, ap (λ zs. length zs) zeros, length-map rows zeroed) in
                let found : get_or (unbound_in world) i (zeroed one) ≡ zeroed one = ap (λ zs. get_or zs i (zeroed one)) (sym zeros) ∙ get_or-map zeroed rows i one (zeroed one) low ∙ ap zeroed at in
                let more : with_class_of one.0 0 (take i (unbound_in world)) ≡ take (i + 1) (unbound_in world) = filled_more (λ (w : Workunit). 0) world.workunits (world_rises _ world s) i (zeroed one) (zeroed one) within found in (
                  adds.stands world (take i (unbound_in world)) older tables stands,
                  subst (HasClassTables _) more (adds.tables (take i (unbound_in world)) tables),
                  λ marked q. adds.queue (take i (unbound_in world)) marked tables (keeps marked q),
                ),
          ),
    )

pub returns : goal.returns
returns g c =
    let rows = c.args.rows.now in
    let at_end : c.loop-row.row-index ≡ length rows = omega (arith, c.loop-row-test.false, c.loop-row.auto.row-index-end) in
    let (works, before) = c.loop-row.invariant in
    record {
      works = works;
      spares = λ clean. (before clean).0;
      fills = λ clean world older s same none.
          let (stands, tables, keeps) = (before clean).1 world older s same none in
          let zeros : map zeroed rows ≡ unbound_in world = ap (map zeroed) same ∙ map-map zeroed tagged world.workunits in
          let long : c.loop-row.row-index ≡ length (unbound_in world) = at_end ∙ sym (length-map rows zeroed) ∙ ap (λ zs. length zs) zeros in
          let whole : take c.loop-row.row-index (unbound_in world) ≡ unbound_in world = rw long (take-length (unbound_in world)) in
          (stands, subst (HasClassTables _) whole tables, keeps);
    }
