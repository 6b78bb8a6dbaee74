-- The first wrong row, in the written order of the tables.
use Rattle.wu_schema.proofs.Words.{List, None, Option, Row, Some, ap, arith, inl, inr, refl, subst, sym, ℕ, ◌+◌, ◌<◌, ◌≡◌}
use Rattle.std.proofs.Common.{below_more}
use Rattle.wu_schema.specs.ProjectTables.{rank}
use Rattle.wu_schema.proofs.TableOrder.{one_rank}
use Rattle.wu_loader.specs.First.{AreHostClasses, AreRightBefore, IsFirstClass, IsFirstPlain, IsFirstWrong, IsRightClass, IsRightOfClasses, IsRightPlain}
use Rattle.wu_loader.specs.Wrongs.{IsWrongClass, IsWrongClassAt, IsWrongPlainAt}
use Rattle.wu_schema.specs.declared.table.ProjectTable.{ProjectTable}
use Rattle.wu_schema.specs.declared.table.ProjectTable.TheVariants as the_table
use Rattle.wu_loader.specs.declared.finding.WrongRow.{WrongRow}
use Rattle.wu_loader.specs.declared.tables.ClassRows.{ClassRows}
use Rattle.wu_loader.specs.declared.tables.PlainRows.{PlainRows}
use Rattle.wu_loader.specs.declared.tables.TableRows.{TableRows}
use Rattle.wu_loader.proofs.WholeLemmas.{at_table}

-- ---- the tables of every version

module _ (version : ℕ) (rows : PlainRows) where
  pub none_before : AreRightBefore version rows 0
  none_before which low = absurd (omega (arith, low))

  -- with one table more
  pub more_before : (which : ProjectTable) → IsRightPlain version rows which → AreRightBefore version rows (rank which) → AreRightBefore version rows (rank which + 1)
  more_before which right so_far other low =
      below_more (λ k. (t : ProjectTable) → rank t ≡ k → IsRightPlain version rows t) (rank which) (λ k less t is. so_far t (subst (λ n. n < rank which) (sym is) less))
      (λ t is. subst (λ (u : ProjectTable). IsRightPlain version rows u) (one_rank which t is) right) (rank other) low other refl

  pub first_plain : (which : ProjectTable) (wrong : WrongRow) → AreRightBefore version rows (rank which) → wrong.table ≡ which → IsWrongPlainAt version rows which wrong.place → IsFirstPlain version rows wrong
  first_plain which wrong before is at = record {
    wrong_row = at_table (IsWrongPlainAt version rows) which wrong (is, at);
    before = subst (λ (t : ProjectTable). AreRightBefore version rows (rank t)) (sym is) before;
  }

  -- it is in one of these tables
  plain_low : (which : ProjectTable) (place : ℕ) → IsWrongPlainAt version rows which place → rank which < 7
  plain_low the_table.Project place at = omega arith
  plain_low the_table.Workunit place at = omega arith
  plain_low the_table.Result place at = omega arith
  plain_low the_table.Grant place at = omega arith
  plain_low the_table.Host place at = omega arith
  plain_low the_table.Archived place at = omega arith
  plain_low the_table.Import place at = omega arith
  plain_low the_table.HostClass place at = absurd at
  plain_low the_table.WorkunitClass place at = absurd at

  -- nothing is asked of the tables of classes
  plain_all : AreRightBefore version rows 7 → (which : ProjectTable) → IsRightPlain version rows which
  plain_all right the_table.Project = right the_table.Project (omega arith)
  plain_all right the_table.Workunit = right the_table.Workunit (omega arith)
  plain_all right the_table.Result = right the_table.Result (omega arith)
  plain_all right the_table.Grant = right the_table.Grant (omega arith)
  plain_all right the_table.Host = right the_table.Host (omega arith)
  plain_all right the_table.Archived = right the_table.Archived (omega arith)
  plain_all right the_table.Import = right the_table.Import (omega arith)
  plain_all right the_table.HostClass = tt
  plain_all right the_table.WorkunitClass = tt

-- ---- the tables of classes

-- of these alone the first has something asked of it
class_right : (rows : ClassRows) (which : ProjectTable) → (which ≡ the_table.HostClass → AreHostClasses rows.hosts) → IsRightClass rows which
class_right rows the_table.Project right = tt
class_right rows the_table.Workunit right = tt
class_right rows the_table.Result right = tt
class_right rows the_table.Grant right = tt
class_right rows the_table.Host right = tt
class_right rows the_table.Archived right = tt
class_right rows the_table.Import right = tt
class_right rows the_table.HostClass right = right refl
class_right rows the_table.WorkunitClass right = tt

-- it comes behind the tables of every version
classes_below : (rows : Option ClassRows) (which : ProjectTable) → rank which < 7 → IsRightOfClasses rows which
classes_below None which low = tt
classes_below (Some rows) which low = class_right rows which (λ is. absurd (let high : rank which ≡ 7 = ap rank is in omega (arith, low, high)))

module _ (works : List Row) (rows : ClassRows) (wrong : WrongRow) where
  pub first_host_class : wrong.table ≡ the_table.HostClass → IsWrongClassAt works rows the_table.HostClass wrong.place → IsFirstClass works (Some rows) wrong
  first_host_class is at = record {
    wrong_row = at_table (IsWrongClassAt works rows) the_table.HostClass wrong (is, at);
    before = λ which low. classes_below (Some rows) which (subst (λ (t : ProjectTable). rank which < rank t) is low);
  }

  pub first_workunit_class : AreHostClasses rows.hosts → wrong.table ≡ the_table.WorkunitClass → IsWrongClassAt works rows the_table.WorkunitClass wrong.place → IsFirstClass works (Some rows) wrong
  first_workunit_class right is at = record {
    wrong_row = at_table (IsWrongClassAt works rows) the_table.WorkunitClass wrong (is, at);
    before = λ which low. class_right rows which (λ is. right);
  }

-- ---- all tables

module _ (version : ℕ) (rows : TableRows) (wrong : WrongRow) where
  pub first_of_plain : IsFirstPlain version rows.plain wrong → IsFirstWrong version rows wrong
  first_of_plain it =
      let high = plain_low version rows.plain wrong.table wrong.place it.wrong_row in
      record { wrong_row = inl it.wrong_row; plain = it.before; classes = λ which low. classes_below rows.classes which (omega (arith, low, high)) }

  pub first_of_classes : (works : List Row) → works ≡ rows.plain.workunits → AreRightBefore version rows.plain 7 → IsFirstClass works rows.classes wrong → IsFirstWrong version rows wrong
  first_of_classes works are right it = record {
    wrong_row = inr (subst (λ (rs : List Row). IsWrongClass rs rows.classes wrong) are it.wrong_row);
    plain = λ which low. plain_all version rows.plain right which;
    classes = it.before;
  }
