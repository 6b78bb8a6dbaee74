-- The words of the store, of lists and of worlds that the proofs of this crate speak.
pub use Rattle.sqlite.proofs.Callers.{IsPlain, command_of, one_permutation, one_step, runs_as, statement_of}
pub use Rattle.sqlite.specs.Cast.{cast, cast_row}
pub use Rattle.sqlite.specs.Command.{Command}
pub use Rattle.sqlite.specs.Command.TheVariants.{Insert, InsertOr, Update}
pub use Rattle.sqlite.specs.Does.{Does, Tally}
pub use Rattle.sqlite.specs.Edit.{Applies, edit_of, id_in, is_taken, next_rowid, put_all, taken_by, with_rowid, without_all}
pub use Rattle.sqlite.specs.Effect.{Answers, Database, IsDatabase, RefusesQuery, value_rows}
pub use Rattle.sqlite.specs.Held.{Held, state}
pub use Rattle.sqlite.specs.Kind.TheVariants.{Integer}
pub use Rattle.sqlite.specs.Listing.{if_select, is_select, reads_listing}
unfoldable pub use Rattle.sqlite.specs.Listing.{understood}
pub use Rattle.sqlite.specs.Ops.{is_true}
unfoldable pub use Rattle.sqlite.specs.Ops.{binary, unary}
pub use Rattle.sqlite.specs.Order.{Row, column}
unfoldable pub use Rattle.sqlite.specs.Order.{value_cmp}
pub use Rattle.sqlite.specs.Program.{overlay}
pub use Rattle.sqlite.specs.Query.{IsAnswerAs, Output, Query, output}
pub use Rattle.sqlite.specs.Rowids.TheVariants.{Chosen, Given}
pub use Rattle.sqlite.specs.Rows.{Meets, Upserts, Written, count_of, stamped}
pub use Rattle.sqlite.specs.Schema.{Schema}
pub use Rattle.sqlite.specs.Source.TheVariants.{Values}
pub use Rattle.sqlite.specs.State.{Executes, FailsToShow, HasCleanDisk, IsUnchanged, State, Survives, mode_of, store_error}
unfoldable pub use Rattle.sqlite.specs.State.{CommitsShowing, ExecutesIn, FailsToQuery, IsNotRun, QueriesRow, Shown}
pub use Rattle.sqlite.specs.Store.{Ghosts}
pub use Rattle.sqlite.specs.Table.{Table}
pub use Rattle.sqlite.specs.Term.{Term, col, eval_all, holds, lit, op2}
pub use Rattle.sqlite.specs.Tree.{IsAscending, Trees, has_rowid, put_row, rowid, without_rowid}
pub use Rattle.sqlite.specs.Values.{bound_value}
pub use Rattle.sqlite.specs.declared.error.Error.{Error}
pub use Rattle.sqlite.specs.declared.run.Mode.{Mode}
pub use Rattle.sqlite.specs.declared.transaction.Transaction.{Transaction}
pub use Rattle.sqlite.specs.declared.types.Value.{Value}
pub use Rattle.sqlite.specs.declared.types.Value.TheVariants.{Blob, Int, Null, Real, Text}
pub use Rattle.sqlite_ast.specs.declared.Core.{Core, roll-Core}
pub use Rattle.sqlite_ast.specs.declared.CreateTable.{CreateTable}
pub use Rattle.sqlite_ast.specs.declared.Expr.{Expr, roll-Expr}
pub use Rattle.sqlite_ast.specs.declared.Expr.TheOpen.{Expr-F}
pub use Rattle.sqlite_ast.specs.declared.Rows.{Rows}
pub use Rattle.sqlite_ast.specs.declared.Select.{Select, roll-Select}
pub use Rattle.sqlite_ast.specs.declared.Sort.{Sort}
pub use Rattle.sqlite_ast.specs.declared.Source.{Source}
pub use Rattle.sqlite_ast.specs.declared.Statement.{Statement}
pub use Rattle.sqlite_catalog.specs.Change.{next_tree}
pub use Rattle.sqlite_catalog.specs.Listing.{IsGuarded, IsSound, automatic}
pub use Rattle.sqlite_draft.specs.declared.join.Step.TheVariants.{Inner}
pub use Rattle.sqlite_draft.specs.declared.query.Draft.{Draft}
pub use Rattle.sqlite_resolve.specs.Compile.{first, is_reserved, new_rows, small, with_command}
unfoldable pub use Rattle.sqlite_resolve.specs.Compile.{command, compiled, create_table, is_attached, meaning, planned, returning, timed}
unfoldable pub use Rattle.sqlite_resolve.specs.Expr.{lower_to}
unfoldable pub use Rattle.sqlite_resolve.specs.Given.{is_key_at, key_at}
pub use Rattle.sqlite_resolve.specs.Lowering.{Checked, and_then, nothing}
pub use Rattle.sqlite_resolve.specs.Program.{query}
unfoldable pub use Rattle.sqlite_resolve.specs.Program.{program, query_to, viewing}
pub use Rattle.sqlite_resolve.specs.Scope.{Context, Name, declared}
pub use Rattle.sqlite_resolve.specs.Select.{named}
pub use Rattle.sqlite_resolve.specs.Write.{simple}
pub use Rattle.sqlite_resolve.specs.declared.compiled.Compiled.{Compiled}
pub use Rattle.sqlite_resolve.specs.declared.error.CompileError.{CompileError}
pub use Rattle.sqlite_resolve.specs.declared.error.CompileError.TheVariants.{NoSuchTable}
pub use Rattle.sqlite_resolve.specs.declared.state.Carried.{Carried}
pub use Rattle.sqlite_rules.proofs.ActionLemmas.{got_last, got_still, no_works}
pub use Rattle.sqlite_rules.proofs.ListLemmas.{all_from, all_has, contains_had, has_contained, has_either, has_filtered, has_left, has_right, some_from, some_has, test_has}
pub use Rattle.sqlite_rules.proofs.PlaceLemmas.{given, row_at_is}
pub use Rattle.sqlite_rules.proofs.ProbeLemmas.{has_mapped, mapped_has}
pub use Rattle.sqlite_rules.specs.Action.{AreChildren, Leads, Work, action_edit, deed_for, pairs, works}
pub use Rattle.sqlite_rules.specs.Calls.{ids_of}
pub use Rattle.sqlite_rules.specs.Keys.{AreConflicts}
pub use Rattle.sqlite_rules.specs.Lists.{Has}
pub use Rattle.sqlite_rules.specs.declared.action.Deed.TheVariants.{Delete}
pub use Rattle.sqlite_schema.specs.Names.{column_named, is_key, place_of, same_name}
pub use Rattle.sqlite_schema.specs.Rules.{ParentKey, agree, equal, guards, is_of, parent_key, passes}
pub use Rattle.sqlite_schema.specs.declared.command.Conflict.TheVariants.{Abort}
pub use Rattle.sqlite_schema.specs.declared.command.Upsert.{Upsert}
pub use Rattle.sqlite_schema.specs.declared.program.Program.{Program}
pub use Rattle.sqlite_schema.specs.declared.schema.Column.{Column}
pub use Rattle.sqlite_schema.specs.declared.schema.Index.{Index}
pub use Rattle.sqlite_schema.specs.declared.schema.Keys.{Keys}
pub use Rattle.sqlite_schema.specs.declared.schema.Keys.TheVariants.{Enforced}
pub use Rattle.sqlite_schema.specs.declared.schema.Reference.{Reference}
pub use Rattle.sqlite_syntax.specs.declared.statement.Parsed.{Parsed}
unfoldable pub use Rattle.sqlite_tied.specs.Compute.{everything}
pub use Rattle.sqlite_trees.proofs.ListLemmas.{IsPermutation-filter, filter-map, filter_all, filter_none, map-map}
pub use Rattle.sqlite_trees.proofs.TreeLemmas.{IsShaped-filter, IsShaped-put_row}
pub use Rattle.sqlite_trees.specs.Tree.{IsTable}
pub use Rattle.sqlite_trees.specs.View.{IsShaped, is_int}
pub use Rattle.sqlite_trees.specs.declared.error.StoreError.{StoreError}
pub use Rattle.sqlite_typing.specs.Types.{accepts_program, row_classes}
pub use Rattle.sqlite_value.proofs.OrderLemmas.{value_cmp-Int, value_cmp_total}
unfoldable pub use Rattle.sqlite_value.specs.Keys.{first_key}
pub use Rattle.sqlite_value.specs.declared.keys.Collation.TheVariants.{Binary}
pub use Rattle.std.proofs.Common.{Bool, Err, IfErr, IfOk, IsErrAnd, IsSome, IsTrue, List, MatchBool, None, Ok, OnErr, OnOk, Option, Result, Some, T, Vec, [], add-one, ap, append-nil, ap₂, arith, bytes_eq, codes, cond, div-add-mod', drop, false, filter, find, fold, get_or, if◌then◌else◌, inl, inr, is_some, le_of_mul-le-mul_right, le_trans, length, lt→ltb, map, mul-le-mul_right, mul-one, mul-pos, mul_assoc, mul_comm, mul_right_comm, nat_le, nat_lt, negsuc, not, of_z, option_map, option_to_list, pos, refl, rules, slice_get, slice_range, subst, suc, sum_by, sym, take, take_all, to_z, true, true≢false, unwrap_or, w64, zero, ℕ, ℤ, ◌%◌, ◌&&◌, ◌*◌, ◌++◌, ◌+ℤ◌, ◌+◌, ◌-◌, ◌/◌, ◌<◌, ◌==◌, ◌^◌, ◌||◌, ◌∙◌, ◌∷◌, ◌≡◌, ◌≢◌, ◌≤◌, ◌⊎◌}
pub use Rattle.std.proofs.lemmas.Bool.{and_from, and_parts, cases_Bool, eq-eqb, eqb-true, false_from_ne_true, ne_eqb}
pub use Rattle.std.proofs.lemmas.Bool.Decides.{nat_tests}
pub use Rattle.std.proofs.lemmas.Cmp.{on_total, tied_itself}
pub use Rattle.std.proofs.lemmas.Int.{to_z-of_z}
pub use Rattle.std.proofs.lemmas.List.{length-map, map-append}
pub use Rattle.std.proofs.lemmas.List.Sorted.{Contains-permutation, IsPermutation-cons, IsPermutation-map, IsPermutation-refl, IsPermutation-sym, IsPermutation-trans, length_permutation}
pub use Rattle.std.proofs.lemmas.Result.{err_from_is_err_and}
pub use Rattle.std.proofs.lemmas.Slice.Eq.{bytes_eq-Decides}
pub use Rattle.std.specs.List.{AllByRecursion, enumerate_from, flat_map, list_all, list_any, position_from}
pub use Rattle.std.specs.List.Sorted.{IsPermutation, IsSorted}
pub use Rattle.std.specs.Option.{option_or}
pub use Rattle.std.specs.Ordering.{int_cmp, is_eq, ordering_reverse}
pub use Rattle.std.specs.Prelude.{⊤}
pub use Rattle.std.specs.declared.cmp.Ordering.{Ordering}
pub use Rattle.std.specs.declared.cmp.Ordering.TheVariants.{Equal, Greater, Less}
pub use Rattle.wu_core.specs.Codes.{import_kind_code}
pub use Rattle.wu_core.specs.Hosts.{hosts_of}
pub use Rattle.wu_core.specs.Reads.{IsOrWantsMemory}
pub use Rattle.wu_core.specs.World.{Import, World, is_import, last_skip}
pub use Rattle.wu_core.specs.declared.fault.Fault.{Fault}
pub use Rattle.wu_core.specs.declared.fault.Fault.TheVariants.{NotAProject}
pub use Rattle.wu_core.specs.declared.import.ImportKind.{ImportKind}
pub use Rattle.wu_core.specs.declared.workunit.Archived.{Archived}
pub use Rattle.wu_core.specs.declared.workunit.Grant.{Grant}
pub use Rattle.wu_core.specs.declared.workunit.Instance.{Instance}
pub use Rattle.wu_core.specs.declared.workunit.Workunit.{Workunit}
pub use Rattle.wu_schema.specs.Calls.{HasRun, IsBack, IsPart, IsUndone, AsksOnly}
pub use Rattle.wu_schema.specs.Faults.{IsFailure, fault_of}
pub use Rattle.wu_schema.specs.Made.{HasMade, PutsOne}
unfoldable pub use Rattle.wu_schema.specs.Pipeline.{pipeline}
pub use Rattle.wu_schema.specs.Refines.{HoldsAll, IsFree, ListsAll, Refines, instances_of}
pub use Rattle.wu_schema.specs.Stored.{archived_cells, class_cells, class_row, grant_cells, import_cells, instance_cells, instance_row, number, number_or_null, stored_archived, stored_class, stored_grant, stored_project, stored_workunit, text_or_null, verdict_digits, workunit_row}
pub use Rattle.wu_schema.specs.Tables.{HasNamed, HasTable, OwnsTree, archived_at, grant_at, host_at, host_class_at, import_at, may, needs, project_at, result_at, workunit_at, workunit_class_at}
pub use Rattle.wu_schema.specs.ProjectTables.{HasTables, ProjectTrees}
pub use Rattle.wu_schema.specs.Versions.{HasProject, HasVersion, version_text}
pub use Rattle.wu_schema.specs.Calm.{IsCalm, IsChildless, RefersOnlyTo}
