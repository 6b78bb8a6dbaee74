-- The probe's text reads no table, so only the store can refuse it.
use Rattle.wu_schema.proofs.Words.{Compiled, CompileError, Err, Error, IsNotRun, List, Ok, Result, Schema, State, StoreError, [], ap, arith, everything, inl, inr, length, refl, store_error, subst, sym, understood, ℕ, ◌∙◌, ◌≡◌, ◌≤◌, ◌⊎◌}
use Rattle.sqlite_disk.specs.Disk.{MoreFaults}
use Rattle.sqlite_trees.specs.declared.error.StoreError.TheVariants as kind
use Rattle.std.specs.Prelude.{false, ◌≢◌}
use Rattle.sqlite.specs.State.{HasCause}
use Rattle.sqlite.specs.declared.types.Value.{Value}
use Rattle.sqlite.specs.declared.error.ErrorCode.TheVariants as code
use Rattle.sqlite.specs.declared.error.Error.TheVariants.{SqliteFailure, SqlInputError, InvalidParameterCount, MultipleStatement}
use Rattle.wu_core.specs.declared.fault.Fault.TheVariants.{Broken}
use Rattle.wu_schema.specs.Faults.{commit_fault_of}
use Rattle.wu_schema.specs.declared.texts.TheConstants.{SELECT_ONE}

abbrev pub one_text : List ℕ
one_text = SELECT_ONE.now

abbrev bare : Schema
bare = record { tables = []; indexes = []; views = [] }

-- whatever the schema, the text is understood
one_reads : (schema : Schema) → understood schema one_text ≡ understood bare one_text
unfolding everything understood
one_reads schema = refl

same_ok : {a b : Compiled} → ◌≡◌ {A = Result Compiled CompileError} (Ok a) (Ok b) → a ≡ b
same_ok e = cc

abbrev HasRefused : Result Compiled CompileError → Error → Type 0
HasRefused r e =
    ((fault : CompileError) × (r ≡ Err fault) × (e ≡ SqlInputError fault))
    ⊎ ((c : Compiled) × (r ≡ Ok c)
    × (((¬ (length one_text ≤ c.tail)) × (e ≡ MultipleStatement)) ⊎ (((length {A = Value} [] ≢ length c.names) × (e ≡ InvalidParameterCount (length {A = Value} []) (length c.names))) ⊎ ((c.formats ≢ []) × (e ≡ SqliteFailure code.NoClock)))))

never_no_statement : (e : Error) → ¬ HasRefused (understood bare one_text) e
unfolding everything understood
never_no_statement e (inl none) = absurd (let no = none.1 in cc)
never_no_statement e (inr (c, is, inl (long, told))) = absurd (long (subst (λ (k : Compiled). length one_text ≤ k.tail) (same_ok is) (omega arith)))
never_no_statement e (inr (c, is, inr (inl (many, told)))) = absurd (many (subst (λ (k : Compiled). 0 ≡ length k.names) (same_ok is) refl))
never_no_statement e (inr (c, is, inr (inr (timed, told)))) = absurd (timed (subst (λ (k : Compiled). k.formats ≡ []) (same_ok is) refl))

pub broken_by : (old new : State) (cause : StoreError) → commit_fault_of (store_error cause) ≡ Broken → HasCause old new ⊥ cause → MoreFaults old.faults new.faults ⊎ (old.is_open ≡ false)
broken_by old new kind.OutOfMemory is has = absurd cc
broken_by old new kind.Broken is has = inr has
broken_by old new kind.Unstorable is has = absurd has
broken_by old new _ is has = inl has

-- so the disk failed, or the connection was not open
pub one_breaks : (old new : State) (e : Error) → IsNotRun old new one_text [] e → commit_fault_of e ≡ Broken → MoreFaults old.faults new.faults ⊎ (old.is_open ≡ false)
unfolding IsNotRun
one_breaks old new e (inl refused) is = absurd (never_no_statement e (subst (λ r. HasRefused r e) (one_reads old.now.schema) refused.0))
one_breaks old new e (inr failed) is = broken_by old new failed.0 (ap commit_fault_of (sym failed.1) ∙ is) failed.2
