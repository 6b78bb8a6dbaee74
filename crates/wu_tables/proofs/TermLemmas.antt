-- When an expression says that the rowid is 1, by its parts.
use Rattle.std.proofs.Common.{◌≡◌, ◌⊎◌, ◌∙◌, ap, inl, inr, sym, ℕ, zero, suc, List, [], ◌∷◌, length, pos, refl}
use Rattle.sqlite.specs.declared.types.Value.TheVariants.{Int, Null}
use Rattle.sqlite.specs.Term.{Term, lit, col, op2}
use Rattle.sqlite_schema.specs.Code.{op_term, term_in, term_to}
use Rattle.sqlite_schema.specs.declared.code.Op.{Op}
use Rattle.sqlite_schema.specs.declared.code.Op.TheVariants.{Binary, Case, Column, Literal, Unary}
use Rattle.sqlite_sql.specs.declared.ops.BinaryOp.{BinaryOp}
use Rattle.wu_tables.specs.Forms.{is_one, op_at, SaysOne}

deeper : (ops : List Op) (n at left right : ℕ) (op : BinaryOp) → op_at ops at ≡ Binary op left right → term_to ops (suc n) at ≡ op2 op (term_to ops n left) (term_to ops n right)
deeper ops n at left right op is = ap (op_term (term_to ops n)) is

column_from : (below : ℕ → Term) (op : Op) → op_term below op ≡ col 1 0 → op ≡ Column 1 0
column_from below (Literal v) e = cc
column_from below (Column slot at) e = cc
column_from below (Unary o a) e = cc
column_from below (Binary o a b) e = cc
column_from below (Case t a b) e = cc

literal_from : (below : ℕ → Term) (op : Op) → op_term below op ≡ lit (Int (pos 1)) → op ≡ Literal (Int (pos 1))
literal_from below (Literal v) e = cc
literal_from below (Column slot at) e = cc
literal_from below (Unary o a) e = cc
literal_from below (Binary o a b) e = cc
literal_from below (Case t a b) e = cc

-- of one expression alone
alone : (op : Op) (at : ℕ) → (op_at (op ∷ []) at ≡ op) ⊎ (op_at (op ∷ []) at ≡ Literal Null)
alone op zero = inl refl
alone op (suc at) = inr refl

pub one_says : (ops : List Op) (at left right : ℕ) (op : BinaryOp) → op_at ops at ≡ Binary op left right → term_in ops at ≡ is_one → SaysOne ops op left right
one_says [] at left right op is e = cc
one_says (x ∷ []) at left right op is e = let k : op2 op (lit Null) (lit Null) ≡ is_one = sym (deeper (x ∷ []) 0 at left right op is) ∙ e in cc
one_says (x ∷ y ∷ more) at left right op is e =
    let ops : List Op = x ∷ y ∷ more in
    let k : op2 op (term_to ops (suc (length more)) left) (term_to ops (suc (length more)) right) ≡ is_one = sym (deeper ops (suc (length more)) at left right op is) ∙ e in
    record { op_is = cc; left_is = column_from (term_to ops (length more)) (op_at ops left) (cc); right_is = literal_from (term_to ops (length more)) (op_at ops right) (cc) }

pub says_one : (ops : List Op) (at left right : ℕ) (op : BinaryOp) → op_at ops at ≡ Binary op left right → SaysOne ops op left right → term_in ops at ≡ is_one
says_one [] at left right op is e = cc
says_one (x ∷ []) at left right op is e = elim (alone x at) [ inl h ↦ elim (alone x left) [ inl k ↦ cc | inr k ↦ cc ] | inr h ↦ cc ]
says_one (x ∷ y ∷ more) at left right op is e =
    let ops : List Op = x ∷ y ∷ more in
    let n : ℕ = length more in
    let l : term_to ops (suc n) left ≡ col 1 0 = ap (op_term (term_to ops n)) e.left_is in
    let r : term_to ops (suc n) right ≡ lit (Int (pos 1)) = ap (op_term (term_to ops n)) e.right_is in
    deeper ops (suc n) at left right op is ∙ cc
