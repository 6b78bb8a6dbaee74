-- What an INSERT of one row does, over any schema.
use Rattle.wu_schema.proofs.Words.{Bool, Chosen, Executes, HasTable, Insert, Int, Integer, Name, Null, Ok, PutsOne, Row, State, Table, Value, Values, [], ap, cast, cast_row, cond, false, length, map, mode_of, not, put_all, refl, runs_as, statement_of, subst, true, unary, understood, value_rows, ℕ, ℤ, ◌&&◌, ◌/◌, ◌∙◌, ◌∷◌, ◌≡◌}
use Rattle.sqlite.specs.Edit.{numbered, are_fresh}
use Rattle.wu_schema.proofs.EffectLemmas.{insert_does}
use Rattle.wu_schema.proofs.InsertTexts.{Put, PutFits, put_compiles}

either : (b : Bool) (x : Value) → cond b x x ≡ x
either true x = refl
either false x = refl

pub cast_null : cast Integer Null ≡ Null
unfolding unary
cast_null = either _ Null

pub cast_int : (n : ℤ) → cast Integer (Int n) ≡ Int n
unfolding unary
cast_int n = either _ (Int n)

pub also : {a b : Value} {as' bs : Row} → a ≡ b → as' ≡ bs → (a ∷ as') ≡ (b ∷ bs)
also p q = cc

pub no_more : ◌≡◌ {A = Row} [] []
no_more = refl

is_free : (taken : Bool) → not taken && true ≡ true → taken ≡ false
is_free false h = refl
is_free true h = absurd (cc)

-- the row that the values make before it has a rowid, and with one
module _ (title : Name) (table : ℕ → Table) (q : Put) (fits : PutFits title table q) (params : Row) (old new : State) (at tree : ℕ) (has : HasTable old.now.schema title at (table tree)) (source row : Row)
    (made : map (λ s. cast_row (table tree) s) (value_rows params (length q.terms) (length q.terms / length q.terms) q.terms) ≡ source ∷ []) (given : numbered Chosen (old.now.trees (table tree).tree) (source ∷ []) ≡ row ∷ []) where
  pub puts_one : (count : ℕ) → Executes q.text params old new (Ok count) → PutsOne old.now new.now (table tree).tree row
  puts_one count h =
      let it = put_compiles old.now.schema title at table tree has q fits in
      let ran = runs_as q.text params old new old.now.schema refl (Insert at (Values q.terms (length q.terms))) it.is it.plain count h in
      let did = insert_does old.step_limit (mode_of old) params old.now (statement_of q.text (understood old.now.schema q.text)) at (table tree) has.there ran.tally new.now q.terms (length q.terms) (fits.bare tree) (fits.plain tree params) ran.changed in
      let put = did.1.applied in
      let db = old.now.trees (table tree).tree in
      let one : numbered Chosen db (map (λ s. cast_row (table tree) s) (value_rows params (length q.terms) (length q.terms / length q.terms) q.terms)) ≡ row ∷ [] = ap (numbered Chosen db) made ∙ given in
      record {
        schema = did.0;
        fresh = is_free _ (subst (λ all. are_fresh db all ≡ true) one put.fresh);
        rows = put.rows ∙ ap (put_all db) one;
        tables = put.tables;
        sound = ran.sound;
      }
