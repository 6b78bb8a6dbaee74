-- Which tables the actions of one step leave alone.
use Rattle.wu_schema.proofs.Words.{Applies, Enforced, Has, IsCalm, IsChildless, Keys, Leads, None, Ok, OwnsTree, Reference, RefersOnlyTo, Schema, Table, [], ap, deed_for, false, inl, inr, length, refl, subst, sym, taken_by, works, ℕ, ◌++◌, ◌==◌, ◌∙◌, ◌≡◌, ◌≢◌}
use Rattle.wu_schema.specs.Calm.{IsSteady}
use Rattle.sqlite_schema.specs.declared.schema.Action.TheVariants.{NoAction}
use Rattle.sqlite_schema.specs.declared.schema.Keys.TheVariants.{Deferred, Off}
use Rattle.sqlite_trees.specs.Tree.{Trees}
use Rattle.sqlite.specs.Edit.{Edit}
use Rattle.sqlite_rules.specs.Action.{Writes as Edits}
use Rattle.wu_schema.proofs.RowLemmas.{childless}
use Rattle.wu_schema.proofs.QuietLemmas.{has_work, quiet}

-- a reference that acts on no change of what it refers to
no_deed : (keys : Keys) (ref : Reference) → ref.on_update ≡ NoAction → deed_for keys false ref ≡ None
no_deed Enforced ref none = rw none refl
no_deed Deferred ref none = rw none refl
no_deed Off ref none = refl

module _ (schema : Schema) (keys : Keys) where
  -- of a write that is done, the step, what its actions lead to, and the trees that they leave
  pub record HasStepped (db : Trees) (edit : Edit) (next : Trees) : Type 0 where
    pub mid : Trees
    pub applied : Applies schema keys db edit mid
    pub steps : ℕ
    pub leads : Leads schema keys steps mid ([] ++ works schema keys 0 edit.table.tree (taken_by db edit) edit.news) (Ok next)
    pub calm : (at : Table) → Has schema.tables at → IsCalm schema keys at edit.table.tree → next at.tree ≡ mid at.tree
    -- where rows take the place of those that it takes out
    pub steady : (at : Table) → Has schema.tables at → IsSteady schema keys at → (length edit.news == 0) ≡ false → next at.tree ≡ mid at.tree

  pub stepped : (db next : Trees) (edit : Edit) → Edits schema keys db edit (Ok next) → HasStepped db edit next
  stepped db next edit (inl refused) = absurd (let e = refused.2 in cc)
  stepped db next edit (inr (inl big)) = absurd (let e = big.3 in cc)
  stepped db next edit (inr (inr done)) = record {
    mid = done.0;
    applied = done.1;
    steps = done.2.0;
    leads = done.2.1;
    calm = λ at stands c. quiet schema keys at c.parent stands c.childless c.only done.2.0 done.0 next _ done.2.1 (λ w on.
        let it = has_work schema keys 0 edit.table.tree (taken_by db edit) edit.news w on in record { child = it.child; ref = it.ref; aside = λ is. c.past w.child w.ref it.key it.child is it.ref it.found it.parent });
    steady = λ at stands s sets. quiet schema keys at s.parent stands s.childless s.only done.2.0 done.0 next _ done.2.1 (λ w on.
        let it = has_work schema keys 0 edit.table.tree (taken_by db edit) edit.news w on in record { child = it.child; ref = it.ref; aside = λ is. absurd (let e = sym (no_deed keys w.ref (s.stays w.child w.ref it.child is it.ref)) ∙ ap (λ b. deed_for keys b w.ref) (sym sets) ∙ it.due in cc) });
  }

-- a table that refers to nothing
pub calm_bare : (schema : Schema) (t : Table) (source : ℕ) → OwnsTree schema t → t.references ≡ [] → IsCalm schema Enforced t source
calm_bare schema t source owns none =
    let own = childless schema t owns none in
    record {
      parent = t.tree;
      childless = own;
      only = λ u ref key listed is refers found. absurd (subst (λ refs. Has refs ref) (own u listed is) refers);
      past = λ u ref key listed is refers found. absurd (subst (λ refs. Has refs ref) (own u listed is) refers);
    }

-- a table that refers to one other, which refers to nothing
pub calm_child : (schema : Schema) (t : Table) (parent source : ℕ) → IsChildless schema Enforced parent → RefersOnlyTo schema Enforced t.tree parent → parent ≢ source → IsCalm schema Enforced t source
calm_child schema t parent source bare only other =
    record { parent = parent; childless = bare; only = only; past = λ u ref key listed is refers found at. other (sym (only u ref key listed is refers found) ∙ at) }
