use Rattle.wu_schema.proofs.Words.{Option, None, Some, Schema, ℕ, false, subst, sym, ◌≡◌}
use Rattle.std.proofs.Common.{rules}
use Rattle.std.proofs.lemmas.Bool.{iff_false}
use Rattle.wu_check.specs.Checking.{IsKnownVersion}
use Rattle.wu_check.specs.Findings.{HasOtherVersion}
use Rattle.wu_check.proofs.LaterLemmas.{tells_version}
use Rattle.std.specs.Prelude.{is_some, IsNone}
use Rattle.wu_tables.specs.Found.{FindsPlace, HasQueueIn}
use Rattle.wu_check.proofs.judging.wrong_world.Goals as goal

none_found : (P : ℕ → Type 0) (found : Option ℕ) → is_some found ≡ false → FindsPlace P found → (n : ℕ) → P n → ⊥
none_found P None is none n has = none n has
none_found P (Some m) is none n has = absurd cc

pub returns-then-not-is_known-clause-told : goal.returns-then-not-is_known-clause-told
returns-then-not-is_known-clause-told c = λ db same stands.
    let world = c.args.loaded.now in
    let other : ¬ IsKnownVersion world.version = subst (λ n. ¬ IsKnownVersion n) c.version.ensures (iff_false c.is_known.ensures c.if-not-is_known.true) in
    subst (HasOtherVersion db) (sym c.version-then-not-is_known.ensures) (tells_version db world stands other)

pub returns-then-is_none-clause-told : goal.returns-then-is_none-clause-told
returns-then-is_none-clause-told c = λ db same stands.
    let none : IsNone c.in_ok-wrong.field-0 = search rules in record {
      world = c.args.loaded.now;
      refines = stands;
      sound = c.in_ok-wrong.ensures.exact.0 none;
      known = subst IsKnownVersion c.version.ensures (c.is_known.ensures.0 c.if-not-is_known.false);
      queued = c.is_queued.ensures.0 c.if-is_queued.true;
      none = λ tree has. none_found (HasQueueIn c.args.schema.now) c.queue_tree.result c.if-is_none.ensures c.queue_tree.ensures tree (subst (λ (s : Schema). HasQueueIn s tree) same has);
    }
