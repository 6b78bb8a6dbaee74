use Rattle.std.proofs.Common.{ℕ, List, arith, map, subst}
use Rattle.std.proofs.lemmas.Bool.{iff_false}
use Rattle.std.proofs.lemmas.List.{length-map, take_all}
use Rattle.wu_schema.specs.Made.{AreFree}
use Rattle.wu_schema.specs.Refines.{IsFree}
use Rattle.wu_tables.proofs.UpgradeLemmas.{named_at, names_more}
use Rattle.wu_tables.proofs.upgrades.first_taken.Goals as goal

pub returns-then-not-is_free : goal.returns-then-not-is_free
returns-then-not-is_free c = record {
  place = c.loop-name.name-index;
  there = named_at _ c.args.names.now c.loop-name.name-index c.loop-name-test.true;
  taken = iff_false c.is_free.ensures c.if-not-is_free.true;
  before = c.loop-name.invariant;
}

pub loop-name-preserved : goal.loop-name-preserved
loop-name-preserved c =
    names_more _ (IsFree c.args.schema.now) c.args.names.now c.loop-name.name-index c.loop-name-test.true c.loop-name.invariant
    (c.is_free.ensures.0 c.if-not-is_free.false)

pub returns : goal.returns
returns c =
    let names : List (List ℕ) = map (λ name. name.now) c.args.names.now in
    let low = c.loop-name-test.false in
    let long = length-map c.args.names.now (λ name. name.now) in
    subst (AreFree c.args.schema.now) (take_all c.loop-name.name-index names (omega (arith, low, long))) c.loop-name.invariant
