use Rattle.wu_schema.proofs.Words.{arith, get_or, length, rules, state, subst, sym, take, [], ◌<◌, ◌∷◌, ◌++◌, ◌≡◌, ◌+◌}
use Rattle.std.proofs.Common.{length-take-le}
use Rattle.std.proofs.lemmas.List.{take_more}
use Rattle.std.proofs.Math.Seq.{take-length}
use Rattle.wu_store.proofs.ChangeLemmas.{works_none, works_once, works_then}
use Rattle.wu_store.specs.Changes.{PutsGrants}
use Rattle.wu_store.proofs.CreditEffect.{puts_more, puts_none}
use Rattle.wu_store.proofs.changes.insert_grants.Goals as goal

pub loop-grant-init : goal.loop-grant-init
loop-grant-init g c = (omega arith, works_none _ _, λ _. puts_none c.args.place _)

pub loop-grant-preserved : goal.loop-grant-preserved
loop-grant-preserved g c =
    let (place, works, puts) = c.loop-grant.invariant in
    let wrote = c.in_ok-insert_grant.ensures.writes in
    let grants = c.args.grants.now in
    let i = c.loop-grant.grant-index in
    let one = c.grant-item.result in
    let old = (state g.S.Store c.args.tx.now.conn.now).now in
    let mid = (state g.S.Store c.loop-grant.tx.conn.now).now in
    let new = (state g.S.Store c.insert_grant.new.tx.conn.now).now in
    let low : i < length grants = omega (arith, c.loop-grant-test.true) in
    let at : get_or grants i one ≡ one = search rules in
    let so_many : length (take i grants) ≡ i = length-take-le i grants (omega (arith, low)) in
    let more : take i grants ++ one ∷ [] ≡ take (i + 1) grants = subst (λ x. take i grants ++ x ∷ [] ≡ take (i + 1) grants) at (sym (take_more grants i one low)) in (
      omega (arith, place),
      works_then works (works_once wrote),
      λ clean.
          let last : PutsGrants (c.args.place + length (take i grants)) (one ∷ []) mid new = subst (λ k. PutsGrants k (one ∷ []) mid new) (omega (arith, place, so_many)) (c.in_ok-insert_grant.ensures.puts clean) in
          subst (λ gs. PutsGrants c.args.place gs old new) more (puts_more c.args.place old mid new (take i grants) one (puts (omega (arith, clean, wrote.part.survives.clean))) last),
    )

pub returns : goal.returns
returns g c = record {
  works = search rules;
  makes = λ clean.
      let at_end : c.loop-grant.grant-index ≡ length c.args.grants.now = omega (arith, c.loop-grant-test.false, c.loop-grant.auto.grant-index-end) in
      let whole : take c.loop-grant.grant-index c.args.grants.now ≡ c.args.grants.now = rw at_end (take-length c.args.grants.now) in
      subst (λ gs. PutsGrants c.args.place gs (state g.S.Store c.args.tx.now.conn.now).now (state g.S.Store c.loop-grant.tx.conn.now).now) whole (c.loop-grant.invariant.2 clean);
}
