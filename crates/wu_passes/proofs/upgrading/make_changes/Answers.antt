use Rattle.std.proofs.Common.{rules, ◌≡◌, ◌==◌, ◌∙◌, arith, inl, inr, length, refl, sym, true}
use Rattle.std.proofs.lemmas.Bool.Decides.{nat_tests}
use Rattle.sqlite.specs.Held.{state}
use Rattle.wu_machine.specs.Requests.{AskUpgrade}
use Rattle.wu_passes.proofs.StandingLemmas.{from_cut, from_done, from_nothing}
use Rattle.std.proofs.lemmas.List.{nil_from_length}
use Rattle.wu_passes.proofs.UpgradeLemmas.{back_undone, survives_same}
use Rattle.wu_passes.proofs.upgrading.make_changes.Goals as goal

pub returns-then-is_empty-clause-made : goal.returns-then-is_empty-clause-made
returns-then-is_empty-clause-made g c clean world answer stands shows plans =
    let is : (length c.args.changes.now == 0) ≡ true = sym c.is_empty.ensures ∙ c.if-is_empty.true in
    let s = state g.S.Store c.args.conn.now in
    (from_nothing s s world AskUpgrade answer c.args.changes.now true (nil_from_length c.args.changes.now (grind (arith, nat_tests))) refl plans).1

pub returns-in-Ok-clause-made : goal.returns-in-Ok-clause-made
returns-in-Ok-clause-made g c clean world answer stands shows plans =
    (from_done (state g.S.Store c.args.conn.now) (state g.S.Store c.change_all.new.conn) world AskUpgrade answer c.args.changes.now true stands plans (c.in-Ok.ensures.done clean)).1

pub returns-in-Err-clause-made : goal.returns-in-Err-clause-made
returns-in-Err-clause-made g c clean world answer stands shows plans =
    from_cut (state g.S.Store c.args.conn.now) (state g.S.Store c.change_all.new.conn) world AskUpgrade answer c.args.changes.now c.in-Err.fault clean stands shows plans c.in-Err.ensures.told (c.in-Err.ensures.undone clean) c.change_all.ensures.crash

pub returns-in-Err-clause-back : goal.returns-in-Err-clause-back
returns-in-Err-clause-back g c clean = back_undone (state g.S.Store c.args.conn.now) (state g.S.Store c.change_all.new.conn) (c.in-Err.ensures.undone clean)

pub returns-then-is_empty-clause-crash : goal.returns-then-is_empty-clause-crash
returns-then-is_empty-clause-crash g c = survives_same (state g.S.Store c.args.conn.now) _

pub returns-in-Err-clause-none : goal.returns-in-Err-clause-none
returns-in-Err-clause-none g c none = absurd (search rules)

pub returns-in-Err-clause-opens : goal.returns-in-Err-clause-opens
returns-in-Err-clause-opens g c clean = elim c.in-Err.ensures.told [
  | inl memory ↦ inl (inl memory)
  | inr (inl broken) ↦ inl (inr broken)
  | inr (inr refused) ↦ inr (c.in-Err.ensures.refused clean refused).is_open
]
