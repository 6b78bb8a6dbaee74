use Rattle.wu_schema.proofs.Words.{Err, NotAProject, None, Some, inr, refl, subst, sym, ◌∙◌, ◌≡◌}
use Rattle.std.specs.Option.{IfSome}
use Rattle.wu_core.specs.Formed.{IsWorkunit}
use Rattle.wu_core.specs.Storable.{IsStorable}
use Rattle.wu_store.proofs.AskLemmas.{nothing_handed, reads_also, reads_both, reads_handed, reads_known, reads_made, reads_then_handed}
use Rattle.wu_store.proofs.LoadLemmas.{back_there, class_back, class_can, class_told, formed_classed, nothing_back}
use Rattle.wu_store.proofs.loading.whole.Goals as goal

pub returns-in_err-workunit : goal.returns-in_err-workunit
returns-in_err-workunit g c =
    let it = c.in_err-workunit.ensures in
    let same = c.from_residual.ensures.1 in
    record {
      formed = nothing_handed _ _ same _;
      reads = reads_handed g.S.Store _ _ _ _ same it.reads (λ other told world known found of. told) (λ world stands can. can.loadable);
    }

pub returns-in_default : goal.returns-in_default
returns-in_default g c =
    let it = c.in_ok-workunit.ensures in
    record { formed = tt; reads = reads_made g.S.Store _ _ c.in_ok-workunit.field-0 None it.reads (λ world stands told known found of. nothing_back found (sym c.in_default.is ∙ told found of)) }

pub returns-in_err-class : goal.returns-in_err-class
returns-in_err-class g c =
    let it = c.in_ok-workunit.ensures in
    let v = c.in-Some.workunit in
    let same = c.from_residual-in_err-class.ensures.1 in
    record {
      formed = nothing_handed _ _ same _;
      reads = reads_then_handed g.S.Store _ _ _ _ it.reads _ _ same (reads_known c.in_err-class.ensures.reads) (λ other told world known found of. told) (λ world stands told can.
          let (found, of, loads) = can.loadable in
          let (w, back) = back_there c.args.row found world v of (sym c.in-Some.is ∙ told found of) in
          (can.known, class_can v w found world back (subst (λ o. IfSome o IsStorable) back.found_is loads)));
    }

pub returns-in-Some-2 : goal.returns-in-Some-2
returns-in-Some-2 g c =
    let it = c.in_ok-workunit.ensures in
    let v = c.in-Some.workunit in
    record {
      formed = formed_classed v c.in-Some-2.class (subst (λ o. IfSome o IsWorkunit) c.in-Some.is it.formed);
      reads = reads_made g.S.Store _ _ _ _ (reads_both g.S.Store _ _ _ _ it.reads _ (reads_known c.in_ok-class.ensures.reads)) (λ world stands told known found of.
          let (w, back) = back_there c.args.row found world v of (sym c.in-Some.is ∙ told.0 found of) in
          class_back v w found world back c.in-Some-2.class (sym c.in-Some-2.is ∙ told.1 known));
    }

pub returns-in-None : goal.returns-in-None
returns-in-None g c =
    let it = c.in_ok-workunit.ensures in
    let v = c.in-Some.workunit in
    record {
      formed = tt;
      reads = reads_also g.S.Store _ _ _ (Err NotAProject) (λ is. absurd cc) (inr (inr refl)) (reads_both g.S.Store _ _ _ _ it.reads _ (reads_known c.in_ok-class.ensures.reads)) (λ world stands told known found of. inr (inr refl)) (λ world stands told can refused.
          let (found, of, loads) = can.loadable in
          let (w, back) = back_there c.args.row found world v of (sym c.in-Some.is ∙ told.0 found of) in
          let none : None ≡ Some w.class = sym c.in-None.is ∙ told.1 can.known ∙ class_told v w found world back in
          absurd cc);
    }
