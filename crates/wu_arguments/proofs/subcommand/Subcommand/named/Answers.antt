use Rattle.std.proofs.Common.{◌≡◌, ◌∙◌, arith, bytes_eq, false, refl, subst, sym, true}
use Rattle.wu_arguments.proofs.TableLemmas.{is_named, is_none, is_other}
use Rattle.wu_arguments.specs.CommandLine.{all_subcommands}
use Rattle.wu_arguments.specs.declared.subcommand.Subcommand.TheVariants.{Import}
use Rattle.wu_core.specs.declared.import.ImportKind.TheVariants.{Batch}
use Rattle.wu_arguments.proofs.subcommand.Subcommand.named.Goals as goal

pub loop-one-init : goal.loop-one-init
loop-one-init c = refl

pub loop-one-preserved : goal.loop-one-preserved
loop-one-preserved c =
    let other = subst (λ t. bytes_eq c.args.name.now t ≡ false) c.form.ensures.name (sym c.eq.ensures ∙ c.if-eq.false) in
    sym (is_other c.args.name.now (Import Batch) all_subcommands c.loop-one.one-index c.loop-one-test.true other) ∙ c.loop-one.invariant

pub returns-then-eq : goal.returns-then-eq
returns-then-eq c =
    let its = subst (λ t. bytes_eq c.args.name.now t ≡ true) c.form.ensures.name (sym c.eq.ensures ∙ c.if-eq.true) in
    sym (is_named c.args.name.now (Import Batch) all_subcommands c.loop-one.one-index c.loop-one-test.true its) ∙ c.loop-one.invariant

pub returns : goal.returns
returns c = sym (is_none c.args.name.now (Import Batch) all_subcommands c.loop-one.one-index (omega (arith, c.loop-one-test.false))) ∙ c.loop-one.invariant
