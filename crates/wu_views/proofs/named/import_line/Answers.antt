use Rattle.std.proofs.Common.{rules, None, Option, Some, ◌∙◌, ap}
use Rattle.std.specs.Prelude.{IfErr}
use Rattle.wu_schema.specs.Reading.{IsReadFault}
use Rattle.wu_store.proofs.AskLemmas.{reads_handed, reads_made, reads_also, never_broken, fault_read}
use Rattle.wu_views.proofs.NamedLemmas.{stored_is}
use Rattle.wu_views.specs.declared.lines.ImportLine.{ImportLine}
use Rattle.wu_views.proofs.named.import_line.Goals as goal

pub returns-in_err-stored : goal.returns-in_err-stored
returns-in_err-stored g c = record { reads = reads_handed g.S.Store _ _ c.from_residual.result c.in_err-stored.field-0.0 c.from_residual.ensures.1 c.in_err-stored.ensures.reads (λ other told world. tt) (λ world stood can. can) }

pub returns-in-None : goal.returns-in-None
returns-in-None g c = record { reads = reads_made g.S.Store _ _ c.in_ok-stored.field-0 None c.in_ok-stored.ensures.reads (λ world stood found. stored_is c.args.kind c.args.name.now world None (rw c.in-None.is at found)) }

pub returns-in_ok-line_of_stored-in-Some : goal.returns-in_ok-line_of_stored-in-Some
returns-in_ok-line_of_stored-in-Some g c = record {
  reads = reads_made g.S.Store _ _ c.in_ok-stored.field-0 _ c.in_ok-stored.ensures.reads (λ world stood found.
      ap {B = Option ImportLine} (λ line. Some line) c.in_ok-line_of_stored-in-Some.ensures ∙ stored_is c.args.kind c.args.name.now world (Some c.in-Some.stored) (rw c.in-Some.is at found));
}

pub returns-in_err-line_of_stored-in-Some : goal.returns-in_err-line_of_stored-in-Some
returns-in_err-line_of_stored-in-Some g c = record {
  reads = let r = c.from_residual-in_err-line_of_stored-in-Some.result in
      let told : IfErr r IsReadFault = search rules in
      reads_also g.S.Store _ _ c.in_ok-stored.field-0 r (never_broken r told) (fault_read r told) c.in_ok-stored.ensures.reads (λ world stood found. search rules) (λ world stood found can. search rules);
}
