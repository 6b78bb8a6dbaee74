use Rattle.std.proofs.Common.{sym, ◌∙◌}
use Rattle.wu_report.proofs.views.write_view.Goals as goal

pub returns-in-Workunits-clause-written : goal.returns-in-Workunits-clause-written
returns-in-Workunits-clause-written g c = rw c.in-Workunits.is c.write_listing.ensures

pub returns-in-Workunits-clause-counted : goal.returns-in-Workunits-clause-counted
returns-in-Workunits-clause-counted g c is = absurd (let no = sym is ∙ c.in-Workunits.is in cc)

pub returns-in-Results-clause-written : goal.returns-in-Results-clause-written
returns-in-Results-clause-written g c = rw c.in-Results.is c.write_listing-in-Results.ensures

pub returns-in-Results-clause-counted : goal.returns-in-Results-clause-counted
returns-in-Results-clause-counted g c is = absurd (let no = sym is ∙ c.in-Results.is in cc)

pub returns-in-Hosts-clause-written : goal.returns-in-Hosts-clause-written
returns-in-Hosts-clause-written g c = rw c.in-Hosts.is c.write_listing-in-Hosts.ensures

pub returns-in-Hosts-clause-counted : goal.returns-in-Hosts-clause-counted
returns-in-Hosts-clause-counted g c is = absurd (let no = sym is ∙ c.in-Hosts.is in cc)

pub returns-in-Archive-clause-written : goal.returns-in-Archive-clause-written
returns-in-Archive-clause-written g c = rw c.in-Archive.is c.write_listing-in-Archive.ensures

pub returns-in-Archive-clause-counted : goal.returns-in-Archive-clause-counted
returns-in-Archive-clause-counted g c is = absurd (let no = sym is ∙ c.in-Archive.is in cc)

pub returns-in-Classes-clause-written : goal.returns-in-Classes-clause-written
returns-in-Classes-clause-written g c = rw c.in-Classes.is c.write_listing-in-Classes.ensures

pub returns-in-Classes-clause-counted : goal.returns-in-Classes-clause-counted
returns-in-Classes-clause-counted g c is = absurd (let no = sym is ∙ c.in-Classes.is in cc)

pub returns-in-Imports-clause-written : goal.returns-in-Imports-clause-written
returns-in-Imports-clause-written g c = rw c.in-Imports.is c.write_listing-in-Imports.ensures

pub returns-in-Imports-clause-counted : goal.returns-in-Imports-clause-counted
returns-in-Imports-clause-counted g c is = absurd (let no = sym is ∙ c.in-Imports.is in cc)

pub returns-in-Import-clause-written : goal.returns-in-Import-clause-written
returns-in-Import-clause-written g c = rw c.in-Import.is c.write_imports.ensures

pub returns-in-Import-clause-counted : goal.returns-in-Import-clause-counted
returns-in-Import-clause-counted g c is = absurd (let no = sym is ∙ c.in-Import.is in cc)

pub returns-in-Status-clause-written : goal.returns-in-Status-clause-written
returns-in-Status-clause-written g c = rw c.in-Status.is c.write_status.ensures

pub returns-in-Status-clause-counted : goal.returns-in-Status-clause-counted
returns-in-Status-clause-counted g c is = absurd (let no = sym is ∙ c.in-Status.is in cc)

pub returns-in-Summary-clause-written : goal.returns-in-Summary-clause-written
returns-in-Summary-clause-written g c = rw c.in-Summary.is c.write_counts.ensures.written

pub returns-in-Summary-clause-counted : goal.returns-in-Summary-clause-counted
returns-in-Summary-clause-counted g c is = c.write_counts.ensures.counted
