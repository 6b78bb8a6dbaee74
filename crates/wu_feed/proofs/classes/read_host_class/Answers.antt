use Rattle.wu_feed.proofs.ReadLemmas.{passed_on}
use Rattle.wu_feed.proofs.ToldLemmas.{host_class_told}
use Rattle.wu_feed.specs.Classes.{class_written}
use Rattle.wu_feed.proofs.classes.read_host_class.Goals as goal

pub returns-in_err-host : goal.returns-in_err-host
returns-in_err-host c =
    let same = passed_on c.in_err-host.field-0.0 c.from_residual.result c.from_residual.ensures in
    let was = rw (c.both.ensures, c.at_field-host.ensures, c.ok_or-class.ensures.value, c.read_class.ensures, c.fault_at.ensures) at c.in_err-host.was in
    let told = host_class_told c.args.number c.args.host.now (class_written c.args.class.now) c.read.result _ c.read.ensures.name c.read.ensures.told was in
    rw same (record { exact = told.0; told = told.1 })

pub returns : goal.returns
returns c =
    let was = rw (c.both.ensures, c.at_field-host.ensures, c.ok_or-class.ensures.value, c.read_class.ensures, c.fault_at.ensures) at c.in_ok-host.was in
    let told = host_class_told c.args.number c.args.host.now (class_written c.args.class.now) c.read.result _ c.read.ensures.name c.read.ensures.told was in
    record { exact = told.0; told = told.1 }
