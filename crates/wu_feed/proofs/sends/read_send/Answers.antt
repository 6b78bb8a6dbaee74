use Rattle.wu_feed.proofs.ReadLemmas.{passed_on}
use Rattle.wu_feed.proofs.ToldLemmas.{send_told}
use Rattle.wu_feed.proofs.sends.read_send.Goals as goal

pub returns-in_err-name : goal.returns-in_err-name
returns-in_err-name c =
    let same = passed_on c.in_err-name.field-0.0 c.from_residual.result c.from_residual.ensures in
    let was = rw (c.both-2.ensures, c.both.ensures, c.at_field-name.ensures, c.at_field-host.ensures, c.at_field-moment.ensures, c.read_moment.ensures) at c.in_err-name.was in
    let told = send_told c.args.number c.args.name.now c.args.host.now c.args.moment.now c.read.result c.read-2.result _ c.read.ensures.name c.read.ensures.told c.read-2.ensures.name c.read-2.ensures.told was in
    rw same (record { exact = told.0; told = told.1 })

pub returns : goal.returns
returns c =
    let was = rw (c.both-2.ensures, c.both.ensures, c.at_field-name.ensures, c.at_field-host.ensures, c.at_field-moment.ensures, c.read_moment.ensures) at c.in_ok-name.was in
    let told = send_told c.args.number c.args.name.now c.args.host.now c.args.moment.now c.read.result c.read-2.result _ c.read.ensures.name c.read.ensures.told c.read-2.ensures.name c.read-2.ensures.told was in
    record { exact = told.0; told = told.1 }
