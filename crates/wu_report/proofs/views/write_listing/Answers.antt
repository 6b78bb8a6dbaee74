use Rattle.std.proofs.Common.{rules}
use Rattle.wu_report.proofs.ViewLemmas.{same_place, view_written}
use Rattle.wu_report.proofs.views.write_listing.Goals as goal

pub returns : goal.returns
returns g c =
    let place = same_place g.W.Write.contents g.L.Item.Printed.text g.L.Listing.lines g.L.Listing.is_readable c.args.project.now c.walk.new.self _ c.walk.new.taker c.walk.result c.walk.ensures in
    let it = view_written g.W.Write.contents g.L.Item.Printed.text g.L.Listing.lines g.L.Listing.is_readable c.args.project.now c.walk.new.self _ c.walk.new.taker c.walk.result c.walk.ensures in
    search (rules, place, it)
