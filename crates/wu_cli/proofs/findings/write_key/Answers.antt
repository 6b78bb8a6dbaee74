use Rattle.std.proofs.Common.{◌++◌, ap, codes, subst}
use Rattle.std.proofs.lemmas.List.{append-nil}
use Rattle.wu_report.specs.Writing.{WritesTo}
use Rattle.wu_cli.proofs.TextLemmas.{key_told_as}
use Rattle.wu_cli.proofs.findings.write_key.Goals as goal

pub returns-in-Grant : goal.returns-in-Grant
returns-in-Grant g c = key_told_as _ _ c.write_counted-in-Grant.result _ _ c.in-Grant.is c.write_counted-in-Grant.ensures

pub returns-in-HostClass : goal.returns-in-HostClass
returns-in-HostClass g c =
    let told = rw c.as_str-in-HostClass.ensures at c.write_pieces-in-HostClass.ensures.bytes in
    let all = ap (λ name. codes "host_class " ++ name) (append-nil c.in-HostClass.host) in
    key_told_as _ _ c.write_pieces-in-HostClass.result _ _ c.in-HostClass.is
    (subst (λ text. WritesTo g.W.Write.contents c.args.out.now c.write_pieces-in-HostClass.new.out text c.write_pieces-in-HostClass.result) all told)
