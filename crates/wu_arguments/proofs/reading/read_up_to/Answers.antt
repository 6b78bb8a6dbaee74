use Rattle.std.proofs.Common.{◌≡◌, IfSome, OnOk, take, Vec, ℕ, Global, rules}
use Rattle.wu_arguments.proofs.ReadLemmas.{read_known}
use Rattle.wu_arguments.specs.Reading.{read_at_most}
use Rattle.wu_arguments.proofs.reading.read_up_to.Goals as goal

pub returns : goal.returns
returns g c =
    let P : Vec ℕ Global → Type 0 = λ bytes. IfSome (g.R.Read.remaining c.args.reader) (λ all. bytes.items ≡ take (read_at_most c.args.most) all) in
    let so : OnOk c.read_to_end-read.result (P c.read_to_end-read.new.buf) = search rules in
    let known = read_known P c.read_to_end-read.result c.read_to_end-read.new.buf c.read_whole.result c.read_whole.ensures so in
    record { ok = known.0; fault = known.1 }
