use Rattle.std.proofs.Common.{◌∙◌, ◌∷◌, [], inl, refl, sym}
use Rattle.csv.specs.Records.{fields_of}
use Rattle.wu_feed.proofs.ToldLemmas.{Found, refusal_tells, send_of-other}
use Rattle.wu_feed.specs.Sends.{send_of}
use Rattle.wu_feed.proofs.sends.SendRowRow.read.Goals as goal

pub returns-in-Some : goal.returns-in-Some
returns-in-Some c =
    let found = c.in-Some.ensures.found in
    let send = send_of c.args.number (c.in-Some.name.now ∷ c.in-Some.host.now ∷ c.in-Some.moment.now ∷ []) in
    rw found (record {
      exact = c.read_send.ensures.exact;
      fields = λ other. absurd (other refl);
      told = refusal_tells Found c.read_send.result send c.read_send.ensures.told;
    })

pub returns-in-None : goal.returns-in-None
returns-in-None c =
    let other = send_of-other c.args.number (fields_of c.args.row.now) c.in-None.ensures.other in
    rw c.fault_at.ensures (record { exact = inl (sym other); fields = λ long. refl; told = λ row why found e. sym other ∙ e })
