use Rattle.wu_feed.proofs.InputLemmas.{decoded_gives}
use Rattle.wu_feed.proofs.inputs.read_hex.Goals as goal

pub returns : goal.returns
returns c = decoded_gives c.args.longest c.args.text.now c.decode.result c.decoded_within.result c.decoded_within.ensures c.decode.ensures.ok c.decode.ensures.err
