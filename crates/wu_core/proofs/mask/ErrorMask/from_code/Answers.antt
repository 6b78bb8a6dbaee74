use Rattle.std.proofs.Common.{arith}
use Rattle.wu_core.proofs.MaskLemmas.{flags_decode}
use Rattle.wu_core.proofs.mask.ErrorMask.from_code.Goals as goal

pub returns : goal.returns
returns c = flags_decode c.args.code (omega arith)
