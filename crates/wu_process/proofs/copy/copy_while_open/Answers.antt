use Rattle.wu_process.proofs.CopyLemmas.{copied_from}
use Rattle.wu_process.proofs.copy.copy_while_open.Goals as goal

pub returns : goal.returns
returns c = copied_from c.args.path.now c.in_ok-bytes.bytes c.in_ok-bytes.ensures c.files_in_memory.result c.files_in_memory.ensures.copies
