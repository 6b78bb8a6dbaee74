use Rattle.std.proofs.Common.{◌∙◌, inl, Bor, List, ℕ, Some}
use Rattle.csv.proofs.ReadFacts.{read-record-false}
use Rattle.wu_feed.proofs.RecordLemmas.{stopped}
use Rattle.wu_feed.proofs.records.read_record.Goals as goal

pub fault_of-requires : goal.fault_of-requires
fault_of-requires c =
    let why = c.in-Err.ensures.why c.requires.2 in
    stopped (λ (s : Bor (List ℕ)). Some s.now) c.args.reader.now c.read_byte_record.new.self c.in-Err.error.kind c.requires.1 why

pub returns-in-Ok-true-clause-found : goal.returns-in-Ok-true-clause-found
returns-in-Ok-true-clause-found c =
    let read = c.in-Ok-true.ensures in
    let given = rw c.in-Ok-true.field-0-test at (read.reads c.requires.0 c.requires.2) in
    (given, (given.3 ∙ c.requires.0, read.flexible ∙ c.requires.1, inl (read.ready c.requires.0)))

pub returns-in-Ok-false-clause-found : goal.returns-in-Ok-false-clause-found
returns-in-Ok-false-clause-found c =
    let given = rw c.in-Ok-false.field-0-test at (c.in-Ok-false.ensures.reads c.requires.0 c.requires.2) in
    read-record-false (λ (s : Bor (List ℕ)). Some s.now) c.args.reader.now c.read_byte_record.new.self _ _ given
