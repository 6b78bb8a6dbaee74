use Rattle.std.proofs.Common.{◌≡◌, [], IfErr, IfOk, map, OnOk, string_bytes, subst, sym, true}
use Rattle.clap.specs.Words.{App, fault_of, is_simple_and_free, subcommand_of, subcommand_rows_of}
use Rattle.wu_arguments.proofs.ParseLemmas.{program_is_free}
use Rattle.wu_arguments.proofs.parse.parse.Goals as goal
use Rattle.wu_arguments.specs.Refusals.{IsRefusalBy}

pub parse_by-requires : goal.parse_by-requires
parse_by-requires c = subst (λ (a : App). is_simple_and_free a ≡ true) (sym c.in_ok-command-in-None.ensures) program_is_free

pub returns-in_ok-command-in-None-clause-found : goal.returns-in_ok-command-in-None-clause-found
returns-in_ok-command-in-None-clause-found c =
    let words = map string_bytes c.args.words.now in
    subst (λ (a : App). IfOk c.parse_by.result (λ found. subcommand_rows_of found ≡ subcommand_of a words)) c.in_ok-command-in-None.ensures c.parse_by.ensures.found

pub returns-in_ok-command-in-None-clause-taken : goal.returns-in_ok-command-in-None-clause-taken
returns-in_ok-command-in-None-clause-taken c =
    let words = map string_bytes c.args.words.now in
    subst (λ (a : App). OnOk c.parse_by.result (fault_of a words ≡ [])) c.in_ok-command-in-None.ensures c.parse_by.ensures.taken

pub returns-in_ok-command-in-None-clause-refused : goal.returns-in_ok-command-in-None-clause-refused
returns-in_ok-command-in-None-clause-refused c =
    let words = map string_bytes c.args.words.now in
    subst (λ (a : App). IfErr c.parse_by.result (IsRefusalBy a words)) c.in_ok-command-in-None.ensures c.parse_by.ensures.refused
