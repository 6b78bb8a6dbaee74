use Rattle.std.proofs.Common.{◌≡◌, ◌∙◌, [], IfOk, map, OnOk, string_bytes, subst, sym, true}
use Rattle.std.specs.Prelude.{IfSome, OnSome}
use Rattle.clap.specs.Words.{App, fault_of, is_simple_and_free, subcommand_of, subcommand_rows_of}
use Rattle.wu_arguments.specs.CommandLine.{program}
use Rattle.wu_arguments.proofs.AloneLemmas.{alone_is_free, answered, taken}
use Rattle.wu_arguments.proofs.parse.parse_alone.Goals as goal

pub parse_by-requires : goal.parse_by-requires
parse_by-requires c = subst (λ (a : App). is_simple_and_free a ≡ true) (sym c.in-Ok.ensures) (alone_is_free c.in-Some.one)

pub returns-in-Ok-clause-found : goal.returns-in-Ok-clause-found
returns-in-Ok-clause-found c =
    let words = map string_bytes c.args.words.now in
    let r = c.parse_by.result in
    let found = subst (λ (a : App). IfOk r (λ found. subcommand_rows_of found ≡ subcommand_of a words)) c.in-Ok.ensures c.parse_by.ensures.found in
    subst (λ o. IfSome o (λ found. subcommand_rows_of found ≡ subcommand_of program words)) (sym c.ok.ensures.value) (answered words c.in-Some.one (sym c.named_by.ensures ∙ c.in-Some.is) r found)

pub returns-in-Ok-clause-taken : goal.returns-in-Ok-clause-taken
returns-in-Ok-clause-taken c =
    let words = map string_bytes c.args.words.now in
    let r = c.parse_by.result in
    let none = subst (λ (a : App). OnOk r (fault_of a words ≡ [])) c.in-Ok.ensures c.parse_by.ensures.taken in
    subst (λ o. OnSome o (fault_of program words ≡ [])) (sym c.ok.ensures.value) (taken words c.in-Some.one (sym c.named_by.ensures ∙ c.in-Some.is) r none)
