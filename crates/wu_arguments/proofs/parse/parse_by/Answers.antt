use Rattle.std.proofs.Common.{map, string_bytes}
use Rattle.clap.specs.Words.{app_of}
use Rattle.wu_arguments.proofs.ParseLemmas.{found_by, refused_by}
use Rattle.wu_arguments.proofs.parse.parse_by.Goals as goal

pub returns-in-Ok-clause-found : goal.returns-in-Ok-clause-found
returns-in-Ok-clause-found c = found_by (app_of c.args.command) (map string_bytes c.args.words.now) c.requires _ c.in-Ok.ensures.matches

pub returns-in-Ok-clause-taken : goal.returns-in-Ok-clause-taken
returns-in-Ok-clause-taken c = c.in-Ok.ensures.kinds c.requires

pub returns-in-Err-clause-refused : goal.returns-in-Err-clause-refused
returns-in-Err-clause-refused c =
    refused_by (app_of c.args.command) (map string_bytes c.args.words.now) c.requires c.in-Err.error c.told.result c.told.ensures c.in-Err.ensures.kinds
