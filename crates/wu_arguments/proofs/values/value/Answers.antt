use Rattle.std.proofs.Common.{◌∙◌, ap, List, ℕ}
use Rattle.clap.specs.Words.{first_of, found_of, rows_of}
use Rattle.clap.proofs.WalkLemmas.{first_value-rows}
use Rattle.wu_arguments.proofs.values.value.Goals as goal

pub returns : goal.returns
returns c =
    let found = found_of c.args.found.now in
    c.get_str.ensures ∙ first_value-rows found c.form.result.name.now ∙ ap (λ (id : List ℕ). first_of id (rows_of found)) c.form.ensures.name
