use Rattle.std.proofs.Common.{◌≡◌, refl}
use Rattle.std.specs.Prelude.{Some, None}
use Rattle.clap.specs.Words.{found_of}
use Rattle.wu_arguments.proofs.NumberLemmas.{number_lacks, number_read}
use Rattle.wu_arguments.proofs.values.number.Goals as goal

pub returns-in-Some-clause-value : goal.returns-in-Some-clause-value
returns-in-Some-clause-value c =
    number_read (found_of c.args.found.now) c.form.result.name.now c.args.option c.in-Some.number c.form.ensures.name
    (λ none. let clash : Some c.in-Some.number ≡ None = c.in-Some.ensures.none none in cc)
    (λ t some. (c.in-Some.ensures.value t some).0.1)

pub returns-in-None-clause-refused : goal.returns-in-None-clause-refused
returns-in-None-clause-refused c =
    (refl, number_lacks (found_of c.args.found.now) c.form.result.name.now c.args.option c.form.ensures.name (λ t some. (c.in-None.ensures.value t some).1.0))
