use Rattle.std.proofs.Common.{◌≡◌, false, true, inl, inr, refl, rules}
use Rattle.wu_arguments.specs.Scripts.{is_pass, may_be_line}
use Rattle.wu_arguments.proofs.script.pass_of_words.Goals as goal

pub returns-in_default : goal.returns-in_default
returns-in_default c =
    let may : may_be_line c.args.words ≡ true = search rules in
    let other : is_pass c.in-Ok.line.asking ≡ false = search rules in
    inr (inl (c.in-Ok.line, may, c.in-Ok.ensures, other, refl))
