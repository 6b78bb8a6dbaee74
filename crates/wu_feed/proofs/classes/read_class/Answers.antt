use Rattle.std.proofs.Common.{◌≡◌, ℕ, true, Ok, Err, rules, subst}
use Rattle.std.specs.Str.Parse.{ParsesUnsigned}
use Rattle.wu_feed.proofs.ClassLemmas.{class_parsed, class_refused, decimal_text}
use Rattle.wu_feed.specs.Classes.{is_decimal}
use Rattle.wu_feed.proofs.classes.read_class.Goals as goal

pub returns-in_default : goal.returns-in_default
returns-in_default c =
    let is : is_decimal c.args.text.now ≡ true = search rules in
    absurd (c.in_default.ensures.cases.0 (decimal_text c.args.text.now is))

pub returns-in-Ok-parse : goal.returns-in-Ok-parse
returns-in-Ok-parse c =
    let is : is_decimal c.args.text.now ≡ true = search rules in
    let read = subst (λ text. ParsesUnsigned {E = ℕ} 16 10 text (Ok c.in-Ok-parse.class)) c.in-Ok.ensures.cases.0 c.in-Ok-parse.ensures.value.0 in
    rw c.from.ensures (class_parsed c.args.text.now c.in-Ok-parse.class is read)

pub returns-in-Err : goal.returns-in-Err
returns-in-Err c =
    let is : is_decimal c.args.text.now ≡ true = search rules in
    class_refused c.args.text.now 0 is
    (subst (λ text. ParsesUnsigned {E = ℕ} 16 10 text (Err 0)) c.in-Ok.ensures.cases.0 c.in-Err.ensures.value.0)
