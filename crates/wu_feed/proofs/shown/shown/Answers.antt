-- A field that is shown is text, so it is never refused as none.
use Rattle.std.proofs.Common.{◌≡◌, true, rules}
use Rattle.wu_feed.specs.Shown.{is_shown}
use Rattle.wu_feed.proofs.ShownLemmas.{shown_is_text}
use Rattle.wu_feed.proofs.shown.shown.Goals as goal

pub returns-in-Err : goal.returns-in-Err
returns-in-Err c =
    let is : is_shown c.args.field.now ≡ true = search rules in
    absurd (c.in-Err.ensures.cases.0 (shown_is_text c.args.field.now is))
