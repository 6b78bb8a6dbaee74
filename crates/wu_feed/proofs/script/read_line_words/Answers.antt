use Rattle.std.proofs.Common.{◌∙◌, Ok, ap, map, subst, sym}
use Rattle.wu_core.specs.Reads.{IsOrWantsMemory}
use Rattle.wu_feed.specs.Scripts.{words_among}
use Rattle.wu_feed.proofs.PlainLemmas.{plain_words}
use Rattle.wu_feed.proofs.script.read_line_words.Goals as goal

pub returns-then-is_plain : goal.returns-then-is_plain
returns-then-is_plain c =
    let fields = ap (map (λ field. field.now)) c.as_slice.ensures.value ∙ c.in_ok-fields.ensures in
    subst (λ words. IsOrWantsMemory c.words_of.result (Ok words)) (ap words_among fields ∙ plain_words c.args.line.now (sym c.is_plain.ensures ∙ c.if-is_plain.true)) c.words_of.ensures
