use Rattle.std.proofs.Common.{◌∙◌, ap, inl, sym, Ok}
use Rattle.wu_feed.proofs.ReadLemmas.{passed_on, refused}
use Rattle.wu_feed.proofs.ScriptLemmas.{late_refused, line_made, no_byte}
use Rattle.wu_feed.proofs.script.read_line.Goals as goal

pub returns-then-is_empty : goal.returns-then-is_empty
returns-then-is_empty c =
    let none = ap Ok (sym (no_byte c.args.number c.args.line.now (sym c.is_empty.ensures ∙ c.if-is_empty.true))) in
    record { exact = inl none; late = λ over. none }

pub returns-in_err-words : goal.returns-in_err-words
returns-in_err-words c =
    let read = c.in_err-words.ensures in
    rw (passed_on c.in_err-words.field-0.0 c.from_residual.result c.from_residual.ensures) (record { exact = refused c.in_err-words.field-0.0 _ _ read.exact; late = late_refused c.in_err-words.field-0.0 c.args.number _ _ read.late })

pub returns : goal.returns
returns c =
    let made = line_made c.args.number c.args.line.now c.in_ok-words.words (sym c.is_empty.ensures ∙ c.if-is_empty.false) c.in_ok-words.ensures.exact in
    let line = ap Ok (c.line_with.ensures ∙ made) in
    record { exact = inl line; late = λ over. line }
