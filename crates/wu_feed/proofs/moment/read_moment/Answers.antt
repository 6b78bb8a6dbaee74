use Rattle.std.proofs.Common.{◌+◌, ◌*◌, arith, sym, refl, ◌∙◌}
use Rattle.wu_feed.proofs.MomentLemmas.{moment_of_parts, shaped_at, within_text}
use Rattle.wu_feed.proofs.moment.read_moment.Goals as goal

pub two_at-requires-clause-within : goal.two_at-requires-clause-within
two_at-requires-clause-within c = within_text c.args.text.now 1 refl (sym c.has_shape.ensures ∙ c.if-not-has_shape.false)

pub two_at-requires-clause-tens : goal.two_at-requires-clause-tens
two_at-requires-clause-tens c = shaped_at c.args.text.now 0 refl (sym c.has_shape.ensures ∙ c.if-not-has_shape.false)

pub two_at-requires-clause-ones : goal.two_at-requires-clause-ones
two_at-requires-clause-ones c = shaped_at c.args.text.now 1 refl (sym c.has_shape.ensures ∙ c.if-not-has_shape.false)

pub two_at-requires-2-clause-within : goal.two_at-requires-2-clause-within
two_at-requires-2-clause-within c = within_text c.args.text.now 3 refl (sym c.has_shape.ensures ∙ c.if-not-has_shape.false)

pub two_at-requires-2-clause-tens : goal.two_at-requires-2-clause-tens
two_at-requires-2-clause-tens c = shaped_at c.args.text.now 2 refl (sym c.has_shape.ensures ∙ c.if-not-has_shape.false)

pub two_at-requires-2-clause-ones : goal.two_at-requires-2-clause-ones
two_at-requires-2-clause-ones c = shaped_at c.args.text.now 3 refl (sym c.has_shape.ensures ∙ c.if-not-has_shape.false)

pub two_at-month-requires-clause-within : goal.two_at-month-requires-clause-within
two_at-month-requires-clause-within c = within_text c.args.text.now 6 refl (sym c.has_shape.ensures ∙ c.if-not-has_shape.false)

pub two_at-month-requires-clause-tens : goal.two_at-month-requires-clause-tens
two_at-month-requires-clause-tens c = shaped_at c.args.text.now 5 refl (sym c.has_shape.ensures ∙ c.if-not-has_shape.false)

pub two_at-month-requires-clause-ones : goal.two_at-month-requires-clause-ones
two_at-month-requires-clause-ones c = shaped_at c.args.text.now 6 refl (sym c.has_shape.ensures ∙ c.if-not-has_shape.false)

pub two_at-day-requires-clause-within : goal.two_at-day-requires-clause-within
two_at-day-requires-clause-within c = within_text c.args.text.now 9 refl (sym c.has_shape.ensures ∙ c.if-not-has_shape.false)

pub two_at-day-requires-clause-tens : goal.two_at-day-requires-clause-tens
two_at-day-requires-clause-tens c = shaped_at c.args.text.now 8 refl (sym c.has_shape.ensures ∙ c.if-not-has_shape.false)

pub two_at-day-requires-clause-ones : goal.two_at-day-requires-clause-ones
two_at-day-requires-clause-ones c = shaped_at c.args.text.now 9 refl (sym c.has_shape.ensures ∙ c.if-not-has_shape.false)

pub two_at-hour-requires-clause-within : goal.two_at-hour-requires-clause-within
two_at-hour-requires-clause-within c = within_text c.args.text.now 12 refl (sym c.has_shape.ensures ∙ c.if-not-has_shape.false)

pub two_at-hour-requires-clause-tens : goal.two_at-hour-requires-clause-tens
two_at-hour-requires-clause-tens c = shaped_at c.args.text.now 11 refl (sym c.has_shape.ensures ∙ c.if-not-has_shape.false)

pub two_at-hour-requires-clause-ones : goal.two_at-hour-requires-clause-ones
two_at-hour-requires-clause-ones c = shaped_at c.args.text.now 12 refl (sym c.has_shape.ensures ∙ c.if-not-has_shape.false)

pub two_at-minute-requires-clause-within : goal.two_at-minute-requires-clause-within
two_at-minute-requires-clause-within c = within_text c.args.text.now 15 refl (sym c.has_shape.ensures ∙ c.if-not-has_shape.false)

pub two_at-minute-requires-clause-tens : goal.two_at-minute-requires-clause-tens
two_at-minute-requires-clause-tens c = shaped_at c.args.text.now 14 refl (sym c.has_shape.ensures ∙ c.if-not-has_shape.false)

pub two_at-minute-requires-clause-ones : goal.two_at-minute-requires-clause-ones
two_at-minute-requires-clause-ones c = shaped_at c.args.text.now 15 refl (sym c.has_shape.ensures ∙ c.if-not-has_shape.false)

pub two_at-second-requires-clause-within : goal.two_at-second-requires-clause-within
two_at-second-requires-clause-within c = within_text c.args.text.now 18 refl (sym c.has_shape.ensures ∙ c.if-not-has_shape.false)

pub two_at-second-requires-clause-tens : goal.two_at-second-requires-clause-tens
two_at-second-requires-clause-tens c = shaped_at c.args.text.now 17 refl (sym c.has_shape.ensures ∙ c.if-not-has_shape.false)

pub two_at-second-requires-clause-ones : goal.two_at-second-requires-clause-ones
two_at-second-requires-clause-ones c = shaped_at c.args.text.now 18 refl (sym c.has_shape.ensures ∙ c.if-not-has_shape.false)

pub overflow_mul-year : goal.overflow_mul-year
overflow_mul-year c = omega (arith, c.from.ensures, c.two_at.ensures.small)

pub overflow_add-year : goal.overflow_add-year
overflow_add-year c = omega (arith, c.from.ensures, c.from-2.ensures, c.two_at.ensures.small, c.two_at-2.ensures.small)

pub moment_at-requires-clause-date : goal.moment_at-requires-clause-date
moment_at-requires-clause-date c =
    (omega (arith, c.from.ensures, c.from-2.ensures, c.two_at.ensures.small, c.two_at-2.ensures.small), c.two_at-month.ensures.small, c.two_at-day.ensures.small)

pub moment_at-requires-clause-time : goal.moment_at-requires-clause-time
moment_at-requires-clause-time c = (c.two_at-hour.ensures.small, c.two_at-minute.ensures.small, c.two_at-second.ensures.small)

pub returns : goal.returns
returns c =
    c.moment_at.ensures ∙ moment_of_parts c.args.text.now (100 * c.from.result + c.from-2.result) _ _ _ _ _ (sym c.has_shape.ensures ∙ c.if-not-has_shape.false)
    (rw (c.from.ensures, c.from-2.ensures, c.two_at.ensures.value, c.two_at-2.ensures.value) refl)
    c.two_at-month.ensures.value c.two_at-day.ensures.value c.two_at-hour.ensures.value c.two_at-minute.ensures.value c.two_at-second.ensures.value
