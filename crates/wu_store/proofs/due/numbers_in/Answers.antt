use Rattle.std.proofs.Common.{rules, ◌≡◌, ◌<◌, ◌++◌, ◌∷◌, [], ◌∙◌, get_or, length, take, sym, ap, arith, inl, inr}
use Rattle.std.proofs.lemmas.List.{take_more, take_all}
use Rattle.wu_store.proofs.QueuedLemmas.{as_many_numbers, memory_handed, number_in, read_by_row, told_by_row}
use Rattle.wu_store.proofs.due.numbers_in.Goals as goal

pub loop-row-preserved : goal.loop-row-preserved
loop-row-preserved c = record {
  long = search (arith, rules);
  so_far = λ numbers are.
      let i = c.loop-row.row-index in
      let n = c.in_ok-number.number in
      let low : i < length c.args.rows.now = omega (arith, c.loop-row-test.true) in
      let row_is = number_in c.args.rows.now numbers are i c.row-item.result n low (sym c.row-item.is) in
      let same : n ≡ get_or numbers i n = told_by_row c.row-item.result (get_or numbers i n) row_is n c.in_ok-number.ensures in
      let pushed : c.push.new.self.items ≡ c.loop-row.found.items ++ n ∷ [] = search rules in
      pushed ∙ ap (λ xs. xs ++ n ∷ []) (c.loop-row.invariant.so_far numbers are) ∙ ap (λ m. take i numbers ++ m ∷ []) same
      ∙ sym (take_more numbers i n (omega (arith, low, as_many_numbers c.args.rows.now numbers are)));
}

pub returns-in_err-number-clause-numbers : goal.returns-in_err-number-clause-numbers
returns-in_err-number-clause-numbers c numbers are =
    let i = c.loop-row.row-index in
    let low : i < length c.args.rows.now = omega (arith, c.loop-row-test.true) in
    let row_is = number_in c.args.rows.now numbers are i c.row-item.result 0 low (sym c.row-item.is) in
    let refused = read_by_row c.row-item.result (get_or numbers i 0) row_is _ c.in_err-number.ensures in
    memory_handed _ _ _ c.from_residual.ensures.1 (elim c.in_err-number.ensures.refused [ inl memory ↦ memory | inr other ↦ absurd (refused other) ])

pub returns-clause-numbers : goal.returns-clause-numbers
returns-clause-numbers c numbers are =
    let at_end : length c.args.rows.now ≡ c.loop-row.row-index = omega (arith, c.loop-row-test.false, c.loop-row.auto.row-index-end) in
    c.loop-row.invariant.so_far numbers are ∙ take_all c.loop-row.row-index numbers (omega (arith, at_end, as_many_numbers c.args.rows.now numbers are))
