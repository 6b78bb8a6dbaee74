use Rattle.std.proofs.Common.{◌<◌, ◌≤◌, inl, inr, refl, subst}
use Rattle.std.specs.Prelude.{vec_len}
use Rattle.wu_process.proofs.RunLemmas.{ran_ends}
use Rattle.wu_process.proofs.run_with.Goals as goal

pub returns-in-Ok : goal.returns-in-Ok
returns-in-Ok g c =
    let short : vec_len c.in-Ok.words ≤ 1 = subst (λ n. n ≤ 1) c.len.ensures c.if-len-le1.true in
    rw c.in-Ok.is (inl (short, c.demonstrate.ensures, refl, refl, (refl, refl)))

pub returns-in-Ok-2 : goal.returns-in-Ok-2
returns-in-Ok-2 g c =
    let ran = ran_ends g.O.Write.contents g.E.Write.contents _ c.args.out.now c.run_words.new.out c.args.err.now c.run_words.new.err c.ended_ran.new.err _ _ c.ended_ran.result c.run_words.result (rw c.as_slice.ensures.value at c.run_words.ensures) c.ended_ran.ensures in
    let long : 1 < vec_len c.in-Ok.words = subst (λ n. 1 < n) c.len.ensures c.if-len-le1.false in
    rw c.in-Ok.is (inr (long, ran))

pub returns-in-Err : goal.returns-in-Err
returns-in-Err g c = rw c.in-Err.is (rw c.unheard.ensures at c.ended.ensures.tells, refl, refl, c.ended.ensures.same)
