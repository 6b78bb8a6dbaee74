use Rattle.std.proofs.Common.{◌≡◌, ◌-◌, ◌∙◌, take, ◌<◌, Ok, Some, ap, length, pos_of_ne-zero, refl, rules, subst, sym, vec_len}
use Rattle.std.proofs.lemmas.Bool.{eqb-false}
use Rattle.wu_cli.proofs.HearingLemmas.{heard_end, heard_ended, heard_last, heard_too_long, last_ends, last_goes_on}
use Rattle.wu_cli.proofs.hearing.heard_of.Goals as goal

pub returns-then-eq : goal.returns-then-eq
returns-then-eq c bytes kept =
    let long : length c.args.text.items ≡ vec_len c.args.text = rw c.deref.ensures.value at c.deref.ensures.len in
    let front : c.pop.new.self.items ≡ take (length c.args.text.items - 1) c.args.text.items = c.pop.ensures.rest ∙ ap (λ n. take (n - 1) c.args.text.items) (sym long) in
    ap (λ t. Some (Ok t)) front
    ∙ heard_ended bytes c.args.text.items kept (last_ends c.args.text.items c.last.result _ refl (rw c.deref.ensures.value at c.last.ensures.value) (sym c.eq.ensures ∙ c.if-eq.true))

pub returns-then-len-gt-LONGEST_LINE : goal.returns-then-len-gt-LONGEST_LINE
returns-then-len-gt-LONGEST_LINE c bytes kept =
    heard_too_long bytes c.args.text.items kept (last_goes_on c.args.text.items c.last.result _ refl (rw c.deref.ensures.value at c.last.ensures.value) (sym c.eq.ensures ∙ c.if-eq.false)) (search rules)

pub returns-then-is_empty : goal.returns-then-is_empty
returns-then-is_empty c bytes kept = heard_end bytes c.args.text.items kept (search rules)

pub returns-else-is_empty : goal.returns-else-is_empty
returns-else-is_empty c bytes kept =
    heard_last bytes c.args.text.items kept (last_goes_on c.args.text.items c.last.result _ refl (rw c.deref.ensures.value at c.last.ensures.value) (sym c.eq.ensures ∙ c.if-eq.false)) (search rules)
    (let long : length c.args.text.items ≡ vec_len c.args.text = rw c.deref.ensures.value at c.deref.ensures.len in
    let other = eqb-false (vec_len c.args.text) 0 (sym c.is_empty.ensures ∙ c.if-is_empty.false) in
    subst (λ n. 0 < n) (sym long) (pos_of_ne-zero other))
