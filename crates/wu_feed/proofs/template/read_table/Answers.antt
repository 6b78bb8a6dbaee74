use Rattle.std.proofs.Common.{◌≡◌, ◌∙◌, ap, sym, false, true, codes}
use Rattle.wu_feed.proofs.TemplateLemmas.{has_only_keys-view, values_in}
use Rattle.wu_feed.specs.Templates.{has_only_keys, value_or}
use Rattle.wu_core.specs.Parameters.{Parameters}
use Rattle.toml.specs.Data.{get_member}
use Rattle.toml.specs.View.{table_view}
use Rattle.wu_feed.proofs.template.read_table.Goals as goal

pub returns-then-not-has_only_keys : goal.returns-then-not-has_only_keys
returns-then-not-has_only_keys c =
    let other : has_only_keys (table_view c.args.table.now) ≡ false = has_only_keys-view c.args.table.now.entries ∙ sym c.if-not-has_only_keys.ensures in
    rw other

pub returns : goal.returns
returns c =
    let only : has_only_keys (table_view c.args.table.now) ≡ true = has_only_keys-view c.args.table.now.entries ∙ sym c.if-not-has_only_keys.ensures in
    rw only (c.from_template.ensures ∙ values_in (table_view c.args.table.now) c.value_or.result c.value_or-2.result c.value_or-3.result c.value_or-4.result c.value_or-5.result c.value_or-6.result c.value_or-7.result
    (c.value_or.ensures ∙ ap (λ n. value_or n (get_member (codes "min_quorum") (table_view c.args.table.now))) (c.min_quorum.ensures.value ∙ ap (λ (p : Parameters). p.min_quorum) c.default-default.ensures))
    (c.value_or-2.ensures ∙ ap (λ n. value_or n (get_member (codes "target_nresults") (table_view c.args.table.now))) (c.target_nresults.ensures.value ∙ ap (λ (p : Parameters). p.target_nresults) c.default-default.ensures))
    (c.value_or-3.ensures ∙ ap (λ n. value_or n (get_member (codes "max_error_results") (table_view c.args.table.now))) (c.max_error_results.ensures.value ∙ ap (λ (p : Parameters). p.max_error_results) c.default-default.ensures))
    (c.value_or-4.ensures ∙ ap (λ n. value_or n (get_member (codes "max_total_results") (table_view c.args.table.now))) (c.max_total_results.ensures.value ∙ ap (λ (p : Parameters). p.max_total_results) c.default-default.ensures))
    (c.value_or-5.ensures ∙ ap (λ n. value_or n (get_member (codes "max_success_results") (table_view c.args.table.now))) (c.max_success_results.ensures.value ∙ ap (λ (p : Parameters). p.max_success_results) c.default-default.ensures))
    (c.value_or-6.ensures ∙ ap (λ n. value_or n (get_member (codes "delay_bound") (table_view c.args.table.now))) (c.delay_bound.ensures.value ∙ ap (λ (p : Parameters). p.delay_bound) c.default-default.ensures))
    (c.value_or-7.ensures ∙ ap (λ n. value_or n (get_member (codes "credit") (table_view c.args.table.now))) (c.credit.ensures.value ∙ ap (λ (p : Parameters). p.credit) c.default-default.ensures)))
