-- By its marks a workunit is selected exactly where the pass changes it.
use Rattle.std.proofs.Common.{◌≡◌, ℕ, ◌+◌, nat_le, Bool, true, false, cond, ◌&&◌, Option, None, refl}
use Rattle.std.specs.Option.{option_map_or}
use Rattle.wu_core.specs.declared.workunit.Workunit.{Workunit}
use Rattle.wu_rules.specs.Assimilation.{is_purgeable}
use Rattle.wu_rules.specs.Due.{changes}
use Rattle.wu_rules.specs.Marks.{is_through, marks, selects}
use Rattle.wu_rules.specs.declared.due.Pass.{Pass}
use Rattle.wu_rules.specs.declared.due.Pass.TheVariants.{Transition, Validate, Assimilate, Delete, Purge}

aged_if : (through : Bool) (done_at : Option ℕ) (now age : ℕ) → option_map_or (λ d. nat_le (d + age) now) (cond through done_at None) false ≡ (through && option_map_or (λ d. nat_le (d + age) now) done_at false)
aged_if true done_at now age = refl
aged_if false done_at now age = refl

pub selects-changes : (pass : Pass) (now age : ℕ) (w : Workunit) → selects pass now age (marks w) ≡ changes pass now age w
unfolding marks is_purgeable
selects-changes Transition now age w = refl
selects-changes Validate now age w = refl
selects-changes Assimilate now age w = refl
selects-changes Delete now age w = refl
selects-changes Purge now age w = aged_if (is_through w) w.done_at now age
