-- What a cancel makes of a workunit.
use Rattle.std.proofs.Common.{◌≡◌, ℕ, cond, map, slice_get, Some, option_map, refl, ap, ◌∙◌}
use Rattle.std.proofs.lemmas.List.{length-map}
use Rattle.std.proofs.lemmas.Option.{slice_get-map}
use Rattle.wu_core.specs.declared.states.Outcome.TheVariants as outcome
use Rattle.wu_core.specs.declared.states.ServerState.TheVariants as server
use Rattle.wu_core.specs.declared.workunit.Instance.{Instance}
use Rattle.wu_core.specs.declared.workunit.Workunit.{Workunit}
use Rattle.wu_rules.specs.Cancelling.{cancelled}
use Rattle.wu_rules.specs.Instances.{closed}
use Rattle.wu_rules_laws.specs.Laws.{IsCancelled}

pub cancels : (w : Workunit) → IsCancelled w (cancelled w)
unfolding cancelled
cancels w = record {
  given_up = refl;
  closed = λ n i here unsent. at n i here ∙ ap (λ b. Some (cond b (record i { server_state = server.Over; outcome = outcome.DidntNeed }) i)) unsent;
  others = λ n i here sent. at n i here ∙ ap (λ b. Some (cond b (record i { server_state = server.Over; outcome = outcome.DidntNeed }) i)) sent;
  none_more = length-map w.instances closed;
  rest = refl;
}
  where
    at : (n : ℕ) (i : Instance) → slice_get w.instances n ≡ Some i → slice_get (map closed w.instances) n ≡ Some (closed i)
    at n i here = slice_get-map closed w.instances n ∙ ap (option_map closed) here
