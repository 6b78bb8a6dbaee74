use Rattle.std.proofs.Common.{inr, rules, ◌≡◌, ◌∙◌, Some, sym}
use Rattle.wu_views.proofs.counts.version.Goals as goal

pub returns-in-Some : goal.returns-in-Some
returns-in-Some g c = record {
  reads = record {
    asks = search rules;
    opens = λ asked. c.in_ok-version.ensures.opens;
    fault = search rules;
    found = λ clean world stands. let same : Some c.in-Some.version ≡ Some world.version = sym c.in-Some.is ∙ (c.in_ok-version.ensures.answers clean).of_world world stands in cc;
    unrefused = search rules;
  };
}

pub returns-in-None : goal.returns-in-None
returns-in-None g c = record {
  reads = record {
    asks = search rules;
    opens = λ asked clean. inr (c.in_ok-version.ensures.opens clean);
    fault = search rules;
    found = search rules;
    unrefused = λ clean world stands first limit. absurd (let no = sym c.in-None.is ∙ (c.in_ok-version.ensures.answers clean).of_world world stands in cc);
  };
}
