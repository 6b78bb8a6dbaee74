use Rattle.std.proofs.Common.{◌≡◌, ◌∙◌, ap, refl, sym}
use Rattle.std.proofs.lemmas.Bool.{eq-eqb, eqb-true}
use Rattle.wu_core.specs.Mask.{error_mask_code}
use Rattle.wu_core.proofs.MaskLemmas.{flags_of-error_mask_code}
use Rattle.wu_core.proofs.mask.ErrorMask.is_same.Goals as goal

pub returns : goal.returns
returns c = (
  λ told.
      let codes : error_mask_code c.args.self ≡ error_mask_code c.args.other = sym c.code.ensures ∙ eqb-true c.code.result c.code-2.result told ∙ c.code-2.ensures in
      sym (flags_of-error_mask_code c.args.self (error_mask_code c.args.other) codes) ∙ flags_of-error_mask_code c.args.other (error_mask_code c.args.other) refl,
  λ same. eq-eqb c.code.result c.code-2.result (c.code.ensures ∙ ap error_mask_code same ∙ sym c.code-2.ensures),
)
