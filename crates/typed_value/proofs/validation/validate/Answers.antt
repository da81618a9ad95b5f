use Rattle.std.proofs.Common.{sym, ap, ◌∙◌}
use Rattle.typed_value.specs.Fits.{fits_of}
use Rattle.typed_value.proofs.Agreeing.{fits_alone}
use Rattle.typed_value.proofs.validation.validate.Goals as goal

pub returns-then-fits_flat : goal.returns-then-fits_flat
returns-then-fits_flat c =
    let shapes = c.args.model.now.shapes in
    let fits = sym (c.fits_flat.ensures ∙ ap (fits_of shapes c.args.shape) c.in_ok-flat.ensures) ∙ c.if-fits_flat.true in
    c.new.ensures ∙ sym ((fits_alone shapes c.args.shape c.args.value.now).0 fits)
