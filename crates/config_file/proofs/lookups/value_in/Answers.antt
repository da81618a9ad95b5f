use Rattle.std.proofs.Common.{◌≡◌, ◌+◌, ◌∷◌, drop, sym, ap, ◌∙◌}
use Rattle.std.specs.Option.{option_copied, option_or}
use Rattle.std.specs.Str.{chars}
use Rattle.std.proofs.lemmas.List.{drop_more}
use Rattle.config_file.specs.Lookups.{last_value, value_in}
use Rattle.config_file.proofs.LastValues.{option_copied-or, section-of, section-other}
use Rattle.config_file.proofs.lookups.value_in.Goals as goal
use Rattle.config_file.proofs.lookups.value_in.Goals.{then-is_of, else-is_of}

pub loop-section-preserved : goal.loop-section-preserved
loop-section-preserved c =
    let profile = chars c.args.profile.now in
    let key = chars c.args.key.now in
    let sections = c.args.sections.now in
    let rest = drop (c.loop-section.section-index + 1) sections in
    let old = option_copied c.loop-section.value in
    let whole = value_in profile key sections in
    let cut : drop c.loop-section.section-index sections ≡ c.section-item.result ∷ rest =
    drop_more sections c.loop-section.section-index c.section-item.result c.loop-section-test.true
    ∙ ap (λ s. s ∷ rest) (sym c.section-item.is) in
    let before : option_or (value_in profile key (c.section-item.result ∷ rest)) old ≡ whole =
    ap (λ ss. option_or (value_in profile key ss) old) (sym cut) ∙ c.loop-section.invariant in
    elim c.if-is_of.branch [
      | then-is_of w ↦
          section-of profile key c.section-item.result rest old (option_copied c.if-is_of.value) whole (sym c.is_of.ensures ∙ w.if-is_of.true)
          (ap option_copied (w.value-is ∙ w.or-value.ensures) ∙ option_copied-or w.last_value.result c.loop-section.value
          ∙ ap (λ o. option_or o old) (w.last_value.ensures ∙ ap (last_value key) w.as_slice.ensures)) before
      | else-is_of w ↦
          ap (λ o. option_or (value_in profile key rest) (option_copied o)) w.value-is
          ∙ section-other profile key c.section-item.result rest old whole (sym c.is_of.ensures ∙ w.if-is_of.false) before
    ]
