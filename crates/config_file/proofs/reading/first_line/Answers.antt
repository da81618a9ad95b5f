use Rattle.std.proofs.Common.{◌+◌, ◌<◌, ◌∷◌, length, drop, arith, sym, ap, ◌∙◌}
use Rattle.std.specs.Prelude.{◌≢◌}
use Rattle.std.specs.Str.Lines.{lines}
use Rattle.std.proofs.lemmas.Bool.{eqb-false}
use Rattle.std.proofs.lemmas.List.{length-drop, drop_all, take_rest}
use Rattle.std.proofs.lemmas.List.Quantifiers.{position-Some}
use Rattle.config_file.proofs.FirstLines.{is_feed, line_before_feed, line_without_feed}
use Rattle.config_file.proofs.reading.first_line.Goals as goal

pub returns-in-Some : goal.returns-in-Some
returns-in-Some c =
    let file = c.args.file.now in
    let behind = c.in-Some.at + 1 in
    let within = (position-Some is_feed file c.in-Some.at 0 (sym c.in-Some.ensures)).0 in (
      line_before_feed file c.in-Some.at c.in-Some.ensures
          ∙ ap (λ l. l ∷ lines (drop behind file)) (sym c.without_return.ensures)
          ∙ ap (λ rest. c.without_return.result.now ∷ lines rest) (sym (take_rest file behind)),
      omega (arith, ap length (take_rest file behind), length-drop behind file),
    )

pub returns-in-None : goal.returns-in-None
returns-in-None c =
    let file = c.args.file.now in
    let other : length file ≢ 0 = eqb-false (length file) 0 (sym c.is_empty.ensures ∙ c.if-is_empty.false) in
    let some : 0 < length file = omega arith in
    let rest = drop_all (length file) file (omega arith) in (
      line_without_feed file some c.in-None.ensures
          ∙ ap (λ r. file ∷ lines r) (sym (take_rest file (length file) ∙ rest)),
      omega (arith, ap length (take_rest file (length file)), length-drop (length file) file),
    )
