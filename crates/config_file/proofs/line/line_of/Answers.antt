use Rattle.std.proofs.Common.{◌≡◌, None, sym, ap, ◌∙◌}
use Rattle.std.specs.Prelude.{Result, Ok, Err, IfOk}
use Rattle.std.specs.Str.{is_utf8}
use Rattle.std.proofs.lemmas.Bool.{false_from_ne_true, cond-true, cond-false}
use Rattle.std.proofs.lemmas.Str.{IsUtf8-from_is_utf8, is_utf8-from_IsUtf8}
use Rattle.config_file.specs.Lines.{form_of, line_of}
use Rattle.config_file.proofs.line.line_of.Goals as goal

-- what is known of an answer holds of an equal one
along : {E A : Type 0} (r : Result A E) (x y : A) → x ≡ y → IfOk r (λ made. made ≡ x) → IfOk r (λ made. made ≡ y)
along (Ok made) x y same is = is ∙ same
along (Err e) x y same is = tt

pub returns-in-Ok : goal.returns-in-Ok
returns-in-Ok c =
    let cases = c.in-Ok.ensures.cases in
    along c.form_of.result (form_of c.args.kind c.args.place c.in-Ok.line.now) (line_of c.args.kind c.args.place c.args.bytes.now)
    (ap (form_of c.args.kind c.args.place) cases.0
    ∙ sym (cond-true (is_utf8 c.args.bytes.now) (form_of c.args.kind c.args.place c.args.bytes.now) None (is_utf8-from_IsUtf8 c.args.bytes.now cases.1)))
    c.form_of.ensures

pub returns-in-Err : goal.returns-in-Err
returns-in-Err c =
    let cases = c.in-Err.ensures.cases in
    sym (cond-false (is_utf8 c.args.bytes.now) (form_of c.args.kind c.args.place c.args.bytes.now) None
    (false_from_ne_true (is_utf8 c.args.bytes.now) (λ utf8. cases.0 (IsUtf8-from_is_utf8 c.args.bytes.now utf8))))
