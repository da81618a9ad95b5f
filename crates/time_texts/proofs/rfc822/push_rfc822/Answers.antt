use Rattle.std.proofs.Common.{◌++◌, ◌/◌, ◌%◌, ◌<◌, ◌≤◌, ℕ, subst, [], FitsSigned, w64, append-nil, sym, ap, ◌∙◌, arith}
use Rattle.std.proofs.lemmas.Bool.{cond-true, cond-false}
use Rattle.std.proofs.lemmas.Int.{to_z-of_z}
use Rattle.httpdate.specs.Text.{imf_fixdate}
use Rattle.httpdate.proofs.Theorems.{date_text_is}
use Rattle.httpdate.proofs.ValidLemmas.{is_valid_complete}
use Rattle.time_texts.specs.Civil.{civil_date}
use Rattle.time_texts.specs.Texts.{has_rfc822, http_parts, day_of, second_of}
use Rattle.time_texts.proofs.Parts.{fits, valid, seconds}
use Rattle.time_texts.proofs.Spans.{rfc822_from, rfc822_outside}
use Rattle.time_texts.proofs.rfc822.push_rfc822.Goals as goal

pub returns-in_default : goal.returns-in_default
returns-in_default c =
    let t = c.args.moment in
    let small : FitsSigned w64 t = c.ranges.moment in
    let years = simp to_z-of_z at c.in_default.ensures.none in
    sym (append-nil c.args.out.now) ∙ ap (λ s. c.args.out.now ++ s)
    (sym (cond-false (has_rfc822 t) (imf_fixdate (http_parts (civil_date (day_of t)) (day_of t) (second_of t))) [] (rfc822_outside t years)))

pub returns : goal.returns
returns c =
    let t = c.args.moment in
    let small : FitsSigned w64 t = c.ranges.moment in
    let known = simp to_z-of_z at c.in-Some.ensures.some in
    let since = c.in-Some.since in
    let whole = since / 1_000_000 in
    let day = whole / 86_400 in
    let second = whole % 86_400 in
    let late : 62_135_596_800 ≤ whole = omega arith in
    let from : 719_162 ≤ day = omega arith in
    let few : day < 3_652_059 = omega (arith, c.in-Some.ensures.small) in
    let clock : second < 86_400 = omega arith in
    let f = fits day from few in
    let p = http_parts (civil_date day) day second in
    let same = date_text_is c.in-Ok.date p (is_valid_complete p (valid (civil_date day) day second f clock))
    (omega (arith, c.in-Ok.ensures.value, seconds (civil_date day) day second f clock)) in
    let has = rfc822_from t known.0 (subst (λ (n : ℕ). 62_135_596_800 ≤ n / 1_000_000) known.1 late) in
    let text = same
    ∙ ap (λ (n : ℕ). imf_fixdate (http_parts (civil_date (n / 1_000_000 / 86_400)) (n / 1_000_000 / 86_400) (n / 1_000_000 % 86_400))) known.1
    ∙ sym (cond-true (has_rfc822 t) (imf_fixdate (http_parts (civil_date (day_of t)) (day_of t) (second_of t))) [] has) in
    rw text at c.push_date.ensures
