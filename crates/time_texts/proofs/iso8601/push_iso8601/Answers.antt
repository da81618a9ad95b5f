use Rattle.std.proofs.Common.{[], ◌++◌, ◌/◌, ◌%◌, sym, ap, ◌∙◌, FitsSigned, w64}
use Rattle.std.proofs.lemmas.Int.{to_z-of_z}
use Rattle.std.specs.Prelude.{codes}
use Rattle.std.proofs.lemmas.Bool.{cond-true}
use Rattle.time_texts.specs.Civil.{civil_date}
use Rattle.time_texts.specs.Texts.{is_in_years, date_text, clock_text, fraction_text, iso8601}
use Rattle.time_texts.proofs.Appends.{then}
use Rattle.time_texts.proofs.iso8601.push_iso8601.Goals as goal

pub returns : goal.returns
returns c =
    let out = c.args.out.now in
    let t = c.args.moment in
    let since = c.in-Some.since in
    let small : FitsSigned w64 t = c.ranges.moment in
    let known = simp to_z-of_z at c.in-Some.ensures.some in
    let date = date_text (civil_date (since / 1_000_000 / 86_400)) in
    let clock = clock_text (since / 1_000_000 % 86_400) in
    let fraction = fraction_text (since % 1_000_000) in
    let dated = c.in_ok-push_date.ensures ∙ ap (λ d. out ++ date_text d) c.civil_date.ensures.value in
    let mark = c.in_ok-push_ascii.ensures.ok ∙ then out date (codes "T") _ dated in
    let timed = c.in_ok-push_clock.ensures ∙ then out (date ++ codes "T") clock _ mark in
    let exact = c.in_ok-push_fraction.ensures ∙ then out (date ++ codes "T" ++ clock) fraction _ timed in
    let text = ap (λ n. date_text (civil_date (n / 1_000_000 / 86_400)) ++ codes "T" ++ clock_text (n / 1_000_000 % 86_400) ++ fraction_text (n % 1_000_000) ++ codes "Z") known.1
    ∙ sym (cond-true (is_in_years t) (iso8601 t) [] known.0) in
    rw (then out (date ++ codes "T" ++ clock ++ fraction) (codes "Z") _ exact ∙ ap (λ s. out ++ s) text) at c.push_ascii-2.ensures.ok
