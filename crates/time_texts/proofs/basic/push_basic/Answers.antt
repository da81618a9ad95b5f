use Rattle.std.proofs.Common.{◌≡◌, [], ◌++◌, ◌%◌, sym, ap, ◌∙◌, nat_le, false}
use Rattle.std.specs.Prelude.{codes}
use Rattle.std.proofs.lemmas.Bool.{cond-false}
use Rattle.time_texts.specs.Texts.{day_text, time_text, date_at}
use Rattle.time_texts.proofs.Appends.{then}
use Rattle.time_texts.proofs.Spans.{not_late}
use Rattle.time_texts.proofs.basic.push_basic.Goals as goal

pub returns : goal.returns
returns c =
    let out = c.args.out.now in
    let s = c.args.seconds in
    let date = day_text (date_at s) in
    let time = time_text (s % 86_400) in
    let dated = c.in_ok-push_day.ensures ∙ ap (λ d. out ++ day_text d) c.civil_date.ensures.value in
    let mark = c.in_ok-push_ascii.ensures.ok ∙ then out date (codes "T") _ dated in
    let timed = c.in_ok-push_time.ensures ∙ then out (date ++ codes "T") time _ mark in
    let early : nat_le 253_402_300_800 s ≡ false = not_late s c.if-seconds-ge-SECONDS_END.false in
    let text = sym (cond-false (nat_le 253_402_300_800 s) [] (date ++ codes "T" ++ time ++ codes "Z") early) in
    rw (then out (date ++ codes "T" ++ time) (codes "Z") _ timed ∙ ap (λ t. out ++ t) text) at c.push_ascii-2.ensures.ok
