use Rattle.std.proofs.Common.{ap, sym, subst, ◌∙◌, Ok}
use Rattle.arg_table.specs.Heads.{tail_of}
use Rattle.arg_table.specs.Inside.{TakesSetting, tail_after}
use Rattle.arg_table.specs.Words.{cut}
use Rattle.arg_table.proofs.Tailing.{tail_setting}
use Rattle.arg_table.proofs.command.read_tail.Goals as goal

pub words-preserved-in_ok-push : goal.words-preserved-in_ok-push
words-preserved-in_ok-push c =
    let took = subst (λ r. TakesSetting c.in-Some-2.option c.in-Some.behind.now (Ok r)) c.in-Some-3.is c.in_ok-setting.ensures in
    c.words.invariant ∙ ap (λ ws. tail_after c.words.settings.items c.words.groups (tail_of (cut ws))) c.in-Some.ensures.cases.0
    ∙ tail_setting c.words.settings.items c.push.new.self.items c.words.groups c.in-Some.word.now c.in-Some-2.option c.in-Some.behind.now
    c.in-Some-3.behind.now c.in-Some-3.setting (sym c.in_ok-option.ensures ∙ c.in-Some-2.is) took.0 took.1.groups c.in_ok-push.ensures.items

pub words-preserved : goal.words-preserved
words-preserved c =
    let took = subst (λ r. TakesSetting c.in-Some-2.option c.in-Some.behind.now (Ok r)) c.in-Some-3.is c.in_ok-setting.ensures in
    c.words.invariant ∙ ap (λ ws. tail_after c.words.settings.items c.words.groups (tail_of (cut ws))) c.in-Some.ensures.cases.0
    ∙ tail_setting c.words.settings.items c.push.new.self.items c.words.groups c.in-Some.word.now c.in-Some-2.option c.in-Some.behind.now
    c.in-Some-3.behind.now c.in-Some-3.setting (sym c.in_ok-option.ensures ∙ c.in-Some-2.is) took.0 took.1.groups c.in_ok-push.ensures.items
