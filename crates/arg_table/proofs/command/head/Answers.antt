use Rattle.std.proofs.Common.{ap, sym, ◌∙◌, Ok}
use Rattle.arg_table.specs.Heads.{Next, head_with, next_word}
use Rattle.arg_table.specs.Inside.{next_after}
use Rattle.arg_table.specs.Words.{cut}
use Rattle.arg_table.proofs.Heading.{whole_head}
use Rattle.arg_table.proofs.command.head.Goals as goal

pub returns : goal.returns
returns c =
    let ws = c.args.words.now in
    let settings = c.read_tail.new.settings.items in
    let service : Next = record {
      settings = c.next_word.new.settings.items;
      word = c.in_ok-service.service.now;
      behind = cut c.in_ok-service.behind.now;
    } in
    let operation : Next = record {
      settings = c.next_word-2.new.settings.items;
      word = c.in_ok-operation.operation.now;
      behind = cut c.in_ok-operation.behind.now;
    } in
    let named : Next = record {
      settings = c.named_by.new.settings.items;
      word = c.in_ok-operation-2.operation.now;
      behind = cut c.in_ok-operation-2.behind.now;
    } in
    whole_head ws service
    (ap (λ ss. next_after ss (next_word (cut ws))) (sym c.new-settings.ensures.items)
    ∙ ap (λ vs. next_after c.new-settings.result.items (next_word (cut vs))) (sym c.as_slice.ensures) ∙ c.in_ok-service.ensures)
    operation c.in_ok-operation.ensures named c.in_ok-operation-2.ensures
    (record { settings = settings; groups = c.in_ok-tail.tail }) c.in_ok-tail.ensures
    ∙ ap Ok (sym (c.in_ok-head_with.ensures
    ∙ ap (λ t. head_with settings t c.in_ok-operation-3.operation c.is_wait-wait.result c.in_ok-tail.tail) c.in_ok-service-2.ensures
    ∙ ap (λ t. head_with settings service.word t c.is_wait-wait.result c.in_ok-tail.tail) c.in_ok-operation-3.ensures
    ∙ ap (λ b. head_with settings service.word named.word b c.in_ok-tail.tail) c.is_wait-wait.ensures))
