use Rattle.aws_main.proofs.Saying.{said}
use Rattle.aws_main.proofs.messages.say.Goals as goal

pub returns : goal.returns
returns g c = record {
  says = said c.write_message.result _ _ _ _ _ c.write_message.ensures.ok c.write_message.ensures.err c.write_message.ensures.cause;
  later = c.write_message.ensures.cause.later;
}
