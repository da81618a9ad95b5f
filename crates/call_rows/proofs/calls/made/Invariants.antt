use Rattle.std.proofs.Common.{◌≡◌, ◌≤◌, false}
use Rattle.std.specs.Option.{is_some}
use Rattle.aws_world.specs.ScriptLink.{talk_of}
use Rattle.service_model.specs.Kept.{IsOperation}
use Rattle.call_rows.proofs.calls.made.Given as goal

-- what a call needs
abbrev pub invariant-loop : goal.invariant-loop
invariant-loop l = record {
  operation : IsOperation l.caller.model.now.shapes l.caller.op.now;
  limit : 1 ≤ l.caller.limit;
  none_live : is_some (talk_of l.caller.link.now) ≡ false;
}
