use Rattle.arg_table.proofs.Together.{with_value, without_signature, without_paging}
use Rattle.arg_table.proofs.command.head_with.Goals as goal

pub loop-setting-preserved-in-Continue-1 : goal.loop-setting-preserved-in-Continue-1
loop-setting-preserved-in-Continue-1 c =
    with_value c.loop-setting.yielded c.args.service c.args.operation c.args.wait c.args.tail c.loop-setting.made c.loop-setting.invariant
    c.in-Some.setting c.in-Value.name c.in-Value.value c.push.new.self c.in-Value.is c.in_ok-push-in-Value.ensures.ok

pub loop-setting-preserved-in-NoSignRequest : goal.loop-setting-preserved-in-NoSignRequest
loop-setting-preserved-in-NoSignRequest c =
    without_signature c.loop-setting.yielded c.args.service c.args.operation c.args.wait c.args.tail c.loop-setting.made c.loop-setting.invariant
    c.in-Some.setting c.in-NoSignRequest.is

pub loop-setting-preserved : goal.loop-setting-preserved
loop-setting-preserved c =
    without_paging c.loop-setting.yielded c.args.service c.args.operation c.args.wait c.args.tail c.loop-setting.made c.loop-setting.invariant
    c.in-Some.setting c.in-NoPaginate.is
