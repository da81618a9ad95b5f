use Rattle.std.proofs.Common.{◌≢◌, ◌∙◌}
use Rattle.std.proofs.lemmas.Iterator.{YieldsList-from_chars}
use Rattle.std.proofs.lemmas.Iterator.Consumers.{YieldsList-turn, YieldsList-end}
use Rattle.std.proofs.lemmas.List.Elements.{All-push}
use Rattle.aws_world.proofs.Folders.{first_part_at, first_part_whole, part_more}
use Rattle.aws_world.proofs.folder.first_part.Goals as goal

pub returns-then-c-eq47 : goal.returns-then-c-eq47
returns-then-c-eq47 c =
    let t = YieldsList-turn (YieldsList-from_chars c.args.rest.now c.utf8.rest cc) c.loop-c.yielded _ c.loop-c.yielded_by _ _ c.in-Some.c c.in-Some.is c.next.ensures.steps in
    first_part_at _ _ _ _ c.loop-c.invariant.front c.loop-c.invariant.whole t c.if-c-eq47.true

pub loop-c-preserved : goal.loop-c-preserved
loop-c-preserved c =
    let t = YieldsList-turn (YieldsList-from_chars c.args.rest.now c.utf8.rest cc) c.loop-c.yielded _ c.loop-c.yielded_by _ _ c.in-Some.c c.in-Some.is c.next.ensures.steps in
    let front = part_more _ _ c.loop-c.yielded _ c.loop-c.invariant.front t in
    record {
      front = c.in_ok-push.ensures.ok ∙ front;
      whole = rw c.in_ok-push.ensures.ok (All-push (λ d. d ≢ 47) _ _ c.loop-c.invariant.whole c.if-c-eq47.false);
    }

pub returns : goal.returns
returns c =
    let t = YieldsList-end (YieldsList-from_chars c.args.rest.now c.utf8.rest cc) c.loop-c.yielded _ c.loop-c.yielded_by _ _ c.in-None.is c.next.ensures.steps in
    first_part_whole _ _ _ c.loop-c.invariant.front c.loop-c.invariant.whole t.1
