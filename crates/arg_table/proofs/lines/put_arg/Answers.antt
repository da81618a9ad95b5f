use Rattle.arg_table.proofs.Replacing.{put_new, members_new, put_again, members_again}
use Rattle.arg_table.proofs.lines.put_arg.Goals as goal

pub returns-then-is_new : goal.returns-then-is_new
returns-then-is_new c = record {
  args = put_new c.args.members.now.keys c.args.args.now c.args.arg c.in_ok-place.is_new c.requires c.in_ok-place.ensures.added c.push.new.self
      c.if-is_new.true c.in_ok-push.ensures.ok;
  members = members_new c.args.members.now.keys c.args.args.now c.args.arg c.in_ok-place.is_new c.requires c.in_ok-place.ensures.added c.push.new.self
      c.insert_full.new.self.keys c.if-is_new.true c.in_ok-push.ensures.ok c.in_ok-place.ensures.keys;
}

pub returns : goal.returns
returns c = record {
  args = put_again c.args.members.now.keys c.args.args.now c.args.arg c.in_ok-place.is_new c.requires c.in_ok-place.ensures.added c.set.new.self
      c.in_ok-place.place c.if-is_new.false c.in_ok-place.ensures.index c.set.ensures;
  members = members_again c.args.members.now.keys c.args.args.now c.args.arg c.in_ok-place.is_new c.requires c.in_ok-place.ensures.added c.set.new.self
      c.in_ok-place.place c.insert_full.new.self.keys c.if-is_new.false c.in_ok-place.ensures.index c.set.ensures c.in_ok-place.ensures.keys;
}
