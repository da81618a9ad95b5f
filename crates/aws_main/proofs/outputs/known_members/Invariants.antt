use Rattle.std.proofs.Common.{◌≡◌, [], drop, option_map}
use Rattle.json_doc.specs.Grammar.{put_all}
use Rattle.aws_main.specs.Output.{known_of}
use Rattle.aws_main.proofs.outputs.known_members.Given as goal

-- the known members so far, with those of the members left, are all known members
abbrev pub invariant-loop-member : goal.invariant-loop-member
invariant-loop-member l =
    option_map (put_all l.known) (known_of l.body (drop l.member-index l.member-items)) ≡ option_map (put_all []) (known_of l.fn.body l.fn.members)
