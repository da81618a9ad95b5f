use Rattle.std.proofs.Common.{◌≡◌, ◌≢◌, length, take}
use Rattle.std.specs.Prelude.{All}
use Rattle.std.specs.Str.{chars}
use Rattle.aws_world.proofs.folder.first_part.Given as goal

-- the part so far, without '/'
abbrev pub invariant-loop-c : goal.invariant-loop-c
invariant-loop-c l = record {
  front : l.part ≡ take (length l.yielded) (chars l.rest);
  whole : All (λ c. c ≢ 47) l.part;
}
