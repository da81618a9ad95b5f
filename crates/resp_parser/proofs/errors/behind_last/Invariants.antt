use Rattle.std.proofs.Common.{◌≡◌, length}
use denote.Shadow.{shadow}
use denote.Text.{Utf8}
use Rattle.std.specs.Str.{chars}
use Rattle.resp_parser.specs.Errors.{behind_last}
use Rattle.resp_parser.proofs.errors.behind_last.Given as goal

abbrev pub decreases-loop-behind : goal.decreases-loop-behind
decreases-loop-behind l = length (chars l.rest)

abbrev pub invariant-loop-behind : goal.invariant-loop-behind
invariant-loop-behind l = record {
  text : shadow (Utf8 l.rest);
  same : behind_last 35 (chars l.rest) ≡ behind_last 35 (chars l.fn.code);
}
