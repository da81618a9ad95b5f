use Rattle.std.proofs.Common.{◌≡◌, ◌++◌, ◌∷◌, [], List, Option, None, Some, drop, filter, ℕ}
use Rattle.std.specs.Option.{option_copied}
use Rattle.resp_parser.specs.Kept.{is_counted, only_key}
use Rattle.resp_parser.specs.Kinds.{is_null}
use Rattle.resp_parser.proofs.Onlys.{with_only}
use Rattle.resp_parser.proofs.unions.only_counted.Given as goal

abbrev pub invariant-loop-field : goal.invariant-loop-field
invariant-loop-field l =
    with_only (option_copied l.only) (filter (is_counted is_null) (drop l.field-index l.fields)) ≡ only_key (filter (is_counted is_null) l.fields)
