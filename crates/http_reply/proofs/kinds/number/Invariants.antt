use Rattle.std.proofs.Common.{◌≡◌, ◌-◌, ◌^◌, min, true, take}
use Rattle.std.specs.List.{list_all}
use Rattle.std.specs.Char.{is_ascii_digit}
use Rattle.std.specs.Str.Parse.{digits_value}
use Rattle.http_reply.proofs.kinds.number.Given as goal

-- digits so far, and their number, or the greatest that fits
abbrev pub invariant-loop-b : goal.invariant-loop-b
invariant-loop-b l = record {
  digits : list_all is_ascii_digit (take l.b-index l.value) ≡ true;
  number : l.size ≡ min (digits_value 10 (take l.b-index l.value)) (2 ^ 64 - 1);
}
