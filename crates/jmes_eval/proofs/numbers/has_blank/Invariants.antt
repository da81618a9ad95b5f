use Rattle.std.proofs.Common.{◌≡◌, drop}
use Rattle.std.specs.List.{list_any}
use Rattle.json_doc.specs.Grammar.{is_blank}
use Rattle.jmes_eval.proofs.numbers.has_blank.Given as goal

abbrev pub invariant-loop-byte : goal.invariant-loop-byte
invariant-loop-byte l = list_any is_blank (drop l.byte-index l.bytes) ≡ list_any is_blank l.fn.bytes
