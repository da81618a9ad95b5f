-- Kinds of ends.
use Rattle.std.specs.Prelude.{ℕ, ◌^◌}
use Rattle.json_doc.specs.declared.doc.Doc.TheFolds.{every-Doc}
use Rattle.resp_parser.specs.Laws.{HasShortLists}
use Rattle.call_retry.specs.declared.call_end.CallEnd.{CallEnd}
use Rattle.call_retry.specs.declared.call_end.CallEnd.TheVariants as end

-- the connection failed
abbrev pub IsLostEnd : CallEnd → Type 0
IsLostEnd (end.Lost fault) = Unit {0}
IsLostEnd others = ⊥

-- no word was given for a retry
abbrev pub IsDiceFault : CallEnd → Type 0
IsDiceFault end.DiceFault = Unit {0}
IsDiceFault others = ⊥

-- every list in the document of an answer has fewer than 2^26 items
abbrev pub HasShortAnswer : CallEnd → Type 0
HasShortAnswer (end.Answer doc status) = every-Doc (HasShortLists (2 ^ 26)) doc
HasShortAnswer others = Unit {0}
