use Rattle.std.proofs.Common.{◌≡◌}
use Rattle.std.specs.Str.{chars, IsUtf8}
use Rattle.std.specs.Str.Iter.{chars_rest}
use Rattle.model_store.specs.Versions.{has_slash}
use Rattle.model_store.proofs.searching.has_slash.Given as goal

-- those left tell
abbrev pub invariant-loop-c : goal.invariant-loop-c
invariant-loop-c l = IsUtf8 (chars_rest l.c-iterator) × (has_slash (chars (chars_rest l.c-iterator)) ≡ has_slash (chars l.fn.word))
