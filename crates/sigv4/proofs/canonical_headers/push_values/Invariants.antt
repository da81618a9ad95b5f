use Rattle.std.proofs.Common.{◌≡◌, ◌++◌, drop}
use Rattle.std.specs.Prelude.{IsTrue, codes}
use denote.Shadow.{shadow}
use denote.Text.{Utf8}
use Rattle.texts.specs.Ascii.{is_ascii_text}
use Rattle.texts.specs.Joined.{joined}
use Rattle.sigv4.specs.Headers.{values_of}
use Rattle.sigv4.proofs.Marks.{behind}
use Rattle.sigv4.proofs.canonical_headers.push_values.Given as goal

-- the values so far and those that are due are all of them
abbrev pub invariant-loop-other : goal.invariant-loop-other
invariant-loop-other l = record {
  text : shadow (Utf8 l.before);
  plain : IsTrue (is_ascii_text l.before);
  due : l.out ++ behind l.before (codes ",") (values_of (drop l.other-index l.fields) l.name) ≡ l.fn.out ++ joined (codes ",") (values_of l.fields l.name);
}
