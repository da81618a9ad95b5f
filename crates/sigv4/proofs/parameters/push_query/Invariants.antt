use Rattle.std.proofs.Common.{◌≡◌, ◌++◌, map, drop}
use Rattle.std.specs.Prelude.{IsTrue, codes}
use denote.Shadow.{shadow}
use denote.Text.{Utf8}
use Rattle.texts.specs.Ascii.{is_ascii_text}
use Rattle.uri_texts.specs.Parameters.{parameter}
use Rattle.sigv4.specs.Parameters.{canonical_query, shown}
use Rattle.sigv4.proofs.Marks.{behind}
use Rattle.sigv4.proofs.parameters.push_query.Given as goal

-- the parameters so far and those that are due are all of them
abbrev pub invariant-loop-name : goal.invariant-loop-name
invariant-loop-name l = record {
  text : shadow (Utf8 l.before);
  plain : IsTrue (is_ascii_text l.before);
  due : l.out ++ behind l.before (codes "&") (map parameter (map shown (drop l.name-index l.sorted))) ≡ l.fn.out ++ canonical_query (map shown l.sorted);
}
