use Rattle.std.proofs.Common.{◌≡◌, ◌++◌, drop}
use Rattle.std.specs.Prelude.{IsTrue}
use denote.Shadow.{shadow}
use denote.Text.{Utf8}
use Rattle.texts.specs.Ascii.{is_ascii_text}
use Rattle.texts.specs.Joined.{joined}
use Rattle.sigv4.proofs.Marks.{behind}
use Rattle.sigv4.proofs.pieces.push_joined.Given as goal

-- the texts so far and those that are due are all of them
abbrev pub invariant-loop-text : goal.invariant-loop-text
invariant-loop-text l = record {
  text : shadow (Utf8 l.before);
  plain : IsTrue (is_ascii_text l.before);
  due : l.out ++ behind l.before l.mark (drop l.text-index l.texts) ≡ l.fn.out ++ joined l.mark l.texts;
}
