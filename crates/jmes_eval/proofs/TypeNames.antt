-- The names of kinds are ASCII.
use Rattle.std.proofs.Common.{◌≡◌, refl}
use Rattle.std.specs.Prelude.{codes}
use Rattle.std.specs.Str.{chars}
use Rattle.json_doc.specs.declared.doc.Doc.{Doc}
use Rattle.json_doc.specs.declared.doc.Doc.TheOpen.{Doc-F}
use Rattle.texts.proofs.Texts.{chars_ascii}
use Rattle.jmes_eval.specs.Kinds.{type_in}

pub chars-type : (d : Doc-F Doc) → chars (type_in d) ≡ type_in d
chars-type Doc-F.Null = chars_ascii (codes "null") refl
chars-type (Doc-F.Flag flag) = chars_ascii (codes "boolean") refl
chars-type (Doc-F.Number n) = chars_ascii (codes "number") refl
chars-type (Doc-F.Str t) = chars_ascii (codes "string") refl
chars-type (Doc-F.Items ds) = chars_ascii (codes "array") refl
chars-type (Doc-F.Fields ps) = chars_ascii (codes "object") refl
