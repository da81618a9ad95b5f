-- What is printed of a good reply.
use Rattle.std.specs.Prelude.{◌≡◌, ℕ, Bool, true, false, IsTrue, ◌||◌, if◌then◌else◌, bytes_eq, codes, List, [], ◌∷◌, ◌++◌, Option, None, Some}
use Rattle.std.specs.List.{list_all}
use Rattle.std.specs.Str.{str_eq_ignore_ascii_case}
use Rattle.json_doc.specs.declared.doc.Doc as doc
use Rattle.json_doc.specs.declared.doc.Doc.{Doc}
use Rattle.json_doc.specs.declared.doc.Doc.TheOpen.{Doc-F}
use Rattle.json_doc.specs.declared.doc.Doc.TheViews.{out-Doc}
use Rattle.texts.specs.declared.pairs.Pair.{Pair}
use Rattle.json_doc.specs.Grammar.{Reads, put_all}
use Rattle.json_doc.specs.Indented.{indented_of}
use Rattle.texts.specs.Keys.{value_at}
use Rattle.aws_world.specs.declared.message.Reply.{Reply}
use Rattle.aws_world.specs.Headers.{header_of}
use Rattle.aws_main.specs.declared.plain_operations.PlainMember.{PlainMember}
use Rattle.aws_main.specs.declared.plain_operations.PlainOperation.{PlainOperation}
use Rattle.aws_main.specs.Finding.{◌>>=◌, when}

abbrev pub fields_in : Doc-F Doc → Option (List (Pair Doc))
fields_in (Doc-F.Fields pairs) = Some pairs
fields_in _ = None

-- the members of an object
unfoldable pub fields_of : Doc → Option (List (Pair Doc))
fields_of doc = fields_in (out-Doc doc)

abbrev pub is_text_in : Doc-F Doc → Bool
is_text_in (Doc-F.Str text) = true
is_text_in _ = false

unfoldable pub is_text : Doc → Bool
is_text value = is_text_in (out-Doc value)

abbrev pub is_texts_in : Doc-F Doc → Bool
is_texts_in (Doc-F.Items items) = list_all is_text items
is_texts_in _ = false

-- a value is a text for a string, and a list of texts for a list
unfoldable pub has_kind : Bool → Doc → Bool
has_kind is_list value = if is_list then is_texts_in (out-Doc value) else is_text_in (out-Doc value)

-- the known members with one more in front, where the body has it
abbrev pub with_member : PlainMember → Option Doc → List (Pair Doc) → Option (List (Pair Doc))
with_member member None known = Some known
with_member member (Some value) known = when (has_kind member.is_list value) (Some (record { key = member.name; value = value } ∷ known))

-- the members of a body that the model knows, in the model's order, where each has its kind
abbrev pub known_of : List (Pair Doc) → List PlainMember → Option (List (Pair Doc))
known_of body [] = Some []
known_of body (member ∷ members) = do
  known ← known_of body members
  with_member member (value_at member.name body) known

-- an object as it is printed: nothing where it is empty
abbrev pub printed : List (Pair Doc) → List ℕ
printed [] = []
printed (p ∷ ps) = indented_of (doc.Fields (p ∷ ps)) ++ 10 ∷ []

-- what is printed of a body
unfoldable pub text_of_body : List PlainMember → Doc → Option (List ℕ)
text_of_body members body = do
  pairs ← fields_of body
  known ← known_of pairs members
  Some (printed (put_all [] known))

-- the text is that of a body, where the operation has an output
abbrev pub IsBodyText : Option (List PlainMember) → List ℕ → List ℕ → Type 0
IsBodyText None body text = text ≡ []
IsBodyText (Some members) body text = (d : Doc) × Reads body d × (text_of_body members d ≡ Some text)

-- a coding that changes nothing (RFC 9110, section 8.4); an empty value names none
abbrev pub is_plain_coding : Option (List ℕ) → Bool
is_plain_coding None = true
is_plain_coding (Some coding) = bytes_eq coding [] || str_eq_ignore_ascii_case coding (codes "identity")

unfoldable pub is_plain_body : Reply → Bool
is_plain_body reply = is_plain_coding (header_of (codes "Content-Encoding") reply.headers)

-- the text is what is printed of a reply
pub record IsOutput (operation : PlainOperation) (reply : Reply) (text : List ℕ) : Type 0 where
  pub good : reply.status ≡ 200
  pub plain : IsTrue (is_plain_body reply)
  pub shown : IsBodyText operation.output reply.body text
