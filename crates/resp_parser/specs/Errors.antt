-- What a reply with an error tells (botocore's json and rest-json).
use Rattle.std.specs.Prelude.{◌≡◌, ◌⊎◌, ℕ, Bool, true, false, if◌then◌else◌, List, [], ◌∷◌, Option, None, Some, option_and_then, option_map, codes}
use Rattle.std.specs.Fmt.{decimal}
use Rattle.std.specs.List.{last_or}
use Rattle.std.specs.Option.{unwrap_or}
use Rattle.aws_world.specs.declared.message.Reply.{Reply}
use Rattle.aws_world.specs.Headers.{header_of}
use Rattle.json_doc.specs.declared.doc.Doc.{Doc, out-Doc}
use Rattle.json_doc.specs.declared.doc.Doc.TheOpen.{Doc-F}
use Rattle.service_model.specs.declared.metadata.Protocol.{Protocol}
use Rattle.service_model.specs.declared.metadata.Protocol.TheVariants.{RestJson}
use Rattle.texts.specs.declared.pairs.Pair.{Pair}
use Rattle.texts.specs.Cut.{cut, is_among}
use Rattle.texts.specs.Keys.{value_at}
use Rattle.texts.specs.Marks.{around_first}
use Rattle.resp_parser.specs.declared.fault.ServiceError.{ServiceError}
use Rattle.resp_parser.specs.Bodies.{DocumentOf, TextOf}
use Rattle.resp_parser.specs.Kinds.{is_object}
use Rattle.resp_parser.specs.Paths.{first_of}

-- the text before the first of these marks, or all of it
abbrev pub before : ℕ → List ℕ → List ℕ
before mark text = unwrap_or (option_map (λ halves. halves.0) (around_first mark text)) text

-- the text behind the last of these marks, or all of it
abbrev pub behind_last : ℕ → List ℕ → List ℕ
behind_last mark text = unwrap_or (last_or None (cut (is_among (mark ∷ [])) text)) []

-- a code without what stands behind its first `:` and up to the last `#` before that
abbrev pub cut_code : List ℕ → List ℕ
cut_code code = behind_last 35 (before 58 code)

abbrev pub text_view : Doc-F Doc → Option (List ℕ)
text_view (Doc-F.Str text) = Some text
text_view others = None

abbrev pub fields_view : Doc-F Doc → Option (List (Pair Doc))
fields_view (Doc-F.Fields ps) = Some ps
fields_view others = None

-- a text at a key of what may be no object
abbrev pub text_in : List ℕ → Doc → Option (List ℕ)
text_in key d = option_and_then (λ ps. option_and_then (λ value. text_view (out-Doc value)) (value_at key ps)) (fields_view (out-Doc d))

-- the same of what may be no document
abbrev pub text_at : List ℕ → Option Doc → Option (List ℕ)
text_at key body = option_and_then (text_in key) body

abbrev pub rest_code : Option Doc → Option (List ℕ)
rest_code body = first_of (first_of (text_at (codes "code") body) (text_at (codes "Code") body)) (text_at (codes "__type") body)

-- where rest-json has codes, in their order; other protocols have them in `__type` alone
abbrev pub whole_code : Protocol → Reply → Option Doc → Option (List ℕ)
whole_code RestJson reply body = first_of (header_of (codes "x-amzn-errortype") reply.headers) (rest_code body)
whole_code _ reply body = text_at (codes "__type") body

-- the code, cut; without one it is the status
abbrev pub code_of : Protocol → Reply → Option Doc → List ℕ
code_of protocol reply body = unwrap_or (option_map cut_code (whole_code protocol reply body)) (decimal reply.status)

abbrev pub is_object_if : Option Doc → Bool
is_object_if None = false
is_object_if (Some d) = is_object d

abbrev pub object_message : Option Doc → List ℕ
object_message body = unwrap_or (first_of (text_at (codes "message") body) (text_at (codes "Message") body)) []

-- the message: that of an object; else the body, where it is UTF-8
abbrev pub IsMessage : List ℕ → Option Doc → List ℕ → Type 0
IsMessage bytes body message =
    ((is_object_if body ≡ true) × (message ≡ object_message body))
    ⊎ ((is_object_if body ≡ false) × ((text : Option (List ℕ)) × TextOf bytes text × (message ≡ unwrap_or text [])))

-- the error that a reply tells of, before the call's retries are known
pub record IsError (protocol : Protocol) (reply : Reply) (error : ServiceError) : Type 0 where
  pub body : Option Doc
  pub document : DocumentOf reply.body body
  pub code : error.code ≡ code_of protocol reply body
  pub message : IsMessage reply.body body error.message
  pub status : error.status ≡ reply.status
  pub retries : error.retries ≡ None
