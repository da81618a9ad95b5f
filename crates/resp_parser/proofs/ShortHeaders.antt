-- What stands in the headers of a reply has short lists.
use Rattle.std.proofs.Common.{◌≡◌, ℕ, ◌+◌, ◌*◌, ◌≤◌, Bool, true, false, if◌then◌else◌, not, List, [], ◌∷◌, ◌++◌, map, filter, length, drop, Option, None, Some, Result, Ok, Err, refl, sym, ap, ◌∙◌, subst, arith}
use Rattle.std.specs.Prelude.{ℤ, encode_utf8_all, bytes_eq, option_map, option_to_list, sum_by, codes}
use Rattle.std.specs.List.{AllByRecursion, flat_map}
use Rattle.std.specs.Str.{str_eq_ignore_ascii_case}
use Rattle.std.proofs.lemmas.List.{length-append, length-map}
use Rattle.std.proofs.lemmas.List.Splits.{length-slice_split}
use Rattle.std.proofs.lemmas.List.Sums.{count_by-le-length, sum_by-cons}
use Rattle.std.proofs.lemmas.Str.{length-encode, len_utf8_bounds}
use Rattle.std.proofs.Math.Utf8.{encode}
use Rattle.base64.specs.declared.decode.DecodeError.{DecodeError}
use Rattle.base64.specs.declared.engine.general_purpose.GeneralPurpose.{GeneralPurpose}
use Rattle.base64.specs.Decode.{decode_error, decode_outcome, decoded_bytes, or_error}
use Rattle.base64.specs.Engines.{standard}
use Rattle.base64.specs.GeneralPurpose.{decode_of}
use Rattle.base64.proofs.Decoding.{conservative_ok, slice_result_room}
use Rattle.aws_world.specs.Headers as header
use Rattle.aws_world.specs.Headers.{header_of, named}
use Rattle.json_doc.specs.declared.doc.Doc as doc
use Rattle.json_doc.specs.declared.doc.Doc.{Doc}
use Rattle.service_model.specs.declared.shape.Kind.{Kind}
use Rattle.service_model.specs.declared.shape.Kind.TheVariants as kind
use Rattle.texts.specs.Blanks.{trimmed}
use Rattle.texts.specs.Cut.{is_among}
use Rattle.texts.specs.declared.pairs.Pair.{Pair}
use Rattle.resp_parser.specs.Headers.{Decodes, HeaderOf, HeaderValue, IsHeaderText, IsNumber, IsNumberOr, JsonHeader, decoded_if, entry_behind, firsts, headers_behind, parts_of, rest_behind, whole_of}
use Rattle.resp_parser.specs.Kept.{pair_of}
use Rattle.resp_parser.specs.Kinds.{is_null}
use Rattle.resp_parser.specs.Paths.{Path}
use Rattle.resp_parser.proofs.ShortKept.{all-append}
use Rattle.resp_parser.proofs.ShortLists.{IsShort, AreShort, AreShortFields, short-Flag, short-Number, short-Str, short-Items, short-Fields}
use Rattle.resp_parser.proofs.ShortReads.{reads-short}

-- ---- sizes

abbrev pub size : List ℕ × List ℕ → ℕ
size h = length h.0 + length h.1

-- a header is no longer than all of them together
pub value-size : (name : List ℕ) (hs : List (List ℕ × List ℕ)) (text : List ℕ) → header_of name hs ≡ Some text → length text ≤ sum_by size hs
value-size name [] text e = absurd (cc)
value-size name (h ∷ hs) text e = by (str_eq_ignore_ascii_case h.0 name) e (value-size name hs text)
  where
    by : (b : Bool) → header.first_of (if b then h.1 ∷ named name hs else named name hs) ≡ Some text → (header_of name hs ≡ Some text → length text ≤ sum_by size hs) → length text ≤ sum_by size (h ∷ hs)
    by true is rest =
        let same : h.1 ≡ text = cc in
        let long = ap length same in
        let all = sum_by-cons size h hs in omega arith
    by false is rest =
        let less = rest is in
        let all = sum_by-cons size h hs in omega arith

bytes-few : (cs : List ℕ) → length (encode_utf8_all cs) ≤ 4 * length cs
bytes-few [] = omega arith
bytes-few (c ∷ cs) =
    let rest = bytes-few cs in
    let all = length-append (encode c) (encode_utf8_all cs) in
    let one = length-encode c in
    let most = (len_utf8_bounds c).1 in omega arith

no-error : (o : Option DecodeError) (made bytes : List ℕ) → decode_outcome o made ≡ Ok bytes → (o ≡ None) × (made ≡ bytes)
no-error None made bytes e = (refl, cc)
no-error (Some x) made bytes e = absurd (cc)

-- what is decoded of base64 is hardly longer than it
decoded-few : (e : GeneralPurpose) (s bytes : List ℕ) → decode_of e s ≡ Ok bytes → length bytes ≤ length s + 3
decoded-few e s bytes is =
    let dec = e.decode_table in
    let pad = e.padding.value in
    let allow = e.config.decode_allow_trailing_bits in
    let mode = e.config.decode_padding_mode in
    let made = decoded_bytes dec pad s in
    let ok = no-error (decode_error dec pad allow mode s) made bytes is in
    let old = s ++ 0 ∷ 0 ∷ 0 ∷ [] in
    let long : length old ≡ length s + 3 = length-append s (0 ∷ 0 ∷ 0 ∷ []) in
    let room = slice_result_room dec s pad allow mode (length old) (omega arith) in
    let value = sym (room ∙ ap (λ o. or_error o (Ok (length made))) ok.0) in
    let fits = (conservative_ok dec s old (made ++ drop (length made) old) pad allow mode (Ok (length made)) (length made) (omega arith) value refl refl).2 in
    let same = ap length ok.1 in omega arith

all-filter : {X : Type 0} (P : X → Type 0) (test : X → Bool) (xs : List X) → AllByRecursion P xs → AllByRecursion P (filter test xs)
all-filter P test [] all = tt
all-filter P test (x ∷ xs) all = by (test x) (all-filter P test xs all.1)
  where
    by : (b : Bool) → AllByRecursion P (filter test xs) → AllByRecursion P (if b then x ∷ filter test xs else filter test xs)
    by true rest = (all.0, rest)
    by false rest = rest

module _ (most : ℕ) (many : 300000 ≤ most) where
  -- ---- texts

  pub number-short : (n : ℤ) (d : Doc) → IsNumber n d → IsShort most d
  number-short n d p = subst (IsShort most) (sym p.1) (short-Number most p.0)

  string-short : (text : List ℕ) (d : Doc) → d ≡ doc.Str text → IsShort most d
  string-short text d p = subst (IsShort most) (sym p) (short-Str most text)

  number_or-short : (text : List ℕ) (o : Option ℤ) (d : Doc) → IsNumberOr text o d → IsShort most d
  number_or-short text None d p = string-short text d p
  number_or-short text (Some n) d p = number-short n d p

  strings : (parts : List (List ℕ)) → AreShort most (map (λ part. doc.Str (trimmed part)) parts)
  strings [] = tt
  strings (part ∷ parts) = (short-Str most (trimmed part), strings parts)

  parts-short : (text : List ℕ) (d : Doc) → length text ≤ 65536 → d ≡ doc.Items (map (λ part. doc.Str (trimmed part)) (parts_of text)) → IsShort most d
  parts-short text d few p =
      let marks = is_among (codes ",") in
      let count = length-map (parts_of text) (λ part. doc.Str (trimmed part)) ∙ length-slice_split marks text in
      let less = count_by-le-length marks text in
      subst (IsShort most) (sym p) (short-Items most (map (λ part. doc.Str (trimmed part)) (parts_of text)) (omega arith) (strings (parts_of text)))

  text-short : (k : Kind) (text : List ℕ) (d : Doc) → length text ≤ 65536 → IsHeaderText k text d → IsShort most d
  text-short kind.Structure text d few p = string-short text d p
  text-short kind.List text d few p = parts-short text d few p
  text-short kind.Map text d few p = string-short text d p
  text-short kind.Str text d few p = string-short text d p
  text-short kind.Integer text d few p = number_or-short text (whole_of (encode_utf8_all text)) d p
  text-short kind.Long text d few p = number_or-short text (whole_of (encode_utf8_all text)) d p
  text-short kind.Float text d few p = string-short text d p
  text-short kind.Double text d few p = string-short text d p
  text-short kind.Boolean text d few p = subst (IsShort most) (sym p) (short-Flag most (bytes_eq text (codes "true")))
  text-short kind.Blob text d few p = string-short text d p
  text-short kind.Timestamp text d few p = string-short text d p

  -- ---- documents

  unless-null : (b : Bool) (c d : Doc) (answer : Result (Option Doc) Path) → IsShort most c → answer ≡ Ok (if b then None else Some c) → answer ≡ Ok (Some d) → IsShort most d
  unless-null true c d answer short p q = absurd (cc)
  unless-null false c d answer short p q = let same : c ≡ d = cc in subst (IsShort most) same short

  from-decoded : {E : Type 0} (r : Result (List ℕ) E) (o : Option Doc) (d : Doc) (answer : Result (Option Doc) Path)
      → ((bytes : List ℕ) → r ≡ Ok bytes → length bytes ≤ most) → Decodes r o → answer ≡ decoded_if o → answer ≡ Ok (Some d) → IsShort most d
  from-decoded r None d answer few is p q = absurd (cc)
  from-decoded (Err x) (Some c) d answer few is p q = absurd (cc)
  from-decoded (Ok bytes) (Some c) d answer few is p q = unless-null (is_null c) c d answer (reads-short most bytes c (few bytes refl) is) p q

  json-short : (text : List ℕ) (d : Doc) → length text ≤ 65536 → JsonHeader text (Ok (Some d)) → IsShort most d
  json-short text d few p =
      from-decoded (decode_of standard (encode_utf8_all text)) p.0 d (Ok (Some d))
      (λ bytes is. let one = decoded-few standard (encode_utf8_all text) bytes is in let two = bytes-few text in omega arith)
      p.1 p.2 refl

  -- ---- headers

  header_of-short : (is_json : Bool) (k : Kind) (text : List ℕ) (d : Doc) → length text ≤ 65536 → HeaderOf is_json k text (Ok (Some d)) → IsShort most d
  header_of-short true k text d few p = json-short text d few p
  header_of-short false k text d few p = text-short k text d few p

  pub header-short : (is_json : Bool) (k : Kind) (o : Option (List ℕ)) (d : Doc) → ((text : List ℕ) → o ≡ Some text → length text ≤ 65536)
      → HeaderValue is_json k o (Ok (Some d)) → IsShort most d
  header-short is_json k None d few p = let e = p in absurd (cc)
  header-short is_json k (Some text) d few p = header_of-short is_json k text d (few text refl) p

  entry-short : (o : Option (List ℕ)) (value : List ℕ) → AreShortFields most (option_to_list (option_map (λ rest. pair_of rest (doc.Str value)) o))
  entry-short None value = tt
  entry-short (Some rest) value = (short-Str most value, tt)

  all-behind : (prefix : List ℕ) (hs : List (List ℕ × List ℕ)) → AreShortFields most (flat_map (λ h. option_to_list (entry_behind prefix h)) hs)
  all-behind prefix [] = tt
  all-behind prefix (h ∷ hs) =
      all-append (λ p. IsShort most p.value) (option_to_list (entry_behind prefix h)) (flat_map (λ h. option_to_list (entry_behind prefix h)) hs)
      (entry-short (rest_behind prefix h.0) h.1) (all-behind prefix hs)

  firsts-short : (ps : List (Pair Doc)) → AreShortFields most ps → AreShortFields most (firsts ps)
  firsts-short [] all = tt
  firsts-short (p ∷ ps) all = (all.0, all-filter (λ q. IsShort most q.value) (λ q. not (bytes_eq q.key p.key)) (firsts ps) (firsts-short ps all.1))

  pub behind-short : (prefix : List ℕ) (hs : List (List ℕ × List ℕ)) → IsShort most (doc.Fields (headers_behind prefix hs))
  behind-short prefix hs = short-Fields most (headers_behind prefix hs) (firsts-short (flat_map (λ h. option_to_list (entry_behind prefix h)) hs) (all-behind prefix hs))
