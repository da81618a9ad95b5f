-- What the parser answers of a head, and that names and values take no more than its bytes.
use Rattle.std.proofs.Common.{◌≡◌, ℕ, ◌+◌, ◌≤◌, Bool, true, false, cond, inl, List, [], ◌∷◌, ◌++◌, length, take, drop, refl, sym, ap, ◌∙◌, subst, arith, length-append}
use Rattle.std.specs.Prelude.{map, reverse, sum_by}
use Rattle.std.specs.List.{flat_map}
use Rattle.std.proofs.lemmas.List.{length-reverse, length-map, length-take, drop_all}
use Rattle.std.proofs.lemmas.List.Sums.{sum_by-cons}
use Rattle.httparse.specs.Grammar.{is_ows, skip_ows, trim_ows, print_end, print_blank, print_version, Field, field_value, print_field, print_section, ResponseHead, print_reason, ReadsResponse}
use Rattle.httparse.specs.Grammar.{status_code}
use Rattle.httparse.specs.declared.spans.HeaderSpan.{HeaderSpan}
use Rattle.httparse.specs.declared.spans.ResponseSpans.{ResponseSpans}
use Rattle.httparse.specs.Spans.{name_and_value, header_bytes, IsResponseOf}
use Rattle.aws_world.specs.declared.message.Reply.{Reply}
use Rattle.http_reply.specs.declared.kinds.Kind.{Kind}
use Rattle.http_reply.specs.declared.kinds.Kind.TheVariants.{Interim}
use Rattle.http_reply.specs.Fields.{fields_in}
use Rattle.http_reply.specs.Kinds.{kind_of}
use Rattle.http_reply.specs.Machine.{heads, move, reply_of, JudgesHead, after_head}
use Rattle.http_reply.specs.Outcome.{HasSmallHead}
use Rattle.httparse.proofs.GrammarLemmas.{print_response-append}

length-skip_ows : (bytes : List ℕ) → length (skip_ows bytes) ≤ length bytes
length-skip_ows [] = omega arith
length-skip_ows (b ∷ bytes) = chosen (is_ows b) (skip_ows bytes) bytes b (length-skip_ows bytes)
  where
    chosen : (c : Bool) (skipped bytes : List ℕ) (b : ℕ) → length skipped ≤ length bytes → length (cond c skipped (b ∷ bytes)) ≤ length (b ∷ bytes)
    chosen true skipped bytes b h = omega arith
    chosen false skipped bytes b h = omega arith

length-trim_ows : (bytes : List ℕ) → length (trim_ows bytes) ≤ length bytes
unfolding trim_ows
length-trim_ows bytes =
    let front = skip_ows bytes in
    let back = skip_ows (reverse front) in
    omega (arith, length-reverse back, length-reverse front, length-skip_ows bytes, length-skip_ows (reverse front))

length-print_field : (f : Field) → length f.name + length (field_value f) ≤ length (print_field f)
length-print_field f =
    let trimmed = length-trim_ows f.raw in
    let whole = length-append (f.name ++ 58 ∷ f.raw) (print_end f.end) in
    let front = length-append f.name (58 ∷ f.raw) in
    omega arith

-- the characters of a name and its value
abbrev pub characters : List ℕ × List ℕ → ℕ
characters field = length field.0 + length field.1

characters-fields : (fields : List Field) → sum_by characters (map name_and_value fields) ≤ length (flat_map print_field fields)
characters-fields [] = omega arith
characters-fields (f ∷ fields) =
    let tail = characters-fields fields in
    let head = length-print_field f in
    let sums = sum_by-cons characters (name_and_value f) (map name_and_value fields) in
    let longer = length-append (print_field f) (flat_map print_field fields) in
    omega arith

pub characters-head : (bytes : List ℕ) (h : ResponseHead) (rest : List ℕ) → ReadsResponse bytes h rest
    → sum_by characters (map name_and_value h.fields) ≤ length bytes
characters-head bytes h rest x =
    let fields = characters-fields h.fields in
    let section = length-append (flat_map print_field h.fields) (print_end h.last) in
    let printed = ap length (x.1 ∙ print_response-append h rest) in
    let tail = print_section h.fields h.last ++ rest in
    let line = print_end h.line_end ++ tail in
    let reason = print_reason h.reason ++ line in
    let code = h.digits ++ reason in
    let version = print_version h.minor ++ 32 ∷ code in
    omega (
      arith,
      length-append (print_section h.fields h.last) rest,
      length-append (print_end h.line_end) tail,
      length-append (print_reason h.reason) line,
      length-append h.digits reason,
      length-append (print_version h.minor) (32 ∷ code),
      length-append (print_blank h.blank) version,
    )

-- what the spans of a whole head say is what the grammar says
pub judged_by : (head_only : Bool) (head : List ℕ) (spans : List HeaderSpan) (found : ResponseSpans) (reply : Reply) (kind : Kind)
    → IsResponseOf head spans found → found.len ≡ length head → found.headers ≤ 100
    → reply.status ≡ found.code → reply.headers ≡ fields_in head (take found.headers spans) → reply.body ≡ []
    → kind ≡ kind_of head_only found.code (fields_in head (take found.headers spans))
    → (used : ℕ) → JudgesHead head_only used head (after_head used (length head) reply kind)
judged_by head_only head spans found reply kind x all few status headers none kind_is used =
    let h = x.0 in
    let at = x.1 in
    let rest : drop found.len head ≡ [] = drop_all found.len head (omega arith) in
    let reads = subst (λ r. ReadsResponse head h r) rest at.reads in
    let count = sym (length-map h.fields name_and_value) ∙ sym (ap length at.fields)
    ∙ length-map (take found.headers spans) (header_bytes head) ∙ length-take found.headers spans in
    let fields : length h.fields ≤ 100 = omega arith in
    let same : reply ≡ reply_of h = λ i. record { status = (status ∙ at.code) i; headers = (headers ∙ at.fields) i; body = none i } in
    inl (
      h,
      (reads, fields),
      ap (λ k. after_head used (length head) reply k) kind_is
          ∙ ap (λ code. after_head used (length head) reply (kind_of head_only code (fields_in head (take found.headers spans)))) at.code
          ∙ ap (λ pairs. after_head used (length head) reply (kind_of head_only (status_code h) pairs)) at.fields
          ∙ ap (λ r. after_head used (length head) r (kind_of head_only (status_code h) (map name_and_value h.fields))) same,
    )

-- an interim head leaves nothing but its size
pub judged_interim : (head_only : Bool) (head : List ℕ) (spans : List HeaderSpan) (found : ResponseSpans)
    → IsResponseOf head spans found → found.len ≡ length head → found.headers ≤ 100
    → Interim ≡ kind_of head_only found.code (fields_in head (take found.headers spans))
    → (used : ℕ) → JudgesHead head_only used head (move (heads (used + length head)) (length head))
judged_interim head_only head spans found x all few kind_is used =
    judged_by head_only head spans found
    (record { status = found.code; headers = fields_in head (take found.headers spans); body = [] })
    Interim x all few refl refl refl kind_is used

-- the headers of the spans are small
pub small_head : (head : List ℕ) (spans : List HeaderSpan) (found : ResponseSpans) (reply : Reply)
    → IsResponseOf head spans found → length head ≤ 65536
    → reply.headers ≡ fields_in head (take found.headers spans) → HasSmallHead reply
small_head head spans found reply x few headers =
    let size = characters-head head x.0 (drop found.len head) x.1.reads in
    subst (λ pairs. sum_by characters pairs ≤ 65536) (sym (headers ∙ x.1.fields)) (omega arith)
