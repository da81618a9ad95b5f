-- The bytes of a request, as a head of the grammar and a body.
use Rattle.std.proofs.Common.{◌≡◌, ℕ, Bool, true, false, if◌then◌else◌, List, [], ◌∷◌, ◌++◌, length, map, refl, sym, ap, ◌∙◌, append_assoc, append-nil}
use Rattle.std.specs.Prelude.{codes, flat_map, encode_utf8_all}
use Rattle.std.proofs.lemmas.Grind.{flat_map-append}
use Rattle.std.proofs.lemmas.Str.{encodes-append}
use Rattle.std.specs.Fmt.{decimal}
use Rattle.aws_world.specs.declared.message.Message.{Message}
use Rattle.httparse.specs.Grammar.{Field, crlf, print_field, print_section, RequestHead, print_request}
use Rattle.httparse.proofs.GrammarLemmas.{cons-append, print_request-append}
use Rattle.http_exchange.specs.Wire.{line, header, request_line, parameters, has_length, head_of, wire_of}
use Rattle.http_exchange.proofs.PlainBytes.{same_bytes}
use Rattle.http_exchange.specs.ReadBack.{target_of, length_fields, fields_of}

-- a header as a field line
abbrev pub written : List ℕ × List ℕ → Field
written h = record { name = encode_utf8_all h.0; raw = 32 ∷ encode_utf8_all h.1; end = crlf }

abbrev pub head_in : Message → RequestHead
head_in m = record {
  blank = [];
  method = encode_utf8_all m.method;
  target = encode_utf8_all (target_of m);
  minor = 1;
  line_end = crlf;
  fields = map written (fields_of m);
  last = crlf;
}

abbrev header_lines : List (List ℕ × List ℕ) → List ℕ
header_lines hs = flat_map (λ h. line (header h)) hs

abbrev agent : List ℕ × List ℕ
agent = (codes "User-Agent", codes "aws-json-cli/1")

abbrev close : List ℕ × List ℕ
close = (codes "Connection", codes "close")

lengths : (m : Message) (b : Bool) → (if b then line (codes "Content-Length: " ++ decimal (length m.body)) else [])
    ≡ header_lines (if b then (codes "Content-Length", decimal (length m.body)) ∷ [] else [])
lengths m true = sym (append-nil (line (codes "Content-Length: " ++ decimal (length m.body))))
lengths m false = refl

shuffled : (s hs a ls c e : List ℕ) → ((((s ++ hs) ++ a) ++ ls) ++ c) ++ e ≡ s ++ (((hs ++ (a ++ ls)) ++ (c ++ [])) ++ e)
shuffled s hs a ls c e = simp (append_assoc, append-nil)

own-lines : (m : Message) → header_lines (fields_of m)
    ≡ (header_lines m.headers ++ (line (header agent) ++ header_lines (length_fields m))) ++ (line (header close) ++ [])
own-lines m =
    flat_map-append (λ h. line (header h)) (m.headers ++ agent ∷ length_fields m) (close ∷ [])
    ∙ ap (λ s. s ++ (line (header close) ++ [])) (flat_map-append (λ h. line (header h)) m.headers (agent ∷ length_fields m))

-- the head's lines, this client's own among them
head-lines : (m : Message) → head_of m ≡ line (request_line m) ++ (header_lines (fields_of m) ++ line [])
head-lines m =
    let start = line (request_line m) in
    ap (λ ls. ((((start ++ header_lines m.headers) ++ line (header agent)) ++ ls) ++ line (header close)) ++ line []) (lengths m (has_length m))
    ∙ shuffled start (header_lines m.headers) (line (header agent)) (header_lines (length_fields m)) (line (header close)) (line [])
    ∙ ap (λ s. start ++ (s ++ line [])) (sym (own-lines m))

line-end : (text : List ℕ) → encode_utf8_all (line text) ≡ encode_utf8_all text ++ 13 ∷ 10 ∷ []
line-end text = encodes-append text (13 ∷ 10 ∷ []) ∙ ap (λ s. encode_utf8_all text ++ s) (same_bytes (13 ∷ 10 ∷ []) refl)

header-bytes : (h : List ℕ × List ℕ) → encode_utf8_all (header h) ≡ encode_utf8_all h.0 ++ 58 ∷ 32 ∷ encode_utf8_all h.1
header-bytes h =
    encodes-append (h.0 ++ codes ": ") h.1
    ∙ ap (λ s. s ++ encode_utf8_all h.1) (encodes-append h.0 (codes ": ") ∙ ap (λ s. encode_utf8_all h.0 ++ s) (same_bytes (codes ": ") refl))
    ∙ append_assoc (encode_utf8_all h.0) (codes ": ") (encode_utf8_all h.1)

-- a header's line is that field's
line-bytes : (h : List ℕ × List ℕ) → encode_utf8_all (line (header h)) ≡ print_field (written h)
line-bytes h = line-end (header h) ∙ ap (λ s. s ++ 13 ∷ 10 ∷ []) (header-bytes h)

lines-bytes : (hs : List (List ℕ × List ℕ)) → encode_utf8_all (header_lines hs) ≡ flat_map print_field (map written hs)
lines-bytes [] = refl
lines-bytes (h ∷ hs) =
    encodes-append (line (header h)) (header_lines hs) ∙ ap (λ s. s ++ encode_utf8_all (header_lines hs)) (line-bytes h)
    ∙ ap (λ s. print_field (written h) ++ s) (lines-bytes hs)

section-bytes : (hs : List (List ℕ × List ℕ)) → encode_utf8_all (header_lines hs ++ line []) ≡ print_section (map written hs) crlf
section-bytes hs =
    encodes-append (header_lines hs) (line []) ∙ ap (λ s. s ++ encode_utf8_all (line [])) (lines-bytes hs)
    ∙ ap (λ s. flat_map print_field (map written hs) ++ s) (line-end [])

parted : (a s p q v : List ℕ) → (((a ++ s) ++ p) ++ q) ++ v ≡ a ++ (s ++ ((p ++ q) ++ v))
parted a s p q v = simp append_assoc

start-bytes : (m : Message) → encode_utf8_all (request_line m)
    ≡ encode_utf8_all m.method ++ 32 ∷ (encode_utf8_all (target_of m) ++ 32 ∷ codes "HTTP/1.1")
start-bytes m =
    let version = codes " HTTP/1.1" in
    let behind = target_of m ++ version in
    ap encode_utf8_all (parted m.method (codes " ") m.path (parameters 63 m.query) version)
    ∙ encodes-append m.method (codes " " ++ behind)
    ∙ ap (λ s. encode_utf8_all m.method ++ s)
    (encodes-append (codes " ") behind ∙ ap (λ s. s ++ encode_utf8_all behind) (same_bytes (codes " ") refl)
    ∙ ap (λ s. 32 ∷ s)
    (encodes-append (target_of m) version ∙ ap (λ s. encode_utf8_all (target_of m) ++ s) (same_bytes version refl)))

regrouped : (a b v e s r : List ℕ) → (((a ++ 32 ∷ (b ++ 32 ∷ v)) ++ e) ++ s) ++ r ≡ a ++ 32 ∷ (b ++ 32 ∷ (v ++ (e ++ (s ++ r))))
regrouped a b v e s r = simp (append_assoc, cons-append)

-- the bytes of a request are that head and the body
pub head-bytes : (m : Message) → wire_of m ≡ print_request (head_in m) ++ m.body
head-bytes m =
    let method = encode_utf8_all m.method in
    let target = encode_utf8_all (target_of m) in
    let sections = print_section (map written (fields_of m)) crlf in
    ap (λ s. s ++ m.body)
    (ap encode_utf8_all (head-lines m) ∙ encodes-append (line (request_line m)) (header_lines (fields_of m) ++ line [])
    ∙ ap (λ s. s ++ encode_utf8_all (header_lines (fields_of m) ++ line [])) (line-end (request_line m) ∙ ap (λ s. s ++ 13 ∷ 10 ∷ []) (start-bytes m))
    ∙ ap (λ s. ((method ++ 32 ∷ (target ++ 32 ∷ codes "HTTP/1.1")) ++ 13 ∷ 10 ∷ []) ++ s) (section-bytes (fields_of m)))
    ∙ regrouped method target (codes "HTTP/1.1") (13 ∷ 10 ∷ []) sections m.body
    ∙ sym (print_request-append (head_in m) m.body)
