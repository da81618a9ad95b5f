-- The head of a request is one of the grammar, and the one that its bytes are read as.
use Rattle.std.proofs.Common.{◌≡◌, ℕ, ◌<◌, Bool, true, false, not, ◌&&◌, cond, nat_lt, if◌then◌else◌, List, [], ◌∷◌, ◌++◌, length, map, refl, sym, ap, subst, ◌∙◌, arith, append-nil, append_assoc}
use Rattle.std.specs.Prelude.{codes, encode_utf8_all, filter}
use Rattle.std.specs.Cmp.Derive.{both_true}
use Rattle.std.specs.Fmt.{decimal}
use Rattle.std.specs.List.{All, list_all}
use Rattle.std.specs.Str.{IsUtf8}
use Rattle.std.proofs.lemmas.Bool.{and_parts, ltb-true}
use Rattle.std.proofs.lemmas.List.Elements.{All-nil, All-cons}
use Rattle.std.proofs.lemmas.List.Folds.{list_all-append}
use Rattle.std.proofs.lemmas.List.Sums.{AllPass-from_list_all}
use Rattle.aws_world.specs.declared.message.Message.{Message}
use Rattle.httparse.specs.Grammar.{IsToken, IsField, IsRequestHead, ReadsRequest, is_token, is_token_byte, is_uri_byte, is_value_byte, trim_ows}
use Rattle.httparse.specs.Spans.{name_and_value}
use Rattle.httparse.proofs.GrammarLemmas.{request_unique}
use Rattle.http_exchange.specs.Wire.{has_length, wire_of}
use Rattle.http_exchange.specs.ReadBack.{target_of, length_fields, fields_of, is_framing, is_field_character, is_clean_header, IsClean, as_read, Says, ReadsBack}
use Rattle.http_exchange.proofs.PlainBytes.{same_bytes, visible_ascii, visible_uris, utf8_from, name_same, value_bytes, visible_decimal, clean_decimal, trim_behind, trim_same}
use Rattle.http_exchange.proofs.HeadBytes.{written, head_in, head-bytes}

abbrev Fields : Type 0
Fields = List (List ℕ × List ℕ)

-- a field of the grammar
abbrev is_sound : List ℕ × List ℕ → Bool
is_sound h = is_token (encode_utf8_all h.0) && list_all is_field_character h.1

token_from : (bytes : List ℕ) → is_token bytes ≡ true → IsToken bytes
token_from bytes h =
    let parts = and_parts (nat_lt 0 (length bytes)) (list_all is_token_byte bytes) h in
    (ltb-true 0 (length bytes) parts.0, AllPass-from_list_all is_token_byte bytes parts.1)

field_from : (h : List ℕ × List ℕ) → is_sound h ≡ true → IsField (written h)
field_from h sound =
    let parts = and_parts (is_token (encode_utf8_all h.0)) (list_all is_field_character h.1) sound in
    record {
      name = token_from (encode_utf8_all h.0) parts.0;
      raw = AllPass-from_list_all is_value_byte (32 ∷ encode_utf8_all h.1) (both_true refl (value_bytes h.1 parts.1));
    }

fields_from : (hs : Fields) → list_all is_sound hs ≡ true → All IsField (map written hs)
fields_from [] h = All-nil IsField
fields_from (x ∷ xs) h =
    let parts = and_parts (is_sound x) (list_all is_sound xs) h in
    All-cons IsField (written x) (map written xs) (field_from x parts.0) (fields_from xs parts.1)

sound_headers : (hs : Fields) → list_all is_clean_header hs ≡ true → list_all is_sound hs ≡ true
sound_headers [] h = refl
sound_headers (x ∷ xs) h =
    let parts = and_parts (is_clean_header x) (list_all is_clean_header xs) h in
    let own = and_parts (is_token (encode_utf8_all x.0) && not (is_framing x.0)) (list_all is_field_character x.1) parts.0 in
    both_true (both_true (and_parts (is_token (encode_utf8_all x.0)) (not (is_framing x.0)) own.0).0 own.1) (sound_headers xs parts.1)

named : (name : List ℕ) → list_all (λ c. nat_lt c 128) name ≡ true → is_token name ≡ true → is_token (encode_utf8_all name) ≡ true
named name low token = ap is_token (same_bytes name low) ∙ token

agent_token : is_token (codes "User-Agent") ≡ true
unfolding is_token_byte
agent_token = refl

length_token : is_token (codes "Content-Length") ≡ true
unfolding is_token_byte
length_token = refl

close_token : is_token (codes "Connection") ≡ true
unfolding is_token_byte
close_token = refl

sound_length : (m : Message) (b : Bool) → list_all is_sound (if b then (codes "Content-Length", decimal (length m.body)) ∷ [] else []) ≡ true
sound_length m true = both_true (both_true (named (codes "Content-Length") refl length_token) (clean_decimal (length m.body))) refl
sound_length m false = refl

abbrev agent : List ℕ × List ℕ
agent = (codes "User-Agent", codes "aws-json-cli/1")

abbrev close : List ℕ × List ℕ
close = (codes "Connection", codes "close")

sound_fields : (m : Message) → list_all is_clean_header m.headers ≡ true → list_all is_sound (fields_of m) ≡ true
sound_fields m clean =
    list_all-append is_sound (m.headers ++ agent ∷ length_fields m) (close ∷ [])
    ∙ both_true
    (list_all-append is_sound m.headers (agent ∷ length_fields m)
    ∙ both_true (sound_headers m.headers clean)
    (both_true (both_true (named (codes "User-Agent") refl agent_token) refl) (sound_length m (has_length m))))
    (both_true (both_true (named (codes "Connection") refl close_token) refl) refl)

is_head : (m : Message) → IsClean m → IsRequestHead (head_in m)
is_head m clean =
    let target = target_of m in
    let same = same_bytes target (visible_ascii target clean.target) in
    record {
      method = token_from (encode_utf8_all m.method) clean.method;
      target = (subst (λ bytes. 0 < length bytes) (sym same) clean.has_target, AllPass-from_list_all is_uri_byte (encode_utf8_all target) (ap (list_all is_uri_byte) same ∙ visible_uris target clean.target));
      target_text = subst IsUtf8 (sym same) (utf8_from target (visible_ascii target clean.target));
      minor = omega arith;
      fields = fields_from (fields_of m) (sound_fields m clean.headers);
    }

-- ---- the fields as they are read

one_read : (h : List ℕ × List ℕ) → name_and_value (written h) ≡ as_read h
one_read h = ap (λ value. let field : List ℕ × List ℕ = (encode_utf8_all h.0, value) in field) (trim_behind (encode_utf8_all h.1))

all_read : (hs : Fields) → map name_and_value (map written hs) ≡ map as_read hs
all_read [] = refl
all_read (h ∷ hs) = ap (λ x. x ∷ map name_and_value (map written hs)) (one_read h) ∙ ap (λ xs. as_read h ∷ xs) (all_read hs)

abbrev framing : Fields → Fields
framing hs = filter (λ f. is_framing f.0) (map as_read hs)

not_so : (b : Bool) → not b ≡ true → b ≡ false
not_so true h = cc
not_so false h = refl

left_out : (h : List ℕ × List ℕ) (hs : Fields) → is_framing (encode_utf8_all h.0) ≡ false → framing (h ∷ hs) ≡ framing hs
left_out h hs other = ap (λ b. cond b (as_read h ∷ framing hs) (framing hs)) other

unframed : (hs more : Fields) → list_all is_clean_header hs ≡ true → framing (hs ++ more) ≡ framing more
unframed [] more h = refl
unframed (x ∷ xs) more h =
    let parts = and_parts (is_clean_header x) (list_all is_clean_header xs) h in
    let own = and_parts (is_token (encode_utf8_all x.0) && not (is_framing x.0)) (list_all is_field_character x.1) parts.0 in
    let name = and_parts (is_token (encode_utf8_all x.0)) (not (is_framing x.0)) own.0 in
    left_out x (xs ++ more) (ap is_framing (name_same x.0 name.0) ∙ not_so (is_framing x.0) name.1) ∙ unframed xs more parts.1

length_kept : (m : Message) (b : Bool) (more : Fields)
    → framing ((if b then (codes "Content-Length", decimal (length m.body)) ∷ [] else []) ++ more)
    ≡ map as_read (if b then (codes "Content-Length", decimal (length m.body)) ∷ [] else []) ++ framing more
length_kept m true more =
    let h : List ℕ × List ℕ = (codes "Content-Length", decimal (length m.body)) in
    ap (λ b. cond b (as_read h ∷ framing more) (framing more)) (ap is_framing (same_bytes (codes "Content-Length") refl))
length_kept m false more = refl

framing_fields : (m : Message) → list_all is_clean_header m.headers ≡ true → framing (fields_of m) ≡ map as_read (length_fields m)
framing_fields m clean =
    ap framing (append_assoc m.headers (agent ∷ length_fields m) (close ∷ []))
    ∙ unframed m.headers (agent ∷ length_fields m ++ close ∷ []) clean
    ∙ left_out agent (length_fields m ++ close ∷ []) (ap is_framing (same_bytes (codes "User-Agent") refl))
    ∙ length_kept m (has_length m) (close ∷ [])
    ∙ ap (λ fs. map as_read (length_fields m) ++ fs) (left_out close [] (ap is_framing (same_bytes (codes "Connection") refl)))
    ∙ append-nil (map as_read (length_fields m))

-- a length is read as it is told
length_read : (n : ℕ) → as_read (codes "Content-Length", decimal n) ≡ (codes "Content-Length", decimal n)
length_read n =
    let value = ap trim_ows (same_bytes (decimal n) (visible_ascii (decimal n) (visible_decimal n))) ∙ trim_same (decimal n) (visible_decimal n) in
    ap (λ name. let field : List ℕ × List ℕ = (name, trim_ows (encode_utf8_all (decimal n))) in field) (same_bytes (codes "Content-Length") refl)
    ∙ ap (λ text. let field : List ℕ × List ℕ = (codes "Content-Length", text) in field) value

lengths_read : (m : Message) (b : Bool) → map as_read (if b then (codes "Content-Length", decimal (length m.body)) ∷ [] else [])
    ≡ (if b then (codes "Content-Length", decimal (length m.body)) ∷ [] else [])
lengths_read m true = ap (λ h. h ∷ []) (length_read (length m.body))
lengths_read m false = refl

says : (m : Message) → IsClean m → Says m (head_in m)
says m clean = record {
  method = refl;
  target = refl;
  version = refl;
  fields = all_read (fields_of m);
  framing = ap (filter (λ f. is_framing f.0)) (all_read (fields_of m)) ∙ framing_fields m clean.headers ∙ lengths_read m (has_length m);
}

pub reads_back : (m : Message) → IsClean m → ReadsBack m
reads_back m clean =
    let reads : ReadsRequest (wire_of m) (head_in m) m.body = (is_head m clean, head-bytes m) in
    record {
      is_read = (head_in m, reads);
      as_written = λ head rest read.
          let same = request_unique (wire_of m) (head_in m) head m.body rest reads read in
          (subst (Says m) same.0 (says m clean), sym same.1);
    }
