-- The bytes of messages.
use Rattle.std.proofs.Common.{◌≡◌, ℕ, List, [], ◌∷◌, ◌++◌, length, Option, Result, Ok, Err, refl, sym, ap, ◌∙◌, subst, arith, inl, inr, append_assoc, Bool, true, false, nat_lt}
use Rattle.std.specs.Prelude.{encode_utf8_all, ◌&&◌, OnOk, OnErr, codes}
use Rattle.std.proofs.lemmas.Str.{encodes-append, encode_ascii}
use Rattle.std.proofs.lemmas.Bool.{ltb-true, lt-ltb}
use Rattle.texts.specs.Ascii.{is_ascii_text}
use Rattle.aws_world.specs.declared.link.LinkFault.{LinkFault}
use Rattle.aws_world.specs.declared.link.LinkFault.TheVariants.{Connect, Timeout, Broken}
use Rattle.service_model.specs.declared.operation.Refusal.{Refusal}
use Rattle.service_model.specs.declared.operation.Refusal.TheVariants.{Protocol, Events, Signature, Checksum, Discovery, JsonValue, BlobOutput, SameArgument}
use Rattle.aws_world.specs.Told.{Tells, HasCause, Rose}
use Rattle.aws_world.proofs.Told.{tells_weaker}
use Rattle.aws_main.specs.Causes.{GainsFront}
use Rattle.aws_main.specs.Messages.{Says, bad_model_around, lost_end, lost_start, message, refusal_name, url_of, usage_end, usage_start}

-- a line without a fifth word has no URL
pub no_url : (words : List (List ℕ)) → false ≡ nat_lt 4 (length words) → url_of words ≡ []
no_url [] e = refl
no_url (a ∷ []) e = refl
no_url (a ∷ b ∷ []) e = refl
no_url (a ∷ b ∷ c ∷ []) e = refl
no_url (a ∷ b ∷ c ∷ d ∷ []) e = refl
no_url (a ∷ b ∷ c ∷ d ∷ f ∷ rest) e = let less = lt-ltb 4 (length (a ∷ b ∷ c ∷ d ∷ f ∷ rest)) (omega arith) in cc

split : (a b : Bool) → (a && b) ≡ true → (a ≡ true) × (b ≡ true)
split true b e = (refl, e)
split false b e = cc

-- the bytes of a text in ASCII are its characters
pub ascii_bytes : (bs : List ℕ) → is_ascii_text bs ≡ true → encode_utf8_all bs ≡ bs
ascii_bytes [] h = refl
ascii_bytes (b ∷ bs) h =
    let both = split (nat_lt b 128) (is_ascii_text bs) h in
    ap (λ front. front ++ encode_utf8_all bs) (encode_ascii b (ltb-true b 128 both.0)) ∙ ap (λ rest. b ∷ rest) (ascii_bytes bs both.1)

-- a text between two others, in bytes
around : (before text after : List ℕ) → encode_utf8_all (before ++ (text ++ after)) ≡ encode_utf8_all before ++ (encode_utf8_all text ++ encode_utf8_all after)
around before text after = encodes-append before (text ++ after) ∙ ap (λ bytes. encode_utf8_all before ++ bytes) (encodes-append text after)

-- a text in bytes, between two others in ASCII
around_ascii : (before text after bytes : List ℕ) → is_ascii_text before ≡ true → is_ascii_text after ≡ true → bytes ≡ encode_utf8_all text
    → before ++ (bytes ++ after) ≡ encode_utf8_all (before ++ (text ++ after))
around_ascii before text after bytes p q e =
    ap (λ all. before ++ (all ++ after)) e ∙ ap (λ all. before ++ (encode_utf8_all text ++ all)) (sym (ascii_bytes after q))
    ∙ ap (λ all. all ++ (encode_utf8_all text ++ encode_utf8_all after)) (sym (ascii_bytes before p)) ∙ sym (around before text after)

-- what is written of a message with a text at its end
pub message_written : (start text bytes : List ℕ) → is_ascii_text (10 ∷ start) ≡ true → bytes ≡ encode_utf8_all text
    → (10 ∷ start) ++ (bytes ++ 10 ∷ []) ≡ encode_utf8_all (message (start ++ text))
message_written start text bytes p e =
    around_ascii (10 ∷ start) text (10 ∷ []) bytes p refl e ∙ ap (λ all. encode_utf8_all (10 ∷ all)) (sym (append_assoc start text (10 ∷ [])))

-- the reasons are in ASCII
pub reason_written : (reason : Refusal) (bytes : List ℕ) → bytes ≡ refusal_name reason → bytes ≡ encode_utf8_all (refusal_name reason)
reason_written Protocol bytes e = e ∙ sym (ascii_bytes _ refl)
reason_written Events bytes e = e ∙ sym (ascii_bytes _ refl)
reason_written Signature bytes e = e ∙ sym (ascii_bytes _ refl)
reason_written Checksum bytes e = e ∙ sym (ascii_bytes _ refl)
reason_written Discovery bytes e = e ∙ sym (ascii_bytes _ refl)
reason_written JsonValue bytes e = e ∙ sym (ascii_bytes _ refl)
reason_written BlobOutput bytes e = e ∙ sym (ascii_bytes _ refl)
reason_written (SameArgument name) bytes e = e ∙ sym (ascii_bytes _ refl)

-- what is written of a name that is in no model file
pub usage_written : (name bytes : List ℕ) → bytes ≡ encode_utf8_all name → usage_start ++ (bytes ++ usage_end) ≡ encode_utf8_all (usage_start ++ (name ++ usage_end))
usage_written name bytes e = around_ascii usage_start name usage_end bytes refl refl e

-- a text between others, of which the one before it is in ASCII
behind_ascii : (before text after bytes rest : List ℕ) → is_ascii_text before ≡ true → bytes ≡ encode_utf8_all text → rest ≡ encode_utf8_all after
    → before ++ (bytes ++ rest) ≡ encode_utf8_all (before ++ (text ++ after))
behind_ascii before text after bytes rest p e f =
    ap (λ all. before ++ (all ++ rest)) e ∙ ap (λ all. before ++ (encode_utf8_all text ++ all)) f
    ∙ ap (λ all. all ++ (encode_utf8_all text ++ encode_utf8_all after)) (sym (ascii_bytes before p)) ∙ sym (around before text after)

-- five parts, with a line end behind the last
five_parts : (a b c d e : List ℕ) → (a ++ (b ++ (c ++ d))) ++ e ≡ a ++ (b ++ (c ++ (d ++ e)))
five_parts a b c d e =
    append_assoc a (b ++ (c ++ d)) e ∙ ap (λ all. a ++ all) (append_assoc b (c ++ d) e) ∙ ap (λ all. a ++ (b ++ all)) (append_assoc c d e)

-- what is written of a fault at a place of a model file
pub bad_model_written : (file place file_bytes place_bytes : List ℕ) → file_bytes ≡ encode_utf8_all file → place_bytes ≡ encode_utf8_all place
    → bad_model_around file_bytes place_bytes ≡ encode_utf8_all (message (codes "Invalid model " ++ (file ++ (codes ": " ++ place))))
bad_model_written file place file_bytes place_bytes e f =
    behind_ascii (10 ∷ codes "Invalid model ") file (codes ": " ++ (place ++ 10 ∷ [])) file_bytes (codes ": " ++ (place_bytes ++ 10 ∷ [])) refl e
    (around_ascii (codes ": ") place (10 ∷ []) place_bytes refl refl f)
    ∙ ap (λ all. encode_utf8_all (10 ∷ all)) (sym (five_parts (codes "Invalid model ") file (codes ": ") place (10 ∷ [])))

start_ascii : (fault : LinkFault) → is_ascii_text (lost_start fault) ≡ true
start_ascii Connect = refl
start_ascii Timeout = refl
start_ascii Broken = refl

-- what is written of a lost exchange
pub lost_written : (fault : LinkFault) (url start text : List ℕ) → start ≡ lost_start fault → text ≡ encode_utf8_all url
    → start ++ (text ++ lost_end) ≡ encode_utf8_all (lost_start fault ++ (url ++ lost_end))
lost_written fault url start text e f =
    ap (λ all. all ++ (text ++ lost_end)) e ∙ around_ascii (lost_start fault) url lost_end text (start_ascii fault) refl f

-- the same bytes by another name
pub wrote : {T E : Type 0} (result : Result T E) (bytes due : List ℕ) (first last : Option (List ℕ)) → bytes ≡ due
    → OnOk result (Tells first last (λ x z. z ≡ x ++ bytes)) → OnOk result (Tells first last (λ x z. z ≡ x ++ due))
wrote result bytes due first last e ok = subst (λ all. OnOk result (Tells first last (λ x z. z ≡ x ++ all))) e ok

pub wrote_front : {T E : Type 0} (result : Result T E) (bytes due : List ℕ) (first last : Option (List ℕ)) → bytes ≡ due
    → OnErr result (Tells first last (GainsFront bytes)) → OnErr result (Tells first last (GainsFront due))
wrote_front result bytes due first last e err = subst (λ all. OnErr result (Tells first last (GainsFront all))) e err

-- a message was said, whatever the sink answered
pub said : {T E : Type 0} (result : Result T E) (bytes : List ℕ) (first last : Option (List ℕ)) (before now : ℕ)
    → OnOk result (Tells first last (λ x z. z ≡ x ++ bytes)) → OnErr result (Tells first last (GainsFront bytes)) → HasCause before now result
    → Tells first last (Says (Rose before now) bytes)
said (Ok x) bytes first last before now ok err cause = tells_weaker (λ x z. z ≡ x ++ bytes) (Says (Rose before now) bytes) first last ok (λ x z e. inl e)
said (Err e) bytes first last before now ok err cause =
    tells_weaker (GainsFront bytes) (Says (Rose before now) bytes) first last err (λ x z g. inr (cause.failed, g))
