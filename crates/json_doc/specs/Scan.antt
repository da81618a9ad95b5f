-- Reading from the left, part by part: each part gives its value and the bytes behind it, or the
-- first fault, with how many bytes are left there. `n` counts the brackets that are open.
use Rattle.std.specs.Prelude.{◌≡◌, ℕ, ◌+◌, ◌<◌, ◌≤◌, ◌==◌, ◌||◌, codes, Bool, true, false, if◌then◌else◌, List, [], ◌∷◌, ◌++◌, length, Option, None, Some, Result, Ok, Err}
use Rattle.std.specs.Char.{is_ascii_digit}
use Rattle.json_doc.specs.declared.decimal.Decimal.{Decimal}
use Rattle.json_doc.specs.declared.doc.Doc as doc
use Rattle.json_doc.specs.declared.doc.Doc.{Doc}
use Rattle.texts.specs.declared.pairs.Pair.{Pair}
use Rattle.json_doc.specs.declared.stop.Stop.{Stop}
use Rattle.json_doc.specs.declared.stop.Stop.TheVariants.{Syntax, TooDeep}
use Rattle.json_doc.specs.Grammar.{is_blank}
use Rattle.texts.specs.Keys.{put}
use Rattle.json_doc.specs.Reading.{Read}
use Rattle.texts.specs.Calls.{◌>>=◌}
use Rattle.json_doc.specs.NumberToken.{ReadsNumber}
use Rattle.json_doc.specs.TextToken.{text_at}

-- the same with another value
abbrev pub made : {A B : Type 0} → (A → B) → Read A → Read B
made f (Ok x) = Ok (f x.0, x.1)
made f (Err stop) = Err stop

-- the bytes without the blanks in front
abbrev pub skipped : List ℕ → List ℕ
skipped [] = []
skipped (b ∷ bs) = if is_blank b then skipped bs else b ∷ bs

-- what is behind this byte, where the bytes begin with it
abbrev pub behind : ℕ → List ℕ → Option (List ℕ)
behind c [] = None
behind c (b ∷ bs) = if b == c then Some bs else None

-- what is behind this byte, which is due
abbrev pub past : ℕ → List ℕ → Result (List ℕ) Stop
past c [] = Err (Syntax 0)
past c (b ∷ bs) = if b == c then Ok bs else Err (Syntax (length (b ∷ bs)))

-- what is behind this word, whose letters are due
abbrev pub past_word : List ℕ → List ℕ → Result (List ℕ) Stop
past_word [] bs = Ok bs
past_word (c ∷ cs) bs = past c bs >>= past_word cs

-- numbers begin with a digit or a minus
abbrev pub is_number_start : ℕ → Bool
is_number_start b = b == 0x2D || is_ascii_digit b

abbrev pub begins_number : List ℕ → Bool
begins_number [] = false
begins_number (b ∷ bs) = is_number_start b

-- a value that is one word
abbrev pub named : Doc → List ℕ → List ℕ → Read Doc
named d word bs = past_word word bs >>= (λ rest. Ok (d, rest))

-- a text, a word, or no value
abbrev pub scalar_at : List ℕ → Read Doc
scalar_at [] = Err (Syntax 0)
scalar_at (b ∷ bs) =
    if b == 0x22 then made doc.Str (text_at bs) else
    (if b == 0x66 then named (doc.Flag false) (codes "alse") bs else
    (if b == 0x6E then named doc.Null (codes "ull") bs else
    (if b == 0x74 then named (doc.Flag true) (codes "rue") bs else
    Err (Syntax (length (b ∷ bs))))))

-- a key, its colon, and blanks
abbrev pub key_at : List ℕ → Read (List ℕ)
key_at bs = past 0x22 bs >>= (λ ks. text_at ks >>= (λ key. past 0x3A (skipped key.1) >>= (λ vs. Ok (key.0, skipped vs))))

mutual
  -- a value: a text, a word or a number; what stands in an array or an object, where fewer than 100
  -- are open; else its opening bracket is the fault
  pub data Value : ℕ → List ℕ → Read Doc → Type 0 where
    scalar : {n : ℕ} {bs : List ℕ} {o : Read Doc} → behind 0x5B bs ≡ None → behind 0x7B bs ≡ None → begins_number bs ≡ false → scalar_at bs ≡ o → Value n bs o
    number : {n : ℕ} {bs : List ℕ} {o : Read Decimal} → begins_number bs ≡ true → ReadsNumber bs o → Value n bs (made doc.Number o)
    array : {n : ℕ} {bs ws : List ℕ} {o : Read (List Doc)} → behind 0x5B bs ≡ Some ws → n < 100 → Array (n + 1) (skipped ws) o → Value n bs (made doc.Items o)
    object : {n : ℕ} {bs ws : List ℕ} {o : Read (List (Pair Doc))} → behind 0x7B bs ≡ Some ws → n < 100 → Object (n + 1) (skipped ws) o → Value n bs (made doc.Fields o)
    deep_array : {n : ℕ} {bs ws : List ℕ} → behind 0x5B bs ≡ Some ws → 100 ≤ n → Value n bs (Err (TooDeep (length bs)))
    deep_object : {n : ℕ} {bs ws : List ℕ} → behind 0x7B bs ≡ Some ws → 100 ≤ n → Value n bs (Err (TooDeep (length bs)))

  -- behind the opening bracket and blanks
  pub data Array : ℕ → List ℕ → Read (List Doc) → Type 0 where
    empty_array : {n : ℕ} {bs rest : List ℕ} → behind 0x5D bs ≡ Some rest → Array n bs (Ok ([], rest))
    full_array : {n : ℕ} {bs : List ℕ} {o : Read (List Doc)} → behind 0x5D bs ≡ None → Elements n [] bs o → Array n bs o

  -- elements that are still to come behind these: each is followed by the closing bracket or a comma
  pub data Elements : ℕ → List Doc → List ℕ → Read (List Doc) → Type 0 where
    bad_element : {n : ℕ} {ds : List Doc} {bs : List ℕ} {stop : Stop} → Value n bs (Err stop) → Elements n ds bs (Err stop)
    last_element : {n : ℕ} {ds : List Doc} {bs ws rest : List ℕ} {d : Doc} → Value n bs (Ok (d, ws)) → behind 0x5D (skipped ws) ≡ Some rest → Elements n ds bs (Ok (ds ++ d ∷ [], rest))
    more_elements : {n : ℕ} {ds : List Doc} {bs ws rest : List ℕ} {d : Doc} {o : Read (List Doc)} → Value n bs (Ok (d, ws)) → behind 0x5D (skipped ws) ≡ None → behind 0x2C (skipped ws) ≡ Some rest → Elements n (ds ++ d ∷ []) (skipped rest) o → Elements n ds bs o
    open_array : {n : ℕ} {ds : List Doc} {bs ws : List ℕ} {d : Doc} → Value n bs (Ok (d, ws)) → behind 0x5D (skipped ws) ≡ None → behind 0x2C (skipped ws) ≡ None → Elements n ds bs (Err (Syntax (length (skipped ws))))

  -- behind the opening brace and blanks
  pub data Object : ℕ → List ℕ → Read (List (Pair Doc)) → Type 0 where
    empty_object : {n : ℕ} {bs rest : List ℕ} → behind 0x7D bs ≡ Some rest → Object n bs (Ok ([], rest))
    full_object : {n : ℕ} {bs : List ℕ} {o : Read (List (Pair Doc))} → behind 0x7D bs ≡ None → Members n [] bs o → Object n bs o

  -- members that are still to come behind these: each is followed by the closing brace or a comma
  pub data Members : ℕ → List (Pair Doc) → List ℕ → Read (List (Pair Doc)) → Type 0 where
    bad_key : {n : ℕ} {ps : List (Pair Doc)} {bs : List ℕ} {stop : Stop} → key_at bs ≡ Err stop → Members n ps bs (Err stop)
    bad_member : {n : ℕ} {ps : List (Pair Doc)} {bs k vs : List ℕ} {stop : Stop} → key_at bs ≡ Ok (k, vs) → Value n vs (Err stop) → Members n ps bs (Err stop)
    last_member : {n : ℕ} {ps : List (Pair Doc)} {bs k vs ws rest : List ℕ} {d : Doc} → key_at bs ≡ Ok (k, vs) → Value n vs (Ok (d, ws)) → behind 0x7D (skipped ws) ≡ Some rest → Members n ps bs (Ok (put ps k d, rest))
    more_members : {n : ℕ} {ps : List (Pair Doc)} {bs k vs ws rest : List ℕ} {d : Doc} {o : Read (List (Pair Doc))} → key_at bs ≡ Ok (k, vs) → Value n vs (Ok (d, ws)) → behind 0x7D (skipped ws) ≡ None → behind 0x2C (skipped ws) ≡ Some rest → Members n (put ps k d) (skipped rest) o → Members n ps bs o
    open_object : {n : ℕ} {ps : List (Pair Doc)} {bs k vs ws : List ℕ} {d : Doc} → key_at bs ≡ Ok (k, vs) → Value n vs (Ok (d, ws)) → behind 0x7D (skipped ws) ≡ None → behind 0x2C (skipped ws) ≡ None → Members n ps bs (Err (Syntax (length (skipped ws))))

-- a document, behind which nothing is due but blanks
abbrev pub ended : Doc → List ℕ → Result Doc Stop
ended d [] = Ok d
ended d (c ∷ cs) = Err (Syntax (length (c ∷ cs)))

abbrev pub whole : Read Doc → Result Doc Stop
whole read = read >>= (λ x. ended x.0 (skipped x.1))

-- a whole text gives this
abbrev pub Scans : List ℕ → Result Doc Stop → Type 0
Scans bs r = (o : Read Doc) × Value 0 (skipped bs) o × (r ≡ whole o)
