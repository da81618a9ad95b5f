-- The grammar of JSON texts (RFC 8259), under the names of its rules. A rule relates the bytes at
-- its start, what they stand for, and the bytes behind it. At most 100 arrays and objects stand in
-- one another: `n` counts those that are open.
use Rattle.std.specs.Prelude.{◌≡◌, ℕ, ◌+◌, ◌<◌, ◌==◌, ◌||◌, Bool, IsTrue, false, true, codes, List, [], ◌∷◌, ◌++◌}
use Rattle.std.specs.List.{AllByRecursion}
use Rattle.json_doc.specs.declared.decimal.Decimal.{Decimal}
use Rattle.json_doc.specs.declared.doc.Doc as doc
use Rattle.json_doc.specs.declared.doc.Doc.{Doc}
use Rattle.texts.specs.declared.pairs.Pair.{Pair}
use Rattle.texts.specs.Keys.{put}
use Rattle.json_doc.specs.Exact.{HasValue}
use Rattle.json_doc.specs.NumberToken.{Number, SpellsNumber, value_of}
use Rattle.json_doc.specs.TextToken.{BeginsWithText}

-- space, tab, line feed or carriage return
abbrev pub is_blank : ℕ → Bool
is_blank b = b == 0x20 || b == 0x09 || b == 0x0A || b == 0x0D

-- ws = *( %x20 / %x09 / %x0A / %x0D )
abbrev pub Ws : List ℕ → List ℕ → Type 0
Ws bs rest = (blanks : List ℕ) × AllByRecursion (λ b. IsTrue (is_blank b)) blanks × (bs ≡ blanks ++ rest)

-- begin-array and the other five structural characters = ws %x5B ws
abbrev pub Structural : ℕ → List ℕ → List ℕ → Type 0
Structural c bs rest = (ws : List ℕ) × Ws bs (c ∷ ws) × Ws ws rest

-- string = quotation-mark *char quotation-mark
abbrev pub String : List ℕ → List ℕ → List ℕ → Type 0
String bs t rest = (chars : List ℕ) × (bs ≡ 0x22 ∷ chars) × BeginsWithText chars t rest

-- the pairs put one after another: a key that comes again keeps its place and takes the last value
abbrev pub put_all : {T : Type 0} → List (Pair T) → List (Pair T) → List (Pair T)
put_all ps [] = ps
put_all ps (m ∷ ms) = put_all (put ps m.key m.value) ms

mutual
  -- value = false / null / true / object / array / number / string
  pub data Value : ℕ → List ℕ → Doc → List ℕ → Type 0 where
    false_name : {n : ℕ} {bs rest : List ℕ} → bs ≡ codes "false" ++ rest → Value n bs (doc.Flag false) rest
    null_name : {n : ℕ} {bs rest : List ℕ} → bs ≡ codes "null" ++ rest → Value n bs doc.Null rest
    true_name : {n : ℕ} {bs rest : List ℕ} → bs ≡ codes "true" ++ rest → Value n bs (doc.Flag true) rest
    -- number, whose exact value is a decimal
    number : {n : ℕ} {bs spelled rest : List ℕ} {parts : Number} {m : Decimal} → SpellsNumber parts spelled → HasValue m (value_of parts) → bs ≡ spelled ++ rest → Value n bs (doc.Number m) rest
    string : {n : ℕ} {bs t rest : List ℕ} → String bs t rest → Value n bs (doc.Str t) rest
    -- array = begin-array [ value *( value-separator value ) ] end-array
    empty_array : {n : ℕ} {bs ws rest : List ℕ} → n < 100 → Structural 0x5B bs ws → Structural 0x5D ws rest → Value n bs (doc.Items []) rest
    array : {n : ℕ} {bs vs ws rest : List ℕ} {ds : List Doc} → n < 100 → Structural 0x5B bs vs → Values (n + 1) vs ds ws → Structural 0x5D ws rest → Value n bs (doc.Items ds) rest
    -- object = begin-object [ member *( value-separator member ) ] end-object
    empty_object : {n : ℕ} {bs ws rest : List ℕ} → n < 100 → Structural 0x7B bs ws → Structural 0x7D ws rest → Value n bs (doc.Fields []) rest
    object : {n : ℕ} {bs vs ws rest : List ℕ} {ms : List (Pair Doc)} → n < 100 → Structural 0x7B bs vs → Members (n + 1) vs ms ws → Structural 0x7D ws rest → Value n bs (doc.Fields (put_all [] ms)) rest

  -- value *( value-separator value )
  pub data Values : ℕ → List ℕ → List Doc → List ℕ → Type 0 where
    one_value : {n : ℕ} {bs rest : List ℕ} {d : Doc} → Value n bs d rest → Values n bs (d ∷ []) rest
    more_values : {n : ℕ} {bs ws vs rest : List ℕ} {d : Doc} {ds : List Doc} → Value n bs d ws → Structural 0x2C ws vs → Values n vs ds rest → Values n bs (d ∷ ds) rest

  -- member *( value-separator member )
  pub data Members : ℕ → List ℕ → List (Pair Doc) → List ℕ → Type 0 where
    one_member : {n : ℕ} {bs rest : List ℕ} {m : Pair Doc} → Member n bs m rest → Members n bs (m ∷ []) rest
    more_members : {n : ℕ} {bs ws vs rest : List ℕ} {m : Pair Doc} {ms : List (Pair Doc)} → Member n bs m ws → Structural 0x2C ws vs → Members n vs ms rest → Members n bs (m ∷ ms) rest

  -- member = string name-separator value
  pub data Member : ℕ → List ℕ → Pair Doc → List ℕ → Type 0 where
    member : {n : ℕ} {bs t ws vs rest : List ℕ} {d : Doc} → String bs t ws → Structural 0x3A ws vs → Value n vs d rest → Member n bs (record { key = t; value = d }) rest

-- JSON-text = ws value ws
abbrev pub Reads : List ℕ → Doc → Type 0
Reads bs d = (vs : List ℕ) × (ws : List ℕ) × Ws bs vs × Value 0 vs d ws × Ws ws []
