-- The grammar of JSON texts (RFC 8259) as it stands, however deep and whatever the size of a number.
-- A rule relates the bytes at its start and those behind it.
use Rattle.std.specs.Prelude.{◌≡◌, ℕ, codes, List, [], ◌++◌}
use Rattle.json_doc.specs.Grammar.{Ws, Structural, String}
use Rattle.json_doc.specs.NumberToken.{Number, SpellsNumber}

mutual
  -- value = false / null / true / object / array / number / string
  pub data Value : List ℕ → List ℕ → Type 0 where
    false_name : {bs rest : List ℕ} → bs ≡ codes "false" ++ rest → Value bs rest
    null_name : {bs rest : List ℕ} → bs ≡ codes "null" ++ rest → Value bs rest
    true_name : {bs rest : List ℕ} → bs ≡ codes "true" ++ rest → Value bs rest
    number : {bs rest : List ℕ} (parts : Number) (spelled : List ℕ) → SpellsNumber parts spelled → bs ≡ spelled ++ rest → Value bs rest
    string : {bs rest : List ℕ} (t : List ℕ) → String bs t rest → Value bs rest
    -- array = begin-array [ value *( value-separator value ) ] end-array
    empty_array : {bs rest : List ℕ} (ws : List ℕ) → Structural 0x5B bs ws → Structural 0x5D ws rest → Value bs rest
    array : {bs rest : List ℕ} (vs ws : List ℕ) → Structural 0x5B bs vs → Values vs ws → Structural 0x5D ws rest → Value bs rest
    -- object = begin-object [ member *( value-separator member ) ] end-object
    empty_object : {bs rest : List ℕ} (ws : List ℕ) → Structural 0x7B bs ws → Structural 0x7D ws rest → Value bs rest
    object : {bs rest : List ℕ} (vs ws : List ℕ) → Structural 0x7B bs vs → Members vs ws → Structural 0x7D ws rest → Value bs rest

  -- value *( value-separator value )
  pub data Values : List ℕ → List ℕ → Type 0 where
    one_value : {bs rest : List ℕ} → Value bs rest → Values bs rest
    more_values : {bs rest : List ℕ} (ws vs : List ℕ) → Value bs ws → Structural 0x2C ws vs → Values vs rest → Values bs rest

  -- member *( value-separator member )
  pub data Members : List ℕ → List ℕ → Type 0 where
    one_member : {bs rest : List ℕ} → Member bs rest → Members bs rest
    more_members : {bs rest : List ℕ} (ws vs : List ℕ) → Member bs ws → Structural 0x2C ws vs → Members vs rest → Members bs rest

  -- member = string name-separator value
  pub data Member : List ℕ → List ℕ → Type 0 where
    member : {bs rest : List ℕ} (t ws vs : List ℕ) → String bs t ws → Structural 0x3A ws vs → Value vs rest → Member bs rest

-- JSON-text = ws value ws
abbrev pub IsJsonText : List ℕ → Type 0
IsJsonText bs = (vs : List ℕ) × (ws : List ℕ) × Ws bs vs × Value vs ws × Ws ws []
