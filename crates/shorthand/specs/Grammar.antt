-- The grammar of shorthand texts, after the shorthand syntax of the AWS CLI's user guide, under the names
-- of its rules. A rule relates the characters from its start on, what they stand for, and the characters
-- behind it. `n` counts the brackets and braces that are open.
use Rattle.std.specs.Prelude.{◌≡◌, ℕ, suc, ◌<◌, ◌==◌, nat_lt, Bool, false, not, ◌&&◌, ◌||◌, if◌then◌else◌, IsTrue, List, [], ◌∷◌, ◌++◌}
use Rattle.std.specs.Char.{is_ascii_alphanumeric}
use Rattle.std.specs.List.{list_all}
use Rattle.texts.specs.declared.pairs.Pair.{Pair}
use Rattle.texts.specs.Keys.{keys, IsDistinct}
use Rattle.shorthand.specs.declared.short.Short.{Short}
use Rattle.shorthand.specs.declared.short.Short.TheVariants.{Word, Items, Fields}

-- spaces behind `,`, `[` and `{` are skipped
abbrev pub without_spaces : List ℕ → List ℕ
without_spaces [] = []
without_spaces (c ∷ cs) = if c == 32 then without_spaces cs else c ∷ cs

-- an ASCII letter, a digit, `_`, `-`, `.`, `#` or `/`
abbrev pub is_key_char : ℕ → Bool
is_key_char c = is_ascii_alphanumeric c || (c == 95) || (c == 45) || (c == 46) || (c == 35) || (c == 47)

-- key = 1*(ASCII letter / digit / "_" / "-" / "." / "#" / "/")
abbrev pub IsKey : List ℕ → Type 0
IsKey [] = ⊥
IsKey (c ∷ cs) = IsTrue (is_key_char c && list_all is_key_char cs)

-- a key and `=` stand in front
abbrev pub BeginsPair : List ℕ → Type 0
BeginsPair ts = (k : List ℕ) × (rest : List ℕ) × IsKey k × (ts ≡ k ++ 61 ∷ rest)

-- a value without quotes ends before a comma, and inside brackets also before `]` and `}`
abbrev pub ends_bare : ℕ → ℕ → Bool
ends_bare n c = (c == 44) || (nat_lt 0 n && ((c == 93) || (c == 125)))

-- it ends here
abbrev pub EndsBare : ℕ → List ℕ → Type 0
EndsBare n [] = Unit {0}
EndsBare n (c ∷ cs) = IsTrue (ends_bare n c)

abbrev pub is_quote : ℕ → Bool
is_quote c = (c == 34) || (c == 39)

-- it doesn't begin with a quote, `[` or `{`
abbrev pub BeginsBare : ℕ → List ℕ → Type 0
BeginsBare n [] = ⊥
BeginsBare n (c ∷ cs) = IsTrue (not (is_quote c || (c == 91) || (c == 123) || ends_bare n c))

abbrev pub begins_with : ℕ → List ℕ → Bool
begins_with c [] = false
begins_with c (d ∷ ds) = d == c

-- what a value without quotes stands for: `\,` is a comma, and another backslash stands for itself
pub data Bare : ℕ → List ℕ → List ℕ → List ℕ → Type 0 where
  bare_end : {n : ℕ} {ts : List ℕ} → EndsBare n ts → Bare n ts [] ts
  bare_comma : {n : ℕ} {ts us w rest : List ℕ} → ts ≡ 92 ∷ 44 ∷ us → Bare n us w rest → Bare n ts (44 ∷ w) rest
  bare_backslash : {n : ℕ} {ts us w rest : List ℕ} → ts ≡ 92 ∷ us → begins_with 44 us ≡ false → Bare n us w rest → Bare n ts (92 ∷ w) rest
  bare_char : {n c : ℕ} {ts us w rest : List ℕ} → ts ≡ c ∷ us → (c == 92) ≡ false → ends_bare n c ≡ false → Bare n us w rest → Bare n ts (c ∷ w) rest

-- what stands behind a quote `q`, up to the next: a backslash before that quote or a backslash gives that
-- character, and another backslash stands for itself
pub data Quoted : ℕ → List ℕ → List ℕ → List ℕ → Type 0 where
  quote_end : {q : ℕ} {ts rest : List ℕ} → ts ≡ q ∷ rest → Quoted q ts [] rest
  quote_escape : {q c : ℕ} {ts us w rest : List ℕ} → ts ≡ 92 ∷ c ∷ us → IsTrue ((c == q) || (c == 92)) → Quoted q us w rest → Quoted q ts (c ∷ w) rest
  quote_backslash : {q c : ℕ} {ts us w rest : List ℕ} → ts ≡ 92 ∷ c ∷ us → ((c == q) || (c == 92)) ≡ false → Quoted q us w rest → Quoted q ts (92 ∷ c ∷ w) rest
  quote_char : {q c : ℕ} {ts us w rest : List ℕ} → ts ≡ c ∷ us → (c == q) ≡ false → (c == 92) ≡ false → Quoted q us w rest → Quoted q ts (c ∷ w) rest

-- no value is the empty word, and two values or more are a list
abbrev pub value_of : List Short → Short
value_of [] = Word []
value_of (v ∷ []) = v
value_of (v ∷ (w ∷ vs)) = Items (v ∷ (w ∷ vs))

-- a key with its values
abbrev pub pair_of : List ℕ → List Short → Pair Short
pair_of k vs = record { key = k; value = value_of vs }

mutual
  -- value = quoted / "[" [value *("," value)] "]" / "{" text "}" / bare
  pub data Value : ℕ → List ℕ → Short → List ℕ → Type 0 where
    quoted : {n q : ℕ} {ts us w rest : List ℕ} → ts ≡ q ∷ us → IsTrue (is_quote q) → Quoted q us w rest → Value n ts (Word w) rest
    brackets : {n : ℕ} {ts us rest : List ℕ} {vs : List Short} → ts ≡ 91 ∷ us → n < 100 → Inside (suc n) (without_spaces us) vs rest → Value n ts (Items vs) rest
    braces : {n : ℕ} {ts us ws rest : List ℕ} {ps : List (Pair Short)} → ts ≡ 123 ∷ us → n < 100 → TextAt (suc n) (without_spaces us) ps ws → ws ≡ 125 ∷ rest → Value n ts (Fields ps) rest
    bare : {n : ℕ} {ts w rest : List ℕ} → BeginsBare n ts → Bare n ts w rest → Value n ts (Word w) rest

  -- [value *("," value)] "]"
  pub data Inside : ℕ → List ℕ → List Short → List ℕ → Type 0 where
    no_item : {n : ℕ} {ts rest : List ℕ} → ts ≡ 93 ∷ rest → Inside n ts [] rest
    items : {n : ℕ} {ts us rest : List ℕ} {v : Short} {vs : List Short} → Value n ts v us → MoreItems n us vs rest → Inside n ts (v ∷ vs) rest

  -- *("," value) "]"
  pub data MoreItems : ℕ → List ℕ → List Short → List ℕ → Type 0 where
    last_item : {n : ℕ} {ts rest : List ℕ} → ts ≡ 93 ∷ rest → MoreItems n ts [] rest
    more_items : {n : ℕ} {ts us ws rest : List ℕ} {v : Short} {vs : List Short} → ts ≡ 44 ∷ us → Value n (without_spaces us) v ws → MoreItems n ws vs rest → MoreItems n ts (v ∷ vs) rest

  -- text = pair *("," pair), whose keys are distinct
  pub data TextAt : ℕ → List ℕ → List (Pair Short) → List ℕ → Type 0 where
    text : {n : ℕ} {ts us rest : List ℕ} {p : Pair Short} {ps : List (Pair Short)} → PairAt n ts p us → MorePairs n us ps rest → IsDistinct (keys (p ∷ ps)) → TextAt n ts (p ∷ ps) rest

  -- *("," pair)
  pub data MorePairs : ℕ → List ℕ → List (Pair Short) → List ℕ → Type 0 where
    last_pair : {n : ℕ} {ts : List ℕ} → MorePairs n ts [] ts
    more_pairs : {n : ℕ} {ts us ws rest : List ℕ} {p : Pair Short} {ps : List (Pair Short)} → ts ≡ 44 ∷ us → PairAt n (without_spaces us) p ws → MorePairs n ws ps rest → MorePairs n ts (p ∷ ps) rest

  -- pair = key "=" values
  pub data PairAt : ℕ → List ℕ → Pair Short → List ℕ → Type 0 where
    pair : {n : ℕ} {ts us k rest : List ℕ} {vs : List Short} → IsKey k → ts ≡ k ++ 61 ∷ us → Values n us vs rest → PairAt n ts (pair_of k vs) rest

  -- values = "" / value / value 1*("," value)
  pub data Values : ℕ → List ℕ → List Short → List ℕ → Type 0 where
    no_value : {n : ℕ} {ts : List ℕ} → Values n ts [] ts
    values : {n : ℕ} {ts us rest : List ℕ} {v : Short} {vs : List Short} → Value n ts v us → MoreValues n us vs rest → Values n ts (v ∷ vs) rest

  -- *("," value); behind a comma a pair begins exactly where a key and `=` follow
  pub data MoreValues : ℕ → List ℕ → List Short → List ℕ → Type 0 where
    last_value : {n : ℕ} {ts : List ℕ} → MoreValues n ts [] ts
    more_values : {n : ℕ} {ts us ws rest : List ℕ} {v : Short} {vs : List Short} → ts ≡ 44 ∷ us → (BeginsPair (without_spaces us) → ⊥) → Value n (without_spaces us) v ws → MoreValues n ws vs rest → MoreValues n ts (v ∷ vs) rest

-- a text that is shorthand as a whole
abbrev pub IsShorthand : List ℕ → Short → Type 0
IsShorthand chars tree = (ps : List (Pair Short)) × TextAt 0 chars ps [] × (tree ≡ Fields ps)
