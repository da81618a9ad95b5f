-- Where a text that is no shorthand has its fault.
use Rattle.std.specs.Prelude.{◌≡◌, ℕ, if◌then◌else◌, List, [], ◌∷◌, ◌++◌, length, reverse, encode_utf8_all}
use Rattle.shorthand.specs.declared.short.Short.{Short}
use Rattle.shorthand.specs.Grammar.{begins_with, is_key_char, IsShorthand}

-- the front of a text that is shorthand
abbrev pub GoesOn : List ℕ → Type 0
GoesOn front = (more : List ℕ) × (tree : Short) × IsShorthand (front ++ more) tree

-- the longest front of these characters that goes on to a text of the grammar, and the characters behind it
pub record IsLongest (chars front rest : List ℕ) : Type 0 where
  pub parts : chars ≡ front ++ rest
  pub goes_on : GoesOn front
  pub longest : (c : ℕ) (more : List ℕ) → rest ≡ c ∷ more → GoesOn (front ++ c ∷ []) → ⊥

abbrev pub without_first_key : List ℕ → List ℕ
without_first_key [] = []
without_first_key (c ∷ cs) = if is_key_char c then without_first_key cs else c ∷ cs

-- without the characters of a key at the end
abbrev pub without_last_key : List ℕ → List ℕ
without_last_key cs = reverse (without_first_key (reverse cs))

-- No grammar goes on with the next character. Only one is refused that could go on but for a limit: the `=`
-- behind a key that stood before in its text, whose fault is that key's.
abbrev pub fault_front : List ℕ → List ℕ → List ℕ
fault_front front rest = if begins_with 61 rest then without_last_key front else front

-- a text that is no shorthand has its fault at this offset, in bytes
pub record HasFault (chars : List ℕ) (at : ℕ) : Type 0 where
  pub front : List ℕ
  pub rest : List ℕ
  pub no_tree : (tree : Short) → IsShorthand chars tree → ⊥
  pub longest : IsLongest chars front rest
  pub place : at ≡ length (encode_utf8_all (fault_front front rest))
