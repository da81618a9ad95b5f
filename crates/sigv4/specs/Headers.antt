-- The headers that are signed: AWS's "Create a signed AWS API request", CanonicalHeaders and SignedHeaders.
use Rattle.std.specs.Prelude.{ℕ, Bool, true, false, not, ◌==◌, ◌&&◌, if◌then◌else◌, List, [], ◌∷◌, ◌++◌, map, filter, flat_map, codes, bytes_eq, AllPairs, Contains, ◌↔◌}
use Rattle.std.specs.Char.{to_ascii_lowercase}
use Rattle.texts.specs.Blanks.{trimmed}
use Rattle.texts.specs.Joined.{joined}
use Rattle.texts.specs.Order.{IsBefore}
use Rattle.sigv4.specs.Line.{line}

-- without the spaces that follow a space, where `after` says that a space stands before
abbrev pub squeezed : Bool → List ℕ → List ℕ
squeezed after [] = []
squeezed after (c ∷ cs) = if after && (c == 32) then squeezed true cs else c ∷ squeezed (c == 32) cs

-- a value as it is signed: trimmed, with one space for each run of spaces
abbrev pub canonical_value : List ℕ → List ℕ
canonical_value value = squeezed false (trimmed value)

-- a name in small letters
abbrev pub lowered : List ℕ → List ℕ
lowered name = map to_ascii_lowercase name

abbrev pub canonical_header : List ℕ × List ℕ → List ℕ × List ℕ
canonical_header h = (lowered h.0, canonical_value h.1)

-- every header is signed but `Authorization`
abbrev pub is_signed : List ℕ × List ℕ → Bool
is_signed h = not (bytes_eq (lowered h.0) (codes "authorization"))

-- the headers that are signed, in the message's order
abbrev pub canonical_headers : List (List ℕ × List ℕ) → List (List ℕ × List ℕ)
canonical_headers headers = map canonical_header (filter is_signed headers)

-- the names of headers, each once, in ascending order
pub record AreSignedNames (headers : List (List ℕ × List ℕ)) (names : List (List ℕ)) : Type 0 where
  pub ascending : AllPairs IsBefore names
  pub exact : (name : List ℕ) → Contains names name ↔ Contains (map (λ h. h.0) headers) name

-- the values of one name, in the message's order
abbrev pub values_of : List (List ℕ × List ℕ) → List ℕ → List (List ℕ)
values_of headers name = map (λ h. h.1) (filter (λ h. bytes_eq h.0 name) headers)

-- a name with its values
abbrev pub header_line : List (List ℕ × List ℕ) → List ℕ → List ℕ
header_line headers name = line (name ++ codes ":" ++ joined (codes ",") (values_of headers name))

-- the lines of all names
abbrev pub header_lines : List (List ℕ × List ℕ) → List (List ℕ) → List ℕ
header_lines headers names = flat_map (header_line headers) names

-- the list of the names
abbrev pub signed_headers : List (List ℕ) → List ℕ
signed_headers names = joined (codes ";") names
