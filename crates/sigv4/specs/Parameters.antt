-- The canonical query: AWS's "Create a signed AWS API request", CanonicalQueryString.
use Rattle.std.specs.Prelude.{ℕ, List, map, codes, IsPermutation, IsSorted}
use Rattle.std.specs.Borrow.{Bor}
use Rattle.std.specs.Str.{chars}
use Rattle.std.specs.Ordering.{ordering_then}
use Rattle.std.specs.declared.cmp.Ordering.{Ordering}
use Rattle.texts.specs.Joined.{joined}
use Rattle.texts.specs.Order.{text_cmp}
use Rattle.uri_texts.specs.Parameters.{parameter}

-- by the name, then by the value
abbrev pub parameter_cmp : List ℕ × List ℕ → List ℕ × List ℕ → Ordering
parameter_cmp p q = ordering_then (text_cmp p.0 q.0) (text_cmp p.1 q.1)

-- the sorted permutation of the parameters
pub record IsSortedQuery (query sorted : List (List ℕ × List ℕ)) : Type 0 where
  pub permutation : IsPermutation query sorted
  pub ascending : IsSorted parameter_cmp sorted

-- the text of sorted parameters
abbrev pub canonical_query : List (List ℕ × List ℕ) → List ℕ
canonical_query sorted = joined (codes "&") (map parameter sorted)

-- the characters of a parameter that is borrowed
abbrev pub shown : Bor (List ℕ) × Bor (List ℕ) → List ℕ × List ℕ
shown p = (chars p.0.now, chars p.1.now)
