-- Headers that are signed and their values, one header further.
use Rattle.std.proofs.Common.{◌≡◌, ℕ, ◌+◌, ◌<◌, true, false, not, List, ◌∷◌, length, get_or, drop, map, sym, ap, ◌∙◌}
use Rattle.std.specs.Prelude.{bytes_eq, codes, filter}
use Rattle.std.proofs.lemmas.Bool.{cond-true, cond-false}
use Rattle.std.proofs.lemmas.List.{at_drop_more}
use Rattle.sigv4.specs.Headers.{lowered, canonical_header, is_signed, canonical_headers, values_of}

module _ (headers : List (List ℕ × List ℕ)) (i : ℕ) (item : List ℕ × List ℕ) (within : i < length headers) (is : item ≡ get_or headers i item) where
  abbrev rest : List (List ℕ × List ℕ)
  rest = drop (i + 1) headers

  here : {A : Type 0} (F : List (List ℕ × List ℕ) → A) → F (drop i headers) ≡ F (item ∷ rest)
  here F = at_drop_more F headers i item within ∙ ap (λ h. F (h ∷ rest)) (sym is)

  -- the value of a header of this name
  pub value_here : (name : List ℕ) → bytes_eq item.0 name ≡ true → values_of (drop i headers) name ≡ item.1 ∷ values_of rest name
  value_here name same =
      here (λ hs. values_of hs name)
      ∙ ap (map (λ h. h.1)) (cond-true (bytes_eq item.0 name) (item ∷ filter (λ h. bytes_eq h.0 name) rest) (filter (λ h. bytes_eq h.0 name) rest) same)

  -- `Authorization` isn't signed
  pub header_out : bytes_eq (lowered item.0) (codes "authorization") ≡ true → canonical_headers (drop i headers) ≡ canonical_headers rest
  header_out is_it =
      here canonical_headers ∙ ap (map canonical_header) (cond-false (is_signed item) (item ∷ filter is_signed rest) (filter is_signed rest) (ap not is_it))

  -- every other header is
  pub header_in : bytes_eq (lowered item.0) (codes "authorization") ≡ false → canonical_headers (drop i headers) ≡ canonical_header item ∷ canonical_headers rest
  header_in other =
      here canonical_headers ∙ ap (map canonical_header) (cond-true (is_signed item) (item ∷ filter is_signed rest) (filter is_signed rest) (ap not other))
