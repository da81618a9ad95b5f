-- The canonical path: AWS's "Create a signed AWS API request", CanonicalUri.
use Rattle.std.specs.Prelude.{ℕ, ◌-◌, ◌||◌, nat_eq, if◌then◌else◌, List, [], ◌∷◌, ◌++◌, length, take, flat_map, codes, bytes_eq, encode_utf8_all}
use Rattle.std.specs.List.{ends_with}
use Rattle.texts.specs.Cut.{cut, is_among}
use Rattle.uri_texts.specs.declared.escapes.Slashes.TheVariants.{Kept}
use Rattle.uri_texts.specs.Escapes.{escaped}

-- the segments with one more: an empty one and `.` are dropped, `..` takes the one before it away
-- (RFC 3986, section 5.2.4)
abbrev pub with_segment : List (List ℕ) → List ℕ → List (List ℕ)
with_segment kept part =
    if bytes_eq part [] || bytes_eq part (codes ".") then kept
    else if bytes_eq part (codes "..") then take (length kept - 1) kept
    else kept ++ part ∷ []

-- the segments with more parts, one after another
abbrev pub with_segments : List (List ℕ) → List (List ℕ) → List (List ℕ)
with_segments kept [] = kept
with_segments kept (part ∷ parts) = with_segments (with_segment kept part) parts

-- the segments of a path that are left
abbrev pub segments_of : List ℕ → List (List ℕ)
segments_of path = with_segments [] (cut (is_among (47 ∷ [])) path)

-- a slash at the end, where the path has one
abbrev pub final_slash : List ℕ → List ℕ
final_slash path = if ends_with nat_eq (encode_utf8_all path) (codes "/") then codes "/" else []

-- each segment behind a slash, and the end; one slash where there is no segment
abbrev pub rooted : List (List ℕ) → List ℕ → List ℕ
rooted [] end = codes "/"
rooted (segment ∷ segments) end = flat_map (λ s. 47 ∷ s) (segment ∷ segments) ++ end

-- the path without empty and dot segments
abbrev pub normal_path : List ℕ → List ℕ
normal_path path = rooted (segments_of path) (final_slash path)

-- the canonical path of a path that is already escaped: each byte is escaped once more
abbrev pub canonical_path : List ℕ → List ℕ
canonical_path path = escaped Kept (normal_path path)
