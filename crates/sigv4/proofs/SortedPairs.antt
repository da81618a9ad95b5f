-- Borrowed parameters in the order of their bytes.
use Rattle.std.proofs.Common.{◌≡◌, ℕ, ◌+◌, ◌<◌, List, [], ◌∷◌, length, map, get_or, sym, ap, ◌∙◌, arith}
use Rattle.std.specs.Prelude.{All, encode_utf8_all, IsSorted}
use Rattle.std.specs.Borrow.{Bor}
use Rattle.std.specs.Ordering.{nat_cmp, ordering_then, is_lt}
use Rattle.std.specs.declared.cmp.Ordering.{Ordering}
use Rattle.std.specs.Cmp.Lexicographic.{slice_cmp}
use Rattle.std.specs.Str.{chars}
use Rattle.std.proofs.lemmas.List.{get_or-map, length-map}
use Rattle.texts.specs.Order.{text_cmp}
use Rattle.texts.proofs.ByteOrder.{text_cmp-bytes}
use Rattle.sigv4.specs.Parameters.{parameter_cmp, shown}

-- the bytes are those of the characters
abbrev pub IsText : Bor (List ℕ) × Bor (List ℕ) → Type 0
IsText p = (p.0.now ≡ encode_utf8_all (chars p.0.now)) × (p.1.now ≡ encode_utf8_all (chars p.1.now))

-- the order of pairs by their bytes
abbrev pub bytes_cmp : Bor (List ℕ) × Bor (List ℕ) → Bor (List ℕ) × Bor (List ℕ) → Ordering
bytes_cmp p q = ordering_then (slice_cmp nat_cmp p.0.now q.0.now) (slice_cmp nat_cmp p.1.now q.1.now)

by_bytes : (x y : List ℕ) → x ≡ encode_utf8_all (chars x) → y ≡ encode_utf8_all (chars y) → text_cmp (chars x) (chars y) ≡ slice_cmp nat_cmp x y
by_bytes x y a b =
    sym (ap (λ bytes. slice_cmp nat_cmp bytes y) a ∙ ap (slice_cmp nat_cmp (encode_utf8_all (chars x))) b ∙ text_cmp-bytes (chars x) (chars y))

-- is that of their characters
same_order : (p q : Bor (List ℕ) × Bor (List ℕ)) → IsText p → IsText q → parameter_cmp (shown p) (shown q) ≡ bytes_cmp p q
same_order p q a b =
    ap (λ o. ordering_then o (text_cmp (chars p.1.now) (chars q.1.now))) (by_bytes p.0.now q.0.now a.0 b.0)
    ∙ ap (ordering_then (slice_cmp nat_cmp p.0.now q.0.now)) (by_bytes p.1.now q.1.now a.1 b.1)

pub sorted_shown : (pairs : List (Bor (List ℕ) × Bor (List ℕ))) → All IsText pairs → IsSorted bytes_cmp pairs → IsSorted parameter_cmp (map shown pairs)
sorted_shown [] texts sorted = λ k d low high. absurd (omega arith)
sorted_shown (p ∷ ps) texts sorted = λ k d low high.
    let next : k + 1 < length (p ∷ ps) = omega (arith, length-map (p ∷ ps) shown) in
    let here : k < length (p ∷ ps) = omega arith in
    let after = get_or (p ∷ ps) (k + 1) p in
    let before = get_or (p ∷ ps) k p in
    rw (get_or-map shown (p ∷ ps) (k + 1) p d next, get_or-map shown (p ∷ ps) k p d here)
    (ap is_lt (same_order after before (texts (k + 1) p next) (texts k p here)) ∙ sorted k p low next)
