-- Texts in ASCII are their own characters.
use Rattle.std.proofs.Common.{◌≡◌, ℕ, Bool, true, false, ◌&&◌, nat_lt, List, [], ◌∷◌, refl}
use Rattle.std.specs.Str.{chars, IsAscii}
use Rattle.std.proofs.lemmas.Str.{chars-IsAscii}
use Rattle.std.proofs.lemmas.Str.Ascii.{IsAscii-nil, IsAscii-cons}
use borrow.Author.Tests.{ltb-true}
use Rattle.texts.specs.Ascii.{is_ascii_text}
use Rattle.hex.specs.Hex.{encode_lower, lower_digits}
use Rattle.hex.proofs.HexLemmas.{IsAscii-encode_with}

and_left : (a b : Bool) → (a && b) ≡ true → a ≡ true
and_left true b h = refl
and_left false b h = h

and_right : (a b : Bool) → (a && b) ≡ true → b ≡ true
and_right true b h = h
and_right false b h = cc

pub ascii_from_test : (bs : List ℕ) → is_ascii_text bs ≡ true → IsAscii bs
ascii_from_test [] h = IsAscii-nil
ascii_from_test (b ∷ bs) h =
    IsAscii-cons b bs (ltb-true b 128 (and_left (nat_lt b 128) (is_ascii_text bs) h)) (ascii_from_test bs (and_right (nat_lt b 128) (is_ascii_text bs) h))

-- hex digits are their own characters
pub chars-encode_lower : (bs : List ℕ) → chars (encode_lower bs) ≡ encode_lower bs
chars-encode_lower bs = chars-IsAscii (encode_lower bs) (IsAscii-encode_with lower_digits bs (ascii_from_test lower_digits refl))
