-- Escapes, as `percent_encoding` writes them.
use Rattle.std.proofs.Common.{◌≡◌, ℕ, ◌<◌, true, List, [], ◌∷◌, ◌++◌, refl, ap, ◌∙◌}
use Rattle.std.specs.Prelude.{bytes_eq, flat_map}
use Rattle.std.specs.List.{AllByRecursion}
use Rattle.std.proofs.lemmas.Bool.{agree_below, agree_below_at}
use Rattle.std.proofs.lemmas.Slice.Eq.{bytes_eq-Decides}
use Rattle.percent_encoding.specs.AsciiSet.{should_percent_encode}
use Rattle.percent_encoding.specs.declared.ascii_set.AsciiSet.{AsciiSet}
use Rattle.percent_encoding.specs.Percent.{encode_byte, percent_encode_byte, percent_encode}
use Rattle.uri_texts.specs.declared.escapes.TheConstants.{RESERVED, RESERVED_IN_PATHS}
use Rattle.uri_texts.specs.declared.escapes.Slashes.{Slashes}
use Rattle.uri_texts.specs.declared.escapes.Slashes.TheVariants.{Escaped, Kept}
use Rattle.uri_texts.specs.Escapes.{escaped_byte}

-- a set escapes just the bytes that are escaped with these slashes
abbrev Agrees : AsciiSet → Slashes → Type 0
Agrees set slashes = agree_below (λ b. bytes_eq (encode_byte set b) (escaped_byte slashes b)) (λ b. true) 256 ≡ true

all_agree : Agrees RESERVED Escaped
unfolding should_percent_encode percent_encode_byte
all_agree = refl

all_agree_in_paths : Agrees RESERVED_IN_PATHS Kept
unfolding should_percent_encode percent_encode_byte
all_agree_in_paths = refl

same_escape : (set : AsciiSet) (slashes : Slashes) → Agrees set slashes → (b : ℕ) → b < 256 → encode_byte set b ≡ escaped_byte slashes b
same_escape set slashes agrees b small =
    (bytes_eq-Decides (encode_byte set b) (escaped_byte slashes b)).0
    (agree_below_at (λ b. bytes_eq (encode_byte set b) (escaped_byte slashes b)) (λ b. true) 256 b agrees small)

same_escapes : (set : AsciiSet) (slashes : Slashes) → Agrees set slashes → (bs : List ℕ) → AllByRecursion (λ b. b < 256) bs
    → flat_map (encode_byte set) bs ≡ flat_map (escaped_byte slashes) bs
same_escapes set slashes agrees [] small = refl
same_escapes set slashes agrees (b ∷ bs) small =
    ap (λ e. e ++ flat_map (encode_byte set) bs) (same_escape set slashes agrees b small.0)
    ∙ ap (λ e. escaped_byte slashes b ++ e) (same_escapes set slashes agrees bs small.1)

encode_is : (set : AsciiSet) (bs : List ℕ) → percent_encode set bs ≡ flat_map (encode_byte set) bs
unfolding percent_encode
encode_is set bs = refl

pub escapes_all : (bs : List ℕ) → AllByRecursion (λ b. b < 256) bs → percent_encode RESERVED bs ≡ flat_map (escaped_byte Escaped) bs
escapes_all bs small = encode_is RESERVED bs ∙ same_escapes RESERVED Escaped all_agree bs small

pub escapes_in_paths : (bs : List ℕ) → AllByRecursion (λ b. b < 256) bs → percent_encode RESERVED_IN_PATHS bs ≡ flat_map (escaped_byte Kept) bs
escapes_in_paths bs small = encode_is RESERVED_IN_PATHS bs ∙ same_escapes RESERVED_IN_PATHS Kept all_agree_in_paths bs small
