-- The escapes of bytes.
use Rattle.std.proofs.Common.{◌≡◌, ℕ, ◌<◌, true, List, [], ◌∷◌, refl, ◌∙◌}
use Rattle.std.specs.Prelude.{flat_map}
use Rattle.std.specs.List.{AllByRecursion, list_all}
use Rattle.std.proofs.lemmas.Bool.{agree_below, agree_below_at}
use Rattle.std.specs.Cmp.Derive.{both_true}
use Rattle.std.proofs.lemmas.List.Folds.{list_all-append}
use Rattle.uri_texts.specs.declared.escapes.Slashes.TheVariants.{Escaped}
use Rattle.uri_texts.specs.Escapes.{escaped_byte}
use Rattle.endpoint_rules.specs.Laws.{is_plain}

all_plain : agree_below (λ b. list_all is_plain (escaped_byte Escaped b)) (λ b. true) 256 ≡ true
all_plain = refl

-- the escapes of bytes are plain
pub plain_escapes : (bs : List ℕ) → AllByRecursion (λ b. b < 256) bs → list_all is_plain (flat_map (escaped_byte Escaped) bs) ≡ true
plain_escapes [] small = refl
plain_escapes (b ∷ bs) small =
    list_all-append is_plain (escaped_byte Escaped b) (flat_map (escaped_byte Escaped) bs)
    ∙ both_true (agree_below_at (λ b. list_all is_plain (escaped_byte Escaped b)) (λ b. true) 256 b all_plain small.0) (plain_escapes bs small.1)
