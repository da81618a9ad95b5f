-- The plain words in front of the next option, and what is behind them.
use Rattle.std.proofs.Common.{◌≡◌, ℕ, ◌+◌, ◌<◌, ◌≤◌, true, false, List, [], ◌∷◌, length, get_or, take, drop, Option, None, Some, if◌then◌else◌, refl, sym, ap, ◌∙◌, arith}
use Rattle.std.proofs.lemmas.List.{at_drop_more, drop_all}
use Rattle.std.proofs.lemmas.List.Elements.{All-from_get_or}
use Rattle.std.proofs.lemmas.List.Folds.{list_any_none}
use Rattle.std.proofs.lemmas.List.Sums.{fails_before_first}
use Rattle.std.proofs.Math.Numerals.{one-add}
use Rattle.std.proofs.Math.Seq.{take-length}
use Rattle.std.specs.List.{list_any, before_first, after_first, position_or_len}
use Rattle.std.specs.Prelude.{encode_utf8_all}
use Rattle.std.specs.Str.{chars}
use Rattle.arg_table.specs.declared.words.OptionWord.{OptionWord}
use Rattle.arg_table.specs.Words.{before, cut, is_option, option_of, option_in, joined_in, is_equals_sign}

-- the words of an option without a `=` are its name
pub without_equals : (bs : List ℕ) → position_or_len is_equals_sign bs ≡ length bs → option_in bs ≡ record { name = chars bs; joined = None }
without_equals bs none =
    let absent : list_any is_equals_sign bs ≡ false =
    list_any_none is_equals_sign bs
    (All-from_get_or (λ b. is_equals_sign b ≡ false) bs 0 (λ i h. fails_before_first is_equals_sign bs i 0 (omega (arith, none, h)))) in
    let whole : before_first is_equals_sign bs ≡ bs = ap (λ n. take n bs) none ∙ take-length bs in
    ap (λ t. record { name = chars t; joined = joined_in bs }) whole
    ∙ ap (λ b. record { name = chars bs; joined = if b then Some (chars (after_first is_equals_sign bs)) else None }) absent

-- the plain words in front
pub plain_front : (ws : List (List ℕ)) → take (length (cut ws).plain) ws ≡ (cut ws).plain
plain_front [] = refl
plain_front (w ∷ ws) = by (option_of w) (plain_front ws)
  where
    by : (o : Option OptionWord) → take (length (cut ws).plain) ws ≡ (cut ws).plain → take (length (before w o (cut ws)).plain) (w ∷ ws) ≡ (before w o (cut ws)).plain
    by None front = ap (λ r. w ∷ r) front
    by (Some o) front = refl

-- the words behind them begin with an option
pub groups_behind : (ws : List (List ℕ)) → cut (drop (length (cut ws).plain) ws) ≡ record { plain = []; groups = (cut ws).groups }
groups_behind [] = refl
groups_behind (w ∷ ws) = by (option_of w) refl (groups_behind ws)
  where
    by : (o : Option OptionWord) → option_of w ≡ o → cut (drop (length (cut ws).plain) ws) ≡ record { plain = []; groups = (cut ws).groups }
        → cut (drop (length (before w o (cut ws)).plain) (w ∷ ws)) ≡ record { plain = []; groups = (before w o (cut ws)).groups }
    by None is behind = behind
    by (Some o) is behind = ap (λ p. before w p (cut ws)) is

pub plain_within : (ws : List (List ℕ)) → length (cut ws).plain ≤ length ws
plain_within [] = omega arith
plain_within (w ∷ ws) = by (option_of w) (plain_within ws)
  where
    by : (o : Option OptionWord) → length (cut ws).plain ≤ length ws → length (before w o (cut ws)).plain ≤ length (w ∷ ws)
    by None within = omega arith
    by (Some o) within = omega arith

is_plain : (w : List ℕ) → is_option w ≡ false → option_of w ≡ None
is_plain w is = ap (λ b. if b then Some (option_in (drop 2 (encode_utf8_all w))) else None) is

is_some_option : (w : List ℕ) → is_option w ≡ true → option_of w ≡ Some (option_in (drop 2 (encode_utf8_all w)))
is_some_option w is = ap (λ b. if b then Some (option_in (drop 2 (encode_utf8_all w))) else None) is

-- an option ends the plain words
pub plain_ends : (ws : List (List ℕ)) (i : ℕ) (w : List ℕ) → i < length ws → w ≡ get_or ws i w → is_option w ≡ true → length (cut (drop i ws)).plain ≡ 0
plain_ends ws i w within is option =
    at_drop_more (λ vs. length (cut vs).plain) ws i w within ∙ ap (λ v. length (cut (v ∷ drop (i + 1) ws)).plain) (sym is)
    ∙ ap (λ o. length (before w o (cut (drop (i + 1) ws))).plain) (is_some_option w option)

-- and another word doesn't
pub plain_goes : (ws : List (List ℕ)) (i : ℕ) (w : List ℕ) → i < length ws → w ≡ get_or ws i w → is_option w ≡ false
    → length (cut (drop i ws)).plain ≡ 1 + length (cut (drop (i + 1) ws)).plain
plain_goes ws i w within is plain =
    rw one-add
    (at_drop_more (λ vs. length (cut vs).plain) ws i w within ∙ ap (λ v. length (cut (v ∷ drop (i + 1) ws)).plain) (sym is)
    ∙ ap (λ o. length (before w o (cut (drop (i + 1) ws))).plain) (is_plain w plain))

pub plain_of_none : (ws : List (List ℕ)) (i : ℕ) → length ws ≤ i → length (cut (drop i ws)).plain ≡ 0
plain_of_none ws i past = ap (λ vs. length (cut vs).plain) (drop_all i ws past)
