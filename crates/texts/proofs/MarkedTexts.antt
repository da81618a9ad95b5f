-- Texts around a mark in ASCII, by their bytes and by their characters.
use Rattle.std.proofs.Common.{◌≡◌, ◌≢◌, ◌<◌, ℕ, Bool, List, [], ◌∷◌, ◌++◌, length, take, drop, get_or, refl, sym, ap, ◌∙◌, subst, arith, Option, None, Some}
use Rattle.std.specs.Prelude.{encode_utf8_all, nat_eq, option_map}
use Rattle.std.specs.Option.{MatchOption}
use Rattle.std.specs.Str.{chars, IsUtf8, NonePass, NoCharPasses}
use Rattle.std.proofs.lemmas.Bool.{cond-true, cond-false, eq-eqb, ne_eqb}
use Rattle.std.proofs.lemmas.List.{take-append-drop}
use Rattle.std.proofs.lemmas.Str.{chars-append, encodes-chars, encode_ascii, encodes-append, chars_past_char, chars_from_encodes, chars-nil, IsUtf8-take, IsUtf8-drop, IsCharBoundary-before_ascii}
use Rattle.std.proofs.lemmas.Str.Pattern.{IsSplitOnceResult, drop_at_char}
use Rattle.std.proofs.Common.{length-append}
use Rattle.std.proofs.Math.Seq.{take-append_seam, drop-append_seam, get_or-append_seam}
use Rattle.std.specs.Str.{IsCharBoundary}
use denote.Ref.{Bor}
use Rattle.texts.specs.Calls.{Finds}
use Rattle.texts.specs.Marks.{around_first, without_first, without_last}

-- bytes that begin with a character in ASCII
pub chars_cons : (c : ℕ) (bs rest : List ℕ) → IsUtf8 bs → c < 128 → bs ≡ c ∷ rest → chars bs ≡ c ∷ chars rest
chars_cons c bs rest utf8 low is = chars_past_char bs rest c utf8 (is ∙ ap (λ e. e ++ rest) (sym (encode_ascii c low)))

pub encodes_cons : (c : ℕ) (cs : List ℕ) → c < 128 → encode_utf8_all (c ∷ cs) ≡ c ∷ encode_utf8_all cs
encodes_cons c cs low = ap (λ e. e ++ encode_utf8_all cs) (encode_ascii c low)

-- at the start

first_there : (mark : ℕ) (cs : List ℕ) → without_first mark (mark ∷ cs) ≡ Some cs
first_there mark cs = cond-true (nat_eq mark mark) (Some cs) None (eq-eqb mark mark refl)

first_absent : (mark : ℕ) (cs : List ℕ) → ((rest : List ℕ) → cs ≢ mark ∷ rest) → without_first mark cs ≡ None
first_absent mark [] absent = refl
first_absent mark (c ∷ cs) absent = cond-false (nat_eq c mark) (Some cs) None (ne_eqb c mark (λ same. absent cs (ap (λ d. d ∷ cs) same)))

pub finds_first : (mark : ℕ) (bs : List ℕ) (r : Option (Bor (List ℕ))) → IsUtf8 bs → mark < 128
    → MatchOption r ((rest : List ℕ) → bs ≢ mark ∷ rest) (λ x. bs ≡ mark ∷ x.now) → Finds (λ (x : Bor (List ℕ)). chars x.now) r (without_first mark (chars bs))
finds_first mark bs None utf8 low absent =
    first_absent mark (chars bs) (λ rest is. absent (encode_utf8_all rest) (sym (encodes-chars bs utf8) ∙ ap encode_utf8_all is ∙ encodes_cons mark rest low))
finds_first mark bs (Some x) utf8 low is = ap (without_first mark) (chars_cons mark bs x.now utf8 low is) ∙ first_there mark (chars x.now)

-- at the end

last_there : (mark : ℕ) (cs : List ℕ) → without_last mark (cs ++ mark ∷ []) ≡ Some cs
last_there mark [] = cond-true (nat_eq mark mark) (Some []) None (eq-eqb mark mark refl)
last_there mark (c ∷ []) = ap (option_map (λ (front : List ℕ). c ∷ front)) (last_there mark [])
last_there mark (c ∷ d ∷ ds) = ap (option_map (λ (front : List ℕ). c ∷ front)) (last_there mark (d ∷ ds))

last_absent : (mark : ℕ) (cs : List ℕ) → ((front : List ℕ) → cs ≢ front ++ mark ∷ []) → without_last mark cs ≡ None
last_absent mark [] absent = refl
last_absent mark (c ∷ []) absent = cond-false (nat_eq c mark) (Some []) None (ne_eqb c mark (λ same. absent [] (ap (λ d. d ∷ []) same)))
last_absent mark (c ∷ d ∷ ds) absent =
    ap (option_map (λ (front : List ℕ). c ∷ front)) (last_absent mark (d ∷ ds) (λ front is. absent (c ∷ front) (ap (λ cs. c ∷ cs) is)))

-- what stands before a character in ASCII is a text, and so is what begins with it
front_utf8 : (mark : ℕ) (bs front rest : List ℕ) → IsUtf8 bs → mark < 128 → bs ≡ front ++ mark ∷ rest → IsUtf8 front × IsUtf8 (mark ∷ rest)
front_utf8 mark bs front rest utf8 low is =
    let within : length front < length bs = omega (arith, ap length is, length-append front (mark ∷ rest)) in
    let at : get_or bs (length front) 0 ≡ mark = ap (λ e. get_or e (length front) 0) is ∙ get_or-append_seam front mark rest 0 in
    let boundary : IsCharBoundary bs (length front) = IsCharBoundary-before_ascii bs (length front) within (omega (arith, at)) in (
      subst IsUtf8 (ap (take (length front)) is ∙ take-append_seam front (mark ∷ rest)) (IsUtf8-take bs (length front) utf8 boundary),
      subst IsUtf8 (ap (drop (length front)) is ∙ drop-append_seam front (mark ∷ rest)) (IsUtf8-drop bs (length front) utf8 boundary),
    )

pub finds_last : (mark : ℕ) (bs : List ℕ) (r : Option (Bor (List ℕ))) → IsUtf8 bs → mark < 128
    → MatchOption r ((front : List ℕ) → bs ≢ front ++ mark ∷ []) (λ x. bs ≡ x.now ++ mark ∷ []) → Finds (λ (x : Bor (List ℕ)). chars x.now) r (without_last mark (chars bs))
finds_last mark bs None utf8 low absent =
    last_absent mark (chars bs) (λ front is. absent (encode_utf8_all front)
    (sym (encodes-chars bs utf8) ∙ ap encode_utf8_all is ∙ encodes-append front (mark ∷ []) ∙ ap (λ e. encode_utf8_all front ++ e) (encodes_cons mark [] low)))
finds_last mark bs (Some x) utf8 low is =
    let parts : IsUtf8 x.now × IsUtf8 (mark ∷ []) = front_utf8 mark bs x.now [] utf8 low is in
    ap (without_last mark) (ap chars is ∙ chars-append x.now (mark ∷ []) parts.0 ∙ ap (λ e. chars x.now ++ e) (chars_cons mark (mark ∷ []) [] parts.1 low refl ∙ ap (λ e. mark ∷ e) chars-nil))
    ∙ last_there mark (chars x.now)

-- around the first

around_there : (mark : ℕ) (front rest : List ℕ) → NonePass (λ c. nat_eq c mark) front → around_first mark (front ++ mark ∷ rest) ≡ Some (front, rest)
around_there mark [] rest none = cond-true (nat_eq mark mark) (Some ([], rest)) _ (eq-eqb mark mark refl)
around_there mark (c ∷ cs) rest none =
    cond-false (nat_eq c mark) (Some ([], cs ++ mark ∷ rest)) _ none.0
    ∙ ap (option_map (λ (halves : List ℕ × List ℕ). (c ∷ halves.0, halves.1))) (around_there mark cs rest none.1)

around_absent : (mark : ℕ) (cs : List ℕ) → NonePass (λ c. nat_eq c mark) cs → around_first mark cs ≡ None
around_absent mark [] none = refl
around_absent mark (c ∷ cs) none =
    cond-false (nat_eq c mark) (Some ([], cs)) _ none.0 ∙ ap (option_map (λ (halves : List ℕ × List ℕ). (c ∷ halves.0, halves.1))) (around_absent mark cs none.1)

-- the characters of a text that has none like this
none_in : (p : ℕ → Bool) (bs : List ℕ) → IsUtf8 bs → NoCharPasses p bs → NonePass p (chars bs)
none_in p bs utf8 none = subst (NonePass p) (chars_from_encodes none.0 bs utf8 none.1) none.2

pub finds_around : (mark : ℕ) (bs : List ℕ) (r : Option (Bor (List ℕ) × Bor (List ℕ))) → IsUtf8 bs → mark < 128 → IsSplitOnceResult mark bs r
    → Finds (λ (x : Bor (List ℕ) × Bor (List ℕ)). (chars x.0.now, chars x.1.now)) r (around_first mark (chars bs))
finds_around mark bs None utf8 low none = around_absent mark (chars bs) (none_in (λ c. nat_eq c mark) bs utf8 none)
finds_around mark bs (Some x) utf8 low (i, j, found, front, behind, below, before, after) =
    let seam : drop i bs ≡ mark ∷ drop j bs = drop_at_char mark bs i j found.1 low in
    let is : bs ≡ x.0.now ++ mark ∷ x.1.now = sym (take-append-drop i bs) ∙ ap (λ e. take i bs ++ e) seam ∙ ap (λ e. e ++ mark ∷ drop j bs) (sym front) ∙ ap (λ e. x.0.now ++ mark ∷ e) (sym behind) in
    let parts : IsUtf8 x.0.now × IsUtf8 (mark ∷ x.1.now) = front_utf8 mark bs x.0.now x.1.now utf8 low is in
    let none : NonePass (λ c. nat_eq c mark) (chars x.0.now) = none_in (λ c. nat_eq c mark) x.0.now parts.0 (subst (NoCharPasses (λ c. nat_eq c mark)) (sym front) found.0) in
    ap (around_first mark) (ap chars is ∙ chars-append x.0.now (mark ∷ x.1.now) parts.0 ∙ ap (λ e. chars x.0.now ++ e) (chars_cons mark (mark ∷ x.1.now) x.1.now parts.1 low refl))
    ∙ around_there mark (chars x.0.now) (chars x.1.now) none
