-- The names directly below a folder, path by path.
use Rattle.std.proofs.Common.{◌≡◌, ◌≢◌, ℕ, ◌+◌, ◌<◌, ◌≤◌, ◌⊎◌, inl, inr, ⊎_elim, List, [], ◌∷◌, ◌++◌, length, get_or, take, drop, refl, sym, ap, ◌∙◌, subst, arith, append-nil, lit<}
use Rattle.std.specs.Prelude.{Contains, Any, All, ◌↔◌, encode_utf8_all}
use Rattle.std.specs.Str.{chars, IsUtf8}
use Rattle.std.proofs.lemmas.Bool.{cases_lt}
use Rattle.std.proofs.lemmas.List.{append_cancel_left, get_or_append_left, take-append-drop, drop_more, take_more, get_or_push, length_push, get_or_default, take_all}
use Rattle.std.proofs.lemmas.List.Elements.{All-head, All-tail, All-contains}
use Rattle.std.proofs.lemmas.List.Quantifiers.{Any-push}
use Rattle.std.proofs.lemmas.Str.{chars-append, encodes-append, IsUtf8-from_ascii, chars-IsAscii}
use Rattle.std.proofs.lemmas.Str.Ascii.{IsAscii-cons, IsAscii-nil}
use Rattle.aws_world.specs.FileTree.{IsBelow, HasBelow, EndsPart, IsThrough, IsFirstPart, IsChild}

-- some item of a list, in a longer one
any_left : {X : Type 0} (P : X → Type 0) (xs : List X) (y : X) → Any P xs → Any P (xs ++ y ∷ [])
any_left P xs y h =
    let within : h.0 < length (xs ++ y ∷ []) = omega (arith, length_push xs y, h.2) in
    (h.0, h.1, within, get_or_append_left xs (y ∷ []) h.1 h.0 h.2 ∙ h.3, h.4)

any_push_cases : {X : Type 0} (P : X → Type 0) (xs : List X) (y : X) → Any P (xs ++ y ∷ []) → Any P xs ⊎ P y
any_push_cases P xs y h =
    ⊎_elim (λ (lt : h.0 < length xs). inl (h.0, h.1, lt, sym (get_or_append_left xs (y ∷ []) h.1 h.0 lt) ∙ h.3, h.4))
    (λ (le : length xs ≤ h.0). let at : length xs ≡ h.0 = omega (arith, length_push xs y, h.2) in inr (subst P (sym h.3 ∙ get_or_push xs y h.1 h.0 at) h.4))
    (cases_lt h.0 (length xs))

-- the first part is one
pub same_part : (p q r s : List ℕ) → p ++ r ≡ q ++ s → EndsPart r → EndsPart s → All (λ c. c ≢ 47) p → All (λ c. c ≢ 47) q → p ≡ q
same_part [] [] r s e f g h k = refl
same_part [] (y ∷ q) [] s e f g h k = cc
same_part [] (y ∷ q) (x ∷ r) s e f g h k = let e' : x ≡ y = cc in absurd (All-head (λ c. c ≢ 47) y q k (sym e' ∙ f))
same_part (x ∷ p) [] r [] e f g h k = cc
same_part (x ∷ p) [] r (y ∷ s) e f g h k = let e' : x ≡ y = cc in absurd (All-head (λ c. c ≢ 47) x p h (e' ∙ g))
same_part (x ∷ p) (y ∷ q) r s e f g h k =
    let head : x ≡ y = cc in
    let tail : p ++ r ≡ q ++ s = cc in
    let rest = same_part p q r s tail f g (All-tail (λ c. c ≢ 47) x p h) (All-tail (λ c. c ≢ 47) y q k) in
    cc

-- cut at the first '/'
pub first_part_at : (cs part : List ℕ) (n c : ℕ) → part ≡ take n cs → All (λ c. c ≢ 47) part → (n < length cs) × (c ≡ get_or cs n c) → c ≡ 47 → IsFirstPart cs part
first_part_at cs part n c e whole at slash =
    let next : drop n cs ≡ 47 ∷ drop (n + 1) cs = drop_more cs n c at.0 ∙ ap (λ d. d ∷ drop (n + 1) cs) (sym at.1 ∙ slash) in
    record {
      rest = 47 ∷ drop (n + 1) cs;
      cut = sym (take-append-drop n cs) ∙ ap (λ p. p ++ drop n cs) (sym e) ∙ ap (λ r. part ++ r) next;
      ends = refl;
      whole = whole;
    }

-- a path without '/' is its first part
pub first_part_whole : (cs part : List ℕ) (n : ℕ) → part ≡ take n cs → All (λ c. c ≢ 47) part → n ≡ length cs → IsFirstPart cs part
first_part_whole cs part n e whole all = record { rest = []; cut = sym (append-nil part ∙ e ∙ take_all n cs (omega arith)); ends = tt; whole = whole }

-- a name that a path goes through is the path's first part below the folder
through_first : (folder cs name part path : List ℕ) → path ≡ folder ++ 47 ∷ cs → IsFirstPart cs part → IsThrough folder name path → ¬ Contains name 47 → name ≡ part
through_first folder cs name part path e first through one =
    let here : folder ++ 47 ∷ cs ≡ folder ++ 47 ∷ (name ++ through.0) = sym e ∙ through.1 in
    let tail : 47 ∷ cs ≡ 47 ∷ (name ++ through.0) = append_cancel_left folder _ _ here in
    let joined : name ++ through.0 ≡ part ++ first.rest = let f = first.cut in cc in
    let others : All (λ c. c ≢ 47) name = λ k d lt f. one (k, lt, get_or_default name k 47 d lt ∙ f) in
    same_part name part through.0 first.rest joined through.2 first.ends others first.whole

-- a path outside the folder adds no name
pub child_outside : (folder : List ℕ) (fs : List (List ℕ × List ℕ)) (f : List ℕ × List ℕ) (name : List ℕ) → ¬ IsBelow folder f.0
    → IsChild folder (fs ++ f ∷ []) name → IsChild folder fs name
child_outside folder fs f name out child =
    let P : List ℕ × List ℕ → Type 0 = λ file. IsThrough folder name file.0 in
    record {
      some = child.some;
      one_part = child.one_part;
      leads = ⊎_elim (λ l. l) (λ (t : P f). absurd (out (name ++ t.0, t.1))) (any_push_cases P fs f child.leads);
    }

-- a path below the folder adds its first part
pub child_cases : (folder : List ℕ) (fs : List (List ℕ × List ℕ)) (f : List ℕ × List ℕ) (cs part name : List ℕ) → f.0 ≡ folder ++ 47 ∷ cs → IsFirstPart cs part
    → IsChild folder (fs ++ f ∷ []) name → IsChild folder fs name ⊎ ((name ≡ part) × (part ≢ []))
child_cases folder fs f cs part name e first child =
    let P : List ℕ × List ℕ → Type 0 = λ file. IsThrough folder name file.0 in
    ⊎_elim (λ (l : Any P fs). inl (record { some = child.some; one_part = child.one_part; leads = l }))
    (λ (t : P f). let same = through_first folder cs name part f.0 e first t child.one_part in inr (same, λ none. child.some (same ∙ none)))
    (any_push_cases P fs f child.leads)

-- the names of more files
pub child_left : (folder : List ℕ) (fs : List (List ℕ × List ℕ)) (f : List ℕ × List ℕ) (name : List ℕ) → IsChild folder fs name → IsChild folder (fs ++ f ∷ []) name
child_left folder fs f name child =
    record { some = child.some; one_part = child.one_part; leads = any_left (λ file. IsThrough folder name file.0) fs f child.leads }

pub child_here : (folder : List ℕ) (fs : List (List ℕ × List ℕ)) (f : List ℕ × List ℕ) (cs part : List ℕ) → f.0 ≡ folder ++ 47 ∷ cs → IsFirstPart cs part
    → part ≢ [] → IsChild folder (fs ++ f ∷ []) part
child_here folder fs f cs part e first some =
    record {
      some = some;
      one_part = λ h. All-contains (λ c. c ≢ 47) part 47 first.whole h refl;
      leads = Any-push (λ file. IsThrough folder part file.0) fs f (first.rest, e ∙ ap (λ r. folder ++ 47 ∷ r) first.cut, first.ends);
    }

-- no path lies below, also not this one
pub none_below : (folder : List ℕ) (fs : List (List ℕ × List ℕ)) (f : List ℕ × List ℕ) → ¬ IsBelow folder f.0 → HasBelow folder (fs ++ f ∷ []) → HasBelow folder fs
none_below folder fs f out below =
    ⊎_elim (λ l. l) (λ (t : IsBelow folder f.0). absurd (out t)) (any_push_cases (λ file. IsBelow folder file.0) fs f below)

pub below_left : (folder : List ℕ) (fs : List (List ℕ × List ℕ)) (f : List ℕ × List ℕ) → HasBelow folder fs → HasBelow folder (fs ++ f ∷ [])
below_left folder fs f below = any_left (λ file. IsBelow folder file.0) fs f below

pub below_here : (folder : List ℕ) (fs : List (List ℕ × List ℕ)) (f : List ℕ × List ℕ) (cs : List ℕ) → f.0 ≡ folder ++ 47 ∷ cs → HasBelow folder (fs ++ f ∷ [])
below_here folder fs f cs e = Any-push (λ file. IsBelow folder file.0) fs f (cs, e)

-- what the bytes of a path say of its characters
pub below_from_bytes : (folder path fbytes pbytes rest tail : List ℕ) → chars fbytes ≡ folder → chars pbytes ≡ path → IsUtf8 fbytes → pbytes ≡ fbytes ++ rest
    → rest ≡ 47 ∷ tail → path ≡ folder ++ 47 ∷ chars tail
below_from_bytes folder path fbytes pbytes rest tail ef ep u e f =
    let ascii = IsAscii-cons 47 [] (lit< tt) IsAscii-nil in
    let slash : chars (47 ∷ tail) ≡ 47 ∷ chars tail = chars-append (47 ∷ []) tail (IsUtf8-from_ascii (47 ∷ []) ascii) ∙ ap (λ r. r ++ chars tail) (chars-IsAscii (47 ∷ []) ascii) in
    sym ep ∙ ap chars (e ∙ ap (λ r. fbytes ++ r) f) ∙ chars-append fbytes (47 ∷ tail) u ∙ ap (λ r. r ++ chars (47 ∷ tail)) ef ∙ ap (λ r. folder ++ r) slash

pub bytes_below : (folder path fbytes pbytes : List ℕ) → fbytes ≡ encode_utf8_all folder → pbytes ≡ encode_utf8_all path → IsBelow folder path
    → (tail : List ℕ) × (pbytes ≡ fbytes ++ 47 ∷ tail)
unfolding lib.Utf8.encode
bytes_below folder path fbytes pbytes ef ep below =
    (encode_utf8_all below.0, ep ∙ ap encode_utf8_all below.1 ∙ encodes-append folder (47 ∷ below.0) ∙ ap (λ b. b ++ encode_utf8_all (47 ∷ below.0)) (sym ef))

-- one more character of the first part
pub part_more : (cs part seen : List ℕ) (c : ℕ) → part ≡ take (length seen) cs → (length seen < length cs) × (c ≡ get_or cs (length seen) c)
    → part ++ c ∷ [] ≡ take (length (seen ++ c ∷ [])) cs
part_more cs part seen c e at =
    ap (λ p. p ++ c ∷ []) e ∙ ap (λ d. take (length seen) cs ++ d ∷ []) at.1 ∙ sym (take_more cs (length seen) c at.0) ∙ sym (ap (λ n. take n cs) (length_push seen c))

-- the names stay the children where a path lies outside
pub exact_outside : (folder : List ℕ) (fs : List (List ℕ × List ℕ)) (f : List ℕ × List ℕ) (names : List (List ℕ)) → ¬ IsBelow folder f.0
    → ((name : List ℕ) → Contains names name ↔ IsChild folder fs name) → (name : List ℕ) → Contains names name ↔ IsChild folder (fs ++ f ∷ []) name
exact_outside folder fs f names out exact name =
    (λ h. child_left folder fs f name ((exact name).0 h), λ h. (exact name).1 (child_outside folder fs f name out h))

-- and with the first part added where it lies below
pub exact_below : (folder : List ℕ) (fs : List (List ℕ × List ℕ)) (f : List ℕ × List ℕ) (names more : List (List ℕ)) (cs part : List ℕ) → f.0 ≡ folder ++ 47 ∷ cs
    → IsFirstPart cs part → ((name : List ℕ) → Contains names name ↔ IsChild folder fs name)
    → ((other : List ℕ) → Contains more other ↔ (Contains names other ⊎ ((other ≡ part) × (part ≢ []))))
    → (name : List ℕ) → Contains more name ↔ IsChild folder (fs ++ f ∷ []) name
exact_below folder fs f names more cs part e first exact added name = (
  λ h. ⊎_elim (λ (l : Contains names name). child_left folder fs f name ((exact name).0 l))
      (λ (r : (name ≡ part) × (part ≢ [])). subst (IsChild folder (fs ++ f ∷ [])) (sym r.0) (child_here folder fs f cs part e first r.1))
      ((added name).0 h),
  λ h. (added name).1 (⊎_elim (λ (l : IsChild folder fs name). inl ((exact name).1 l)) (λ (r : (name ≡ part) × (part ≢ [])). inr r) (child_cases folder fs f cs part name e first h)),
)
