-- Which arguments clash with another one, by what is counted of all.
use Rattle.std.proofs.Common.{◌≡◌, ℕ, suc, zero, ◌+◌, ◌<◌, Bool, true, false, cond, ◌&&◌, ◌||◌, List, [], ◌∷◌, length, get_or, take, drop, Some, count_by, nat_lt, codes, refl, sym, ap, ◌∙◌, ⊎_elim, arith, length-append}
use Rattle.std.specs.List.{find, list_any}
use Rattle.std.specs.Str.{bytes_eq}
use Rattle.std.proofs.lemmas.Bool.{false_from_ne_true, true≢false, and_parts, or_cases}
use Rattle.std.proofs.lemmas.Bool.Decides.{nat_tests, same_from_decides}
use Rattle.std.proofs.lemmas.List.{at_drop_more}
use Rattle.std.proofs.lemmas.List.Folds.{list_any_more}
use Rattle.std.proofs.lemmas.Slice.Eq.{bytes_eq-Decides}
use Rattle.std.proofs.lemmas.List.Sums.{sum_by-cons, sum_by_more}
use Rattle.service_model.specs.declared.arguments.Argument.{Argument}
use Rattle.service_model.specs.declared.arguments.Usage.{Usage}
use Rattle.service_model.specs.Arguments.{negation_of, negates, is_shared}
use Rattle.service_model.specs.Inside.{IsUsage}

one_of_two : (p q : Bool) → (p ≡ true → q ≡ false) → cond (p || q) 1 0 ≡ cond p 1 0 + cond q 1 0
one_of_two true true apart = absurd (true≢false (apart refl))
one_of_two true false apart = refl
one_of_two false true apart = refl
one_of_two false false apart = refl

any_or_more : (b : Bool) (n : ℕ) (r : Bool) → nat_lt 0 n ≡ r → nat_lt 0 (cond b 1 0 + n) ≡ (b || r)
any_or_more true n r is = grind (arith, nat_tests)
any_or_more false n r is = grind (arith, nat_tests)

second_of : (b : Bool) (n : ℕ) → nat_lt 1 (n + cond b 1 0) ≡ (nat_lt 1 n || b && nat_lt 0 n)
second_of true n = grind (arith, nat_tests)
second_of false n = grind (arith, nat_tests)

module _ {X : Type 0} where
  counted : (p : X → Bool) (x : X) (xs : List X) → count_by p (x ∷ xs) ≡ cond (p x) 1 0 + count_by p xs
  counted p x xs = sum_by-cons (λ y. cond (p y) 1 0) x xs

  -- of two tests that don't hold together
  count_apart : (p q : X → Bool) → ((x : X) → p x ≡ true → q x ≡ false) → (xs : List X) → count_by (λ x. p x || q x) xs ≡ count_by p xs + count_by q xs
  count_apart p q apart [] = refl
  count_apart p q apart (x ∷ xs) =
      let one = one_of_two (p x) (q x) (apart x) in
      let rest = count_apart p q apart xs in
      omega (arith, counted (λ y. p y || q y) x xs, counted p x xs, counted q x xs, one, rest)

  pub counted_any : (p : X → Bool) (xs : List X) → nat_lt 0 (count_by p xs) ≡ list_any p xs
  counted_any p [] = refl
  counted_any p (x ∷ xs) = ap (λ n. nat_lt 0 n) (counted p x xs) ∙ any_or_more (p x) (count_by p xs) (list_any p xs) (counted_any p xs)

  counted_at : (p : X → Bool) (xs : List X) (i : ℕ) (d : X) → i < length xs → p (get_or xs i d) ≡ true → 0 < count_by p xs
  counted_at p [] i d within holds = absurd (omega (arith, within))
  counted_at p (x ∷ xs) zero d within holds = omega (arith, counted p x xs, ap {B = ℕ} (λ b. cond b 1 0) holds)
  counted_at p (x ∷ xs) (suc i) d within holds = omega (arith, counted p x xs, counted_at p xs i d (omega arith) holds)

  pub find_at : (p : X → Bool) (xs : List X) (i : ℕ) (x : X) → i < length xs → x ≡ get_or xs i x → p x ≡ true → find p (drop i xs) ≡ Some x
  find_at p xs i x within is holds =
      at_drop_more (find p) xs i x within ∙ ap (λ y. cond (p y) (Some y) (find p (drop (i + 1) xs))) (sym is)
      ∙ ap (λ b. cond b (Some x) (find p (drop (i + 1) xs))) holds

  pub find_past : (p : X → Bool) (xs : List X) (i : ℕ) (x : X) → i < length xs → x ≡ get_or xs i x → p x ≡ false → find p (drop i xs) ≡ find p (drop (i + 1) xs)
  find_past p xs i x within is fails =
      at_drop_more (find p) xs i x within ∙ ap (λ y. cond (p y) (Some y) (find p (drop (i + 1) xs))) (sym is)
      ∙ ap (λ b. cond b (Some x) (find p (drop (i + 1) xs))) fails

  -- one more item is looked at
  pub any_more : (p : X → Bool) (xs : List X) (i : ℕ) (x : X) (before after : Bool) → i < length xs → x ≡ get_or xs i x
      → before ≡ list_any p (take i xs) → after ≡ (before || p x) → after ≡ list_any p (take (i + 1) xs)
  any_more p xs i x before after within is so_far more =
      more ∙ ap (λ b. b || p x) so_far ∙ ap (λ y. list_any p (take i xs) || p y) is ∙ sym (list_any_more p xs i x within)

  -- and counted
  pub second_more : (p : X → Bool) (xs : List X) (i : ℕ) (x : X) (before there after : Bool) → i < length xs → x ≡ get_or xs i x
      → before ≡ nat_lt 1 (count_by p (take i xs)) → there ≡ list_any p (take i xs) → after ≡ (before || p x && there) → after ≡ nat_lt 1 (count_by p (take (i + 1) xs))
  second_more p xs i x before there after within is twice once more =
      more ∙ ap (λ b. b || p x && there) twice ∙ ap (λ b. nat_lt 1 (count_by p (take i xs)) || p x && b) (once ∙ sym (counted_any p (take i xs)))
      ∙ ap (λ y. nat_lt 1 (count_by p (take i xs)) || p y && nat_lt 0 (count_by p (take i xs))) is
      ∙ sym (second_of (p (get_or xs i x)) (count_by p (take i xs))) ∙ sym (ap (λ n. nat_lt 1 n) (sum_by_more (λ y. cond (p y) 1 0) xs i x within))

-- no name is its own `no-` form
longer : (name : List ℕ) → name ≡ negation_of name → ⊥
longer name same = absurd (omega (arith, ap length same, length-append (codes "no-") name))

-- nor do two names have each other's `no-` forms
longer_twice : (name other : List ℕ) → name ≡ negation_of other → other ≡ negation_of name → ⊥
longer_twice name other one two = absurd (omega (arith, ap length one, ap length two, length-append (codes "no-") name, length-append (codes "no-") other))

same_name : (a b : List ℕ) → bytes_eq a b ≡ true → a ≡ b
same_name a b = (bytes_eq-Decides a b).0

apart_name : (a b : Argument) → bytes_eq a.name b.name ≡ true → (negates a b || negates b a) ≡ false
apart_name a b same =
    false_from_ne_true (negates a b || negates b a) (λ holds. ⊎_elim (λ one. longer b.name (sym (same_name a.name b.name same) ∙ same_name a.name (negation_of b.name) (and_parts b.is_flag (bytes_eq a.name (negation_of b.name)) one).1))
    (λ two. longer a.name (same_name a.name b.name same ∙ same_name b.name (negation_of a.name) (and_parts a.is_flag (bytes_eq b.name (negation_of a.name)) two).1)) (or_cases (negates a b) (negates b a) holds))

apart_forms : (a b : Argument) → negates a b ≡ true → negates b a ≡ false
apart_forms a b one =
    false_from_ne_true (negates b a) (λ two. longer_twice a.name b.name (same_name a.name (negation_of b.name) (and_parts b.is_flag (bytes_eq a.name (negation_of b.name)) one).1)
    (same_name b.name (negation_of a.name) (and_parts a.is_flag (bytes_eq b.name (negation_of a.name)) two).1))

two_of : (same one two : ℕ) → 0 < same → nat_lt 1 (same + (one + two)) ≡ (nat_lt 1 same || (nat_lt 0 one || nat_lt 0 two))
two_of same one two some = grind (arith, nat_tests)

swapped : (a b : List ℕ) → bytes_eq a b ≡ bytes_eq b a
swapped a b = same_from_decides (bytes_eq a b) (bytes_eq b a) (bytes_eq-Decides a b)
    ((λ same. sym ((bytes_eq-Decides b a).0 same)), (λ same. (bytes_eq-Decides b a).1 (sym same)))

any_flag : (flag : Bool) (form : List ℕ) (bs : List Argument) → list_any (λ b. flag && bytes_eq b.name form) bs ≡ (flag && list_any (λ b. bytes_eq form b.name) bs)
any_flag true form [] = refl
any_flag false form [] = refl
any_flag true form (b ∷ bs) = ap (λ r. bytes_eq b.name form || r) (any_flag true form bs) ∙ ap (λ t. t || list_any (λ c. bytes_eq form c.name) bs) (swapped b.name form)
any_flag false form (b ∷ bs) = any_flag false form bs

-- an argument clashes with another one if its name is repeated or is a `no-` form, or its own `no-` form is a name
pub shared_by_kinds : (args : List Argument) (i : ℕ) (a : Argument) → i < length args → a ≡ get_or args i a
    → is_shared args a ≡ (nat_lt 1 (count_by (λ b. bytes_eq a.name b.name) args) || (list_any (λ b. b.is_flag && bytes_eq a.name (negation_of b.name)) args || a.is_flag && list_any (λ b. bytes_eq (negation_of a.name) b.name) args))
shared_by_kinds args i a within is =
    let some : 0 < count_by (λ b. bytes_eq a.name b.name) args = counted_at (λ b. bytes_eq a.name b.name) args i a within ((bytes_eq-Decides a.name (get_or args i a).name).1 (ap (λ b. b.name) is)) in
    ap (λ n. nat_lt 1 n) (count_apart (λ b. bytes_eq a.name b.name) (λ b. negates a b || negates b a) (apart_name a) args
    ∙ ap (λ n. count_by (λ b. bytes_eq a.name b.name) args + n) (count_apart (negates a) (λ b. negates b a) (apart_forms a) args))
    ∙ two_of (count_by (λ b. bytes_eq a.name b.name) args) (count_by (negates a) args) (count_by (λ b. negates b a) args) some
    ∙ ap (λ r. nat_lt 1 (count_by (λ b. bytes_eq a.name b.name) args) || (r || nat_lt 0 (count_by (λ b. negates b a) args))) (counted_any (negates a) args)
    ∙ ap (λ r. nat_lt 1 (count_by (λ b. bytes_eq a.name b.name) args) || (list_any (negates a) args || r)) (counted_any (λ b. negates b a) args ∙ any_flag a.is_flag (negation_of a.name) args)

-- what is known of all tells whether one clashes
pub usage_tells : (args : List Argument) (usage : Usage) (i : ℕ) (a : Argument) (told : Bool) → IsUsage args usage → i < length args → a ≡ get_or args i a
    → told ≡ (list_any (bytes_eq a.name) usage.repeated.keys || (list_any (bytes_eq a.name) usage.negations.keys || a.is_flag && list_any (bytes_eq (negation_of a.name)) usage.names.keys))
    → told ≡ is_shared args a
usage_tells args usage i a told known within is tells =
    tells ∙ ap (λ r. r || (list_any (bytes_eq a.name) usage.negations.keys || a.is_flag && list_any (bytes_eq (negation_of a.name)) usage.names.keys)) (known.repeated a.name)
    ∙ ap (λ r. nat_lt 1 (count_by (λ b. bytes_eq a.name b.name) args) || (r || a.is_flag && list_any (bytes_eq (negation_of a.name)) usage.names.keys)) (known.negated a.name)
    ∙ ap (λ r. nat_lt 1 (count_by (λ b. bytes_eq a.name b.name) args) || (list_any (λ b. b.is_flag && bytes_eq a.name (negation_of b.name)) args || a.is_flag && r)) (known.named (negation_of a.name))
    ∙ sym (shared_by_kinds args i a within is)

-- of three ways none is taken
pub none_taken : (a b flag n : Bool) → a ≡ false → b ≡ false → flag ≡ false → false ≡ (a || (b || flag && n))
none_taken false false false n x y z = refl
none_taken false false true n x y z = absurd (cc)
none_taken false true flag n x y z = absurd (cc)
none_taken true b flag n x y z = absurd (cc)

-- of three ways the last is open
pub last_taken : (a b flag n : Bool) → a ≡ false → b ≡ false → flag ≡ true → n ≡ (a || (b || flag && n))
last_taken false false true n x y z = refl
last_taken false false false n x y z = absurd (cc)
last_taken false true flag n x y z = absurd (cc)
last_taken true b flag n x y z = absurd (cc)
