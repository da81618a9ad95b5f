-- For each shape those that have it as a part, noted one after another.
use Rattle.std.proofs.Common.{◌≡◌, ℕ, suc, zero, ◌+◌, ◌<◌, ◌≤◌, Bool, true, false, cond, ◌&&◌, ◌||◌, nat_eq, nat_lt, List, [], ◌∷◌, ◌++◌, length, get_or, set, take, drop, map, slice_get, option_to_list, Option, None, Some, IfSome, append-nil, length-append, refl, sym, ap, subst, ◌∙◌, ⊎_elim, arith}
use Rattle.std.specs.Global.{Vec}
use Rattle.std.specs.List.{All, list_any}
use Rattle.std.specs.Option.{option_map_or}
use Rattle.std.proofs.lemmas.Bool.{cases_eq, cases_lt, eq-eqb, ne_eqb, lt-ltb, le-ltb}
use Rattle.std.proofs.lemmas.Bool.Decides.{nat_tests}
use Rattle.std.proofs.lemmas.List.{get_or_append_left, get_or-append-add, get_or-map, length-map, drop_all, take_all}
use Rattle.std.proofs.lemmas.List.Folds.{list_any-append, list_any_more}
use Rattle.std.proofs.lemmas.List.Elements.{All-get_or}
use Rattle.std.proofs.lemmas.Option.{slice_get-get_or, slice_get_past, slice_get_within, get_or_from_slice_get}
use Rattle.service_model.specs.declared.shape.Shape.{Shape}
use Rattle.service_model.specs.declared.shape.ShapeId.{ShapeId}
use Rattle.service_model.specs.Reach.{has_part, uses, is_listed, HasPartsBelow}

at_found : (lists : List (Vec ℕ)) (part user : ℕ) (list : Vec ℕ) → slice_get lists part ≡ Some list → is_listed lists part user ≡ list_any (nat_eq user) list.items
at_found lists part user list is = ap (λ found. option_map_or (λ users. list_any (nat_eq user) users.items) found false) is

pub users_here : (lists : List (Vec ℕ)) (part user : ℕ) (list : Vec ℕ) → part < length lists → list ≡ get_or lists part list → list_any (nat_eq user) list.items ≡ is_listed lists part user
users_here lists part user list within is = sym (at_found lists part user list (slice_get-get_or lists part list within ∙ ap Some (sym is)))

or_last : (old b : Bool) → (old || (b || false)) ≡ (old || b && true)
or_last true b = refl
or_last false true = refl
or_last false false = refl

or_none : (old b : Bool) → old ≡ (old || b && false)
or_none true b = refl
or_none false true = refl
or_none false false = refl

slice_get-set_other : {X : Type 0} (xs : List X) (i k : ℕ) (y : X) → (k ≡ i → ⊥) → slice_get (set xs i y) k ≡ slice_get xs k
slice_get-set_other [] i k y other = refl
slice_get-set_other (x ∷ xs) zero zero y other = absurd (other refl)
slice_get-set_other (x ∷ xs) zero (suc k) y other = refl
slice_get-set_other (x ∷ xs) (suc i) zero y other = refl
slice_get-set_other (x ∷ xs) (suc i) (suc k) y other = slice_get-set_other xs i k y (λ same. other (ap suc same))

slice_get-set_same : {X : Type 0} (xs : List X) (i : ℕ) (y : X) → i < length xs → slice_get (set xs i y) i ≡ Some y
slice_get-set_same [] i y within = absurd (omega (arith, within))
slice_get-set_same (x ∷ xs) zero y within = refl
slice_get-set_same (x ∷ xs) (suc i) y within = slice_get-set_same xs i y (omega arith)

-- a user is noted at a part
pub noted : (lists : List (Vec ℕ)) (at id : ℕ) (old new : Vec ℕ) (part user : ℕ) → id < length lists → old ≡ get_or lists id old → new.items ≡ old.items ++ at ∷ []
    → is_listed (set lists id new) part user ≡ (is_listed lists part user || nat_eq user at && nat_eq part id)
noted lists at id old new part user within is pushed =
    ⊎_elim
    (λ same. ap (λ k. is_listed (set lists id new) k user) same ∙ at_found (set lists id new) id user new (slice_get-set_same lists id new within)
    ∙ ap (λ ns. list_any (nat_eq user) ns) pushed ∙ list_any-append (nat_eq user) old.items (at ∷ []) ∙ or_last (list_any (nat_eq user) old.items) (nat_eq user at)
    ∙ ap (λ b. b || nat_eq user at && true) (sym (at_found lists id user old (slice_get-get_or lists id old within ∙ ap Some (sym is))))
    ∙ ap (λ k. is_listed lists k user || nat_eq user at && true) (sym same) ∙ ap (λ b. is_listed lists part user || nat_eq user at && b) (sym (eq-eqb part id same)))
    (λ other. ap (λ found. option_map_or (λ users. list_any (nat_eq user) users.items) found false) (slice_get-set_other lists id part new other)
    ∙ or_none (is_listed lists part user) (nat_eq user at) ∙ ap (λ b. is_listed lists part user || nat_eq user at && b) (sym (ne_eqb part id other)))
    (cases_eq part id)

or_more : (old b p q : Bool) → ((old || b && p) || b && q) ≡ (old || b && (p || q))
or_more true b p q = refl
or_more false true p q = refl
or_more false false p q = refl

-- and at one part more
pub noted_more : {X : Type 0} (p : X → Bool) (xs : List X) (i : ℕ) (x : X) (old b before after : Bool) → i < length xs → x ≡ get_or xs i x
    → before ≡ (old || b && list_any p (take i xs)) → after ≡ (before || b && p x) → after ≡ (old || b && list_any p (take (i + 1) xs))
noted_more p xs i x old b before after within is so_far more =
    more ∙ ap (λ r. r || b && p x) so_far ∙ or_more old b (list_any p (take i xs)) (p x)
    ∙ ap (λ y. old || b && (list_any p (take i xs) || p y)) is ∙ ap (λ r. old || b && r) (sym (list_any_more p xs i x within))

any_mapped : {X Y : Type 0} (p : Y → Bool) (f : X → Y) (xs : List X) → list_any (λ x. p (f x)) xs ≡ list_any p (map f xs)
any_mapped p f [] = refl
any_mapped p f (x ∷ xs) = ap (λ b. p (f x) || b) (any_mapped p f xs)

-- and at all parts
pub noted_parts : (shape : Shape) (part : ℕ) (old b first second third : Bool)
    → first ≡ (old || b && list_any (λ m. nat_eq part m.shape.0) shape.members)
    → second ≡ (first || b && list_any (λ id. nat_eq part id.0) (option_to_list shape.item))
    → third ≡ (second || b && list_any (λ id. nat_eq part id.0) (option_to_list shape.key))
    → third ≡ (old || b && has_part part shape)
noted_parts shape part old b first second third one two three =
    let p : ShapeId → Bool = λ id. nat_eq part id.0 in
    let ms : List ShapeId = map (λ m. m.shape) shape.members in
    let is : List ShapeId = option_to_list shape.item in
    let ks : List ShapeId = option_to_list shape.key in
    three ∙ ap (λ r. r || b && list_any p ks) (two ∙ ap (λ r. r || b && list_any p is) (one ∙ ap (λ r. old || b && r) (any_mapped p (λ m. m.shape) shape.members)) ∙ or_more old b (list_any p ms) (list_any p is))
    ∙ or_more old b (list_any p ms || list_any p is) (list_any p ks)
    ∙ ap (λ r. old || b && (r || list_any p ks)) (sym (list_any-append p ms is)) ∙ ap (λ r. old || b && r) (sym (list_any-append p (ms ++ is) ks))

-- no user is noted at first
pub none_listed : (lists : List (Vec ℕ)) (shapes : List Shape) (part user : ℕ) → All (λ list. list.items ≡ []) lists → is_listed lists part user ≡ (nat_lt user 0 && uses shapes user part)
none_listed lists shapes part user empty =
    by (slice_get lists part) refl ∙ ap (λ b. b && uses shapes user part) (sym (le-ltb user 0 (omega arith)))
  where
    by : (found : Option (Vec ℕ)) → slice_get lists part ≡ found → is_listed lists part user ≡ false
    by None is = ap (λ r. option_map_or (λ users. list_any (nat_eq user) users.items) r false) is
    by (Some list) is = at_found lists part user list is ∙ ap (λ ns. list_any (nat_eq user) ns) (subst (λ l. l.items ≡ []) (get_or_from_slice_get lists part list list is) (All-get_or (λ l. l.items ≡ []) lists part list (slice_get_within lists part list is) empty))

-- one more shape is noted at its parts
pub listed_more : (shapes : List Shape) (at : ℕ) (shape : Shape) (part user : ℕ) (before after : Bool) → at < length shapes → shape ≡ get_or shapes at shape
    → before ≡ (nat_lt user at && uses shapes user part) → after ≡ (before || nat_eq user at && has_part part shape) → after ≡ (nat_lt user (at + 1) && uses shapes user part)
listed_more shapes at shape part user before after within is so_far more =
    more ∙ ap (λ b. b || nat_eq user at && has_part part shape) so_far ∙ ⊎_elim
    (λ same. ap (λ b. b && uses shapes user part || nat_eq user at && has_part part shape) (le-ltb user at (omega (arith, same)))
    ∙ ap (λ b. b && has_part part shape) (eq-eqb user at same)
    ∙ sym (ap (λ k. uses shapes k part) same ∙ ap (λ found. option_map_or (has_part part) found false) (slice_get-get_or shapes at shape within ∙ ap Some (sym is)))
    ∙ ap (λ b. b && uses shapes user part) (sym (lt-ltb user (at + 1) (omega (arith, same)))))
    (λ other. ap (λ b. nat_lt user at && uses shapes user part || b && has_part part shape) (ne_eqb user at other)
    ∙ or_false (nat_lt user at && uses shapes user part) ∙ ap (λ b. b && uses shapes user part) (next_below user at other))
    (cases_eq user at)
  where
    or_false : (b : Bool) → (b || false) ≡ b
    or_false true = refl
    or_false false = refl

    next_below : (m n : ℕ) → (m ≡ n → ⊥) → nat_lt m n ≡ nat_lt m (n + 1)
    next_below m n other = grind (arith, nat_tests)

-- in the end all shapes are
pub listed_all : (shapes : List Shape) (count part user : ℕ) (listed : Bool) → length shapes ≤ count → listed ≡ (nat_lt user count && uses shapes user part) → listed ≡ uses shapes user part
listed_all shapes count part user listed past is =
    is ∙ ⊎_elim (λ less. ap (λ b. b && uses shapes user part) (lt-ltb user count less))
    (λ more. ap (λ b. nat_lt user count && b) (none more) ∙ and_false (nat_lt user count) ∙ sym (none more))
    (cases_lt user count)
  where
    none : count ≤ user → uses shapes user part ≡ false
    none more = ap (λ found. option_map_or (has_part part) found false) (slice_get_past shapes user (omega arith))

    and_false : (b : Bool) → (b && false) ≡ false
    and_false true = refl
    and_false false = refl

-- how many users the shapes without a mark have
abbrev pub owed : List Bool → List (Vec ℕ) → ℕ
owed [] users = 0
owed (b ∷ bs) [] = 0
owed (b ∷ bs) (u ∷ us) = cond b 0 (length u.items) + owed bs us

owed_less : (leads : List Bool) (users : List (Vec ℕ)) (at : ℕ) (list : Vec ℕ) → at < length leads → at < length users → get_or leads at false ≡ false → list ≡ get_or users at list
    → owed (set leads at true) users + length list.items ≡ owed leads users
owed_less [] users at list in_leads within unmarked is = absurd (omega (arith, in_leads))
owed_less (b ∷ bs) [] at list in_leads within unmarked is = absurd (omega (arith, within))
owed_less (b ∷ bs) (u ∷ us) zero list in_leads within unmarked is =
    omega (arith, ap {B = ℕ} (λ r. cond r 0 (length u.items)) unmarked, ap (λ l. length l.items) is)
owed_less (b ∷ bs) (u ∷ us) (suc at) list in_leads within unmarked is =
    omega (arith, owed_less bs us at list (omega arith) (omega arith) unmarked is)

all_front : {X : Type 0} (P : X → Type 0) (xs ys : List X) → All P (xs ++ ys) → All P xs
all_front P xs ys all = λ k d within. subst P (get_or_append_left xs ys d k within) (all k d (omega (arith, length-append xs ys, within)))

all_behind : {X : Type 0} (P : X → Type 0) (xs ys : List X) → All P (xs ++ ys) → All P ys
all_behind P xs ys all = λ k d within. subst P (get_or-append-add xs ys k d) (all (length xs + k) d (omega (arith, length-append xs ys, within)))

only_one : {X : Type 0} (P : X → Type 0) (o : Option X) → All P (option_to_list o) → IfSome o P
only_one P None all = tt
only_one P (Some x) all = all 0 x (omega arith)

module _ (count : ℕ) (shape : Shape) (within : HasPartsBelow count shape) where
  pub members_within : All (λ m. m.shape.0 < count) shape.members
  members_within =
      let ms : List ShapeId = map (λ m. m.shape) shape.members in
      let below : ShapeId → Type 0 = λ id. id.0 < count in
      let all : All below ms = all_front below ms (option_to_list shape.item) (all_front below (ms ++ option_to_list shape.item) (option_to_list shape.key) within) in
      λ k d h. subst below (get_or-map (λ m. m.shape) shape.members k d d.shape h) (all k d.shape (omega (arith, length-map shape.members (λ m. m.shape), h)))

  pub item_within : IfSome shape.item (λ id. id.0 < count)
  item_within =
      let ms : List ShapeId = map (λ m. m.shape) shape.members in
      let below : ShapeId → Type 0 = λ id. id.0 < count in
      only_one below shape.item (all_behind below ms (option_to_list shape.item) (all_front below (ms ++ option_to_list shape.item) (option_to_list shape.key) within))

  pub key_within : IfSome shape.key (λ id. id.0 < count)
  key_within =
      let ms : List ShapeId = map (λ m. m.shape) shape.members in
      let below : ShapeId → Type 0 = λ id. id.0 < count in
      only_one below shape.key (all_behind below (ms ++ option_to_list shape.item) (option_to_list shape.key) within)

-- a whole slice written back is all there is
pub written_back : {X : Type 0} (len : ℕ) (new old : List X) → length new ≡ length old → length old ≡ len → take len (new ++ drop (length new) old) ≡ new
written_back len new old same is =
    ap (λ rest. take len (new ++ rest)) (drop_all (length new) old (omega (arith, same))) ∙ ap (take len) (append-nil new) ∙ take_all len new (omega (arith, same, is))

-- each turn leaves less to do
pub less_owed : (leads : List Bool) (users : List (Vec ℕ)) (at : ℕ) (list : Vec ℕ) (work front more : List ℕ) → at < length leads → at < length users → get_or leads at false ≡ false → list ≡ get_or users at list
    → work ≡ front ++ at ∷ [] → more ≡ front ++ list.items → length more + owed (set leads at true) users < length work + owed leads users
less_owed leads users at list work front more in_leads within unmarked is was made =
    omega (arith, owed_less leads users at list in_leads within unmarked is, ap length was, length-append front (at ∷ []), ap length made, length-append front list.items)
