-- Each scalar of an object stands in just one cell of its line.
use Rattle.std.proofs.Common.{◌≡◌, ℕ, ◌+◌, ◌≤◌, zero, suc, Bool, true, false, ◌||◌, if◌then◌else◌, List, [], ◌∷◌, ◌++◌, map, length, Option, None, Some, refl, sym, ap, ◌∙◌, arith}
use Rattle.std.specs.Prelude.{filter, is_some, option_to_list}
use Rattle.std.specs.List.{AllByRecursion, flat_map}
use Rattle.std.specs.declared.cmp.Ordering.{Ordering}
use Rattle.std.specs.declared.cmp.Ordering.TheVariants.{Less, Equal, Greater}
use Rattle.std.specs.Ordering.{ordering_reverse, is_eq}
use Rattle.std.specs.Cmp.Lexicographic.{nat_list_cmp_total}
use Rattle.std.proofs.lemmas.Map.Text.{is_eq-slice_cmp}
use Rattle.std.proofs.lemmas.Slice.Eq.{bytes_eq-Decides}
use Rattle.texts.specs.declared.pairs.Pair.{Pair}
use Rattle.texts.specs.Keys.{keys}
use Rattle.out_format.specs.Ascending.{IsAscending, has_key}
use Rattle.out_format.specs.Cells.{value_of, values}
use Rattle.out_format.specs.Layers.{Layer, fields_in}
use Rattle.texts.specs.Order.{text_cmp}
use Rattle.out_format.specs.Members.{sorted, scalar_members, columns, member_at, cell_of, cell_at, object_cells, texts}
use Rattle.out_format.proofs.Placing.{all-sorted}
use Rattle.out_format.proofs.SortedMembers.{less_from_greater, same_key, all_later, all_same, ascending-sorted, key-sorted}

abbrev Member : Type 0
Member = Pair (Option (List ℕ))

greater_from_less : (j k : List ℕ) → text_cmp j k ≡ Less → text_cmp k j ≡ Greater
greater_from_less j k e = nat_list_cmp_total.antisymm k j ∙ ap ordering_reverse e

-- a column that comes before all members finds none
found_none : (c : List ℕ) (ps : List Member) → AllByRecursion (λ k. text_cmp c k ≡ Less) (keys ps) → member_at c ps ≡ None
found_none c [] above = refl
found_none c (p ∷ ps) above = ap (λ o. if is_eq o then Some p.value else member_at c ps) above.0 ∙ found_none c ps above.1

-- columns behind a member find the others
found_behind : (p : Member) (ps : List Member) (cs : List (List ℕ)) → AllByRecursion (λ c. text_cmp p.key c ≡ Less) cs → map (cell_at (p ∷ ps)) cs ≡ map (cell_at ps) cs
found_behind p ps [] behind = refl
found_behind p ps (c ∷ cs) behind =
    ap (λ o. cell_of (if is_eq o then Some p.value else member_at c ps) ∷ map (cell_at (p ∷ ps)) cs) (greater_from_less p.key c behind.0)
    ∙ ap (λ cells. cell_at ps c ∷ cells) (found_behind p ps cs behind.1)

-- no column behind a key has it
no_key : (k : List ℕ) (cs : List (List ℕ)) → AllByRecursion (λ c. text_cmp k c ≡ Less) cs → has_key k cs ≡ false
no_key k [] behind = refl
no_key k (c ∷ cs) behind = ap (λ o. is_eq o || has_key k cs) behind.0 ∙ no_key k cs behind.1

value_at_cell : (o : Option (List ℕ)) → value_of (cell_of (Some o)) ≡ option_to_list o
value_at_cell None = refl
value_at_cell (Some text) = refl

abbrev Covers : List (List ℕ) → List Member → Type 0
Covers cs ps = AllByRecursion (λ p. is_some p.value ≡ true → has_key p.key cs ≡ true) ps

-- a first column that comes before all members is not needed
covers_rest : (c : List ℕ) (cs : List (List ℕ)) (ps : List Member) → AllByRecursion (λ k. text_cmp c k ≡ Less) (keys ps) → Covers (c ∷ cs) ps → Covers cs ps
covers_rest c cs [] above covers = tt
covers_rest c cs (p ∷ ps) above covers =
    ((λ some. ap (λ o. is_eq o || has_key p.key cs) (sym (greater_from_less c p.key above.0)) ∙ covers.0 some), covers_rest c cs ps above.1 covers.1)

no_text : (o : Option (List ℕ)) (b : Bool) → (is_some o ≡ true → b ≡ true) → b ≡ false → option_to_list o ≡ []
no_text None b has none = refl
no_text (Some text) b has none = absurd (let e = sym (has refl) ∙ none in cc)

abbrev Held : ℕ → Type 0
Held n = (cs : List (List ℕ)) (ps : List Member) → length cs + length ps ≤ n → IsAscending cs → IsAscending (keys ps) → Covers cs ps → values (map (cell_at ps) cs) ≡ texts ps

held_choice : (n : ℕ) → Held n → (o : Ordering) (c : List ℕ) (cs : List (List ℕ)) (p : Member) (ps : List Member) → length (c ∷ cs) + length (p ∷ ps) ≤ suc n
    → text_cmp c p.key ≡ o → IsAscending (c ∷ cs) → IsAscending (keys (p ∷ ps)) → Covers (c ∷ cs) (p ∷ ps) → values (map (cell_at (p ∷ ps)) (c ∷ cs)) ≡ texts (p ∷ ps)
held_choice n held Less c cs p ps bound o up up' covers =
    let above : AllByRecursion (λ k. text_cmp c k ≡ Less) (keys (p ∷ ps)) = (o, all_later c p.key (keys ps) o up'.0) in
    ap (λ m. value_of (cell_of m) ++ values (map (cell_at (p ∷ ps)) cs)) (found_none c (p ∷ ps) above)
    ∙ held cs (p ∷ ps) (omega arith) up.1 up' (covers_rest c cs (p ∷ ps) above covers)
held_choice n held Equal c cs p ps bound o up up' covers =
    let same = same_key c p.key o in
    let behind = all_same p.key c cs (sym same) up.0 in
    let above = all_same c p.key (keys ps) same up'.0 in
    ap (λ r. value_of (cell_of (if is_eq r then Some p.value else member_at c ps)) ++ values (map (cell_at (p ∷ ps)) cs)) o
    ∙ ap (λ ts. ts ++ values (map (cell_at (p ∷ ps)) cs)) (value_at_cell p.value)
    ∙ ap (λ cells. option_to_list p.value ++ values cells) (found_behind p ps cs behind)
    ∙ ap (λ ts. option_to_list p.value ++ ts) (held cs ps (omega arith) up.1 up'.1 (covers_rest c cs ps above covers.1))
held_choice n held Greater c cs p ps bound o up up' covers =
    let less = less_from_greater c p.key o in
    let behind : AllByRecursion (λ k. text_cmp p.key k ≡ Less) (c ∷ cs) = (less, all_later p.key c cs less up.0) in
    ap values (found_behind p ps (c ∷ cs) behind)
    ∙ held (c ∷ cs) ps (omega arith) up up'.1 covers.1
    ∙ ap (λ ts. ts ++ texts ps) (sym (no_text p.value (has_key p.key (c ∷ cs)) covers.0 (no_key p.key (c ∷ cs) behind)))

texts_none : (ps : List Member) → Covers [] ps → texts ps ≡ []
texts_none [] covers = refl
texts_none (p ∷ ps) covers = ap (λ ts. ts ++ texts ps) (no_text p.value false covers.0 refl) ∙ texts_none ps covers.1

cells_none : (cs : List (List ℕ)) → values (map (cell_at []) cs) ≡ []
cells_none [] = refl
cells_none (c ∷ cs) = cells_none cs

held : (n : ℕ) → Held n
held n [] ps bound up up' covers = sym (texts_none ps covers)
held n (c ∷ cs) [] bound up up' covers = cells_none cs
held zero (c ∷ cs) (p ∷ ps) bound up up' covers = absurd (omega arith)
held (suc n) (c ∷ cs) (p ∷ ps) bound up up' covers = held_choice n (held n) (text_cmp c p.key) c cs p ps bound refl up up' covers

-- The columns of a list cover each object in it.

key_self : (k : List ℕ) → is_eq (text_cmp k k) ≡ true
key_self k = is_eq-slice_cmp k k ∙ (bytes_eq-Decides k k).1 refl

or_right : (a b : Bool) → b ≡ true → (a || b) ≡ true
or_right true b e = refl
or_right false b e = e

abbrev scalars_of : List Member → List Member
scalars_of ps = filter (λ p. is_some p.value) ps

abbrev AreKept : List Member → List Member → Type 0
AreKept kept ps = AllByRecursion (λ p. is_some p.value ≡ true → has_key p.key (keys kept) ≡ true) ps

key_kept : (b : Bool) (k : List ℕ) (q : Member) (qs : List Member) → has_key k (keys qs) ≡ true → has_key k (keys (if b then q ∷ qs else qs)) ≡ true
key_kept true k q qs e = or_right (is_eq (text_cmp k q.key)) (has_key k (keys qs)) e
key_kept false k q qs e = e

kept_more : (q : Member) (qs ps : List Member) → AreKept (scalars_of qs) ps → AreKept (scalars_of (q ∷ qs)) ps
kept_more q qs [] kept = tt
kept_more q qs (p ∷ ps) kept = ((λ some. key_kept (is_some q.value) p.key q (scalars_of qs) (kept.0 some)), kept_more q qs ps kept.1)

key_first : (b : Bool) (q : Member) (qs : List Member) → b ≡ true → has_key q.key (keys (if b then q ∷ qs else qs)) ≡ true
key_first true q qs e = ap (λ t. t || has_key q.key (keys qs)) (key_self q.key)
key_first false q qs e = cc

all_kept : (ps : List Member) → AreKept (scalars_of ps) ps
all_kept [] = tt
all_kept (p ∷ ps) = ((λ some. key_first (is_some p.value) p (scalars_of ps) some), kept_more p ps ps (all_kept ps))

or_assoc : (a b c : Bool) → (a || (b || c)) ≡ ((a || b) || c)
or_assoc true b c = refl
or_assoc false b c = refl

key-append : (k : List ℕ) (xs ys : List Member) → has_key k (keys (xs ++ ys)) ≡ (has_key k (keys xs) || has_key k (keys ys))
key-append k [] ys = refl
key-append k (x ∷ xs) ys = ap (λ b. is_eq (text_cmp k x.key) || b) (key-append k xs ys) ∙ or_assoc (is_eq (text_cmp k x.key)) (has_key k (keys xs)) (has_key k (keys ys))

or_left : (a b : Bool) → a ≡ true → (a || b) ≡ true
or_left true b e = refl
or_left false b e = cc

key_among : (k : List ℕ) (before after : List Layer) (layer : Layer) → has_key k (keys (scalar_members layer)) ≡ true → has_key k (keys (flat_map scalar_members (before ++ (layer ∷ after)))) ≡ true
key_among k [] after layer has =
    key-append k (scalar_members layer) (flat_map scalar_members after) ∙ or_left (has_key k (keys (scalar_members layer))) (has_key k (keys (flat_map scalar_members after))) has
key_among k (b ∷ before) after layer has =
    let rest = flat_map scalar_members (before ++ (layer ∷ after)) in
    key-append k (scalar_members b) rest ∙ or_right (has_key k (keys (scalar_members b))) (has_key k (keys rest)) (key_among k before after layer has)

covered : (before after : List Layer) (layer : Layer) (ps : List Member) → AreKept (scalar_members layer) ps → Covers (columns (before ++ (layer ∷ after))) ps
covered before after layer [] kept = tt
covered before after layer (p ∷ ps) kept =
    ((λ some. key-sorted p.key (flat_map scalar_members (before ++ (layer ∷ after))) ∙ key_among p.key before after layer (kept.0 some)), covered before after layer ps kept.1)

-- the cells of an object in a list hold the texts of its scalars
pub scalars-held : (before after : List Layer) (layer : Layer) → values (object_cells (columns (before ++ (layer ∷ after))) layer) ≡ texts (sorted (fields_in layer))
scalars-held before after layer =
    let layers = before ++ (layer ∷ after) in
    let cs = columns layers in
    let ps = fields_in layer in
    held (length cs + length (sorted ps)) cs (sorted ps) (omega arith) (ascending-sorted (flat_map scalar_members layers)) (ascending-sorted ps)
    (all-sorted (λ p. is_some p.value ≡ true → has_key p.key cs ≡ true) ps (covered before after layer ps (all_kept ps)))
