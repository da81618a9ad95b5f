-- The leaves of a rule, whatever document it is.
use Rattle.std.proofs.Common.{◌≡◌, ℕ, ◌+◌, Bool, true, false, List, [], ◌∷◌, ◌++◌, map, Option, None, Some, refl, sym, ap, ◌∙◌, rules, append-nil}
use Rattle.std.specs.Prelude.{codes, bytes_eq, if◌then◌else◌, option_map, option_and_then}
use Rattle.std.specs.Fmt.{decimal}
use Rattle.json_doc.specs.declared.doc.Doc.{Doc, out-Doc, map-Doc, roll-Doc, the_lemmas}
use Rattle.json_doc.specs.declared.decimal.Decimal.{Decimal}
use Rattle.json_doc.specs.declared.doc.Doc.TheVariants.{Null, Flag, Number, Str, Items, Fields, rolls-Null, rolls-Flag, rolls-Number, rolls-Str, rolls-Items, rolls-Fields}
use Rattle.json_doc.specs.declared.doc.Doc.TheOpen.{Doc-F}
use Rattle.json_doc.specs.declared.doc.Doc.TheFolds.{fold_out-Doc, fold-roll-Doc, ind-Doc}
use Rattle.std.proofs.Common.{subst}
use Rattle.texts.specs.declared.pairs.Pair.{Pair}
use Rattle.texts.specs.Keys.{value_at}
use Rattle.rule_terms.specs.Attributes.{member_of}
use Rattle.rule_terms.specs.Seen.{items_at, items_of, items_kind, or_empty, text_at, text_in}
use Rattle.rule_sets.specs.declared.rule_set.Condition.{Condition}
use Rattle.rule_sets.specs.Rules.{LeafTale, WholeLeaf, answer_of, condition_of, conditions_of, leaf_step, leaves_below, leaves_each, leaves_of, list_leaves, rule_cut, rules_below}
use Rattle.rule_sets.specs.Trees.{Told, told, told_step}
use Rattle.rule_sets.proofs.Tales.{part_same, parts_same, told_at, told_field, told_fields}

each-told : (path : List Condition) (place : List ℕ) (at : ℕ) (ds : List Doc)
    → leaves_each (λ (t : Told LeafTale). t.tale.rule path) place at (map (told leaf_step) ds) ≡ leaves_below path place at ds
each-told path place at [] = refl
each-told path place at (d ∷ ds) = ap (λ ls. leaves_of path (place ++ 46 ∷ decimal at) d ++ ls) (each-told path place (at + 1) ds)

list-kind : (x : Doc-F Doc) (path : List Condition) (place : List ℕ)
    → list_leaves (map-Doc Doc (Told LeafTale) (told leaf_step) x) path place ≡ leaves_below path place 0 (or_empty (items_kind x))
list-kind Doc-F.Null path place = refl
list-kind (Doc-F.Flag flag) path place = refl
list-kind (Doc-F.Number n) path place = refl
list-kind (Doc-F.Str t) path place = refl
list-kind (Doc-F.Items ds) path place = each-told path place 0 ds
list-kind (Doc-F.Fields ps) path place = refl

below-is : (o : Option Doc) (path : List Condition) (place : List ℕ)
    → rules_below (option_map (told leaf_step) o) path place ≡ leaves_below path place 0 (or_empty (option_and_then items_of o))
below-is None path place = refl
below-is (Some d) path place =
    ap (λ t. t.tale.rules path place) (fold_out-Doc (Told LeafTale) (told_step leaf_step) d) ∙ list-kind (out-Doc d) path place

abbrev pub leaf_at : List Condition → List ℕ → Doc → List WholeLeaf
leaf_at path place rule = record { place = place; conditions = path; answer = answer_of rule } ∷ []

abbrev pub rule_due : List Condition → List ℕ → Doc → List WholeLeaf
rule_due path place rule =
    if bytes_eq (text_at (codes "type") rule) (codes "tree")
    then leaves_below (path ++ conditions_of rule) (place ++ codes ".rules") 0 (items_at (codes "rules") rule)
    else leaf_at (path ++ conditions_of rule) place rule

-- what has no members is a leaf without conditions
no-members : (d : Doc) → ((k : List ℕ) → member_of k d ≡ None) → (path : List Condition) (place : List ℕ) → leaf_at path place d ≡ rule_due path place d
no-members d none path place =
    ap (λ cs. leaf_at cs place d) (sym (append-nil path))
    ∙ ap (λ m. leaf_at (path ++ map condition_of (or_empty (option_and_then items_of m))) place d) (sym (none (codes "conditions")))
    ∙ ap (λ m. if bytes_eq (or_empty (text_in m)) (codes "tree")
    then leaves_below (path ++ conditions_of d) (place ++ codes ".rules") 0 (items_at (codes "rules") d)
    else leaf_at (path ++ conditions_of d) place d) (sym (none (codes "type")))

member-Fields : (k : List ℕ) (ps : List (Pair Doc)) → member_of k (Fields ps) ≡ value_at k ps
member-Fields k ps = search (rules, the_lemmas)

member-Null : (k : List ℕ) → member_of k Null ≡ None
member-Null k = search (rules, the_lemmas)

member-Flag : (b : Bool) (k : List ℕ) → member_of k (Flag b) ≡ None
member-Flag b k = search (rules, the_lemmas)

member-Number : (n : Decimal) (k : List ℕ) → member_of k (Number n) ≡ None
member-Number n k = search (rules, the_lemmas)

member-Str : (t : List ℕ) (k : List ℕ) → member_of k (Str t) ≡ None
member-Str t k = search (rules, the_lemmas)

member-Items : (ds : List Doc) (k : List ℕ) → member_of k (Items ds) ≡ None
member-Items ds k = search (rules, the_lemmas)

abbrev Due : Doc → Type 0
Due d = (path : List Condition) (place : List ℕ) → leaves_of path place d ≡ rule_due path place d

rule-Fields : (ps : List (Pair Doc)) → Due (Fields ps)
rule-Fields ps path place =
    let rule : Doc = Fields ps in
    let inner : List Condition = path ++ conditions_of rule in
    ap (λ t. t.tale.rule path place) (told_fields leaf_step ps)
    ∙ ap (λ (qs : List (Pair Doc)). rule_cut (Fields qs) (map (told_field leaf_step) ps) (path ++ conditions_of (Fields qs)) place) (parts_same leaf_step ps)
    ∙ ap (λ ls. if bytes_eq (text_at (codes "type") rule) (codes "tree") then ls else leaf_at inner place rule)
    (ap (λ o. rules_below o inner (place ++ codes ".rules")) (told_at leaf_step (codes "rules") ps)
    ∙ below-is (value_at (codes "rules") ps) inner (place ++ codes ".rules")
    ∙ ap (λ m. leaves_below inner (place ++ codes ".rules") 0 (or_empty (option_and_then items_of m))) (sym (member-Fields (codes "rules") ps)))

items-same : (ds : List Doc) → map (λ t. t.part) (map (told leaf_step) ds) ≡ ds
items-same [] = refl
items-same (d ∷ ds) = ap (λ x. x ∷ map (λ t. t.part) (map (told leaf_step) ds)) (part_same leaf_step d) ∙ ap (λ xs. d ∷ xs) (items-same ds)

flat : (x : Doc-F Doc) (path : List Condition) (place : List ℕ) → leaves_of path place (roll-Doc x) ≡ (leaf_step (map-Doc Doc (Told LeafTale) (told leaf_step) x)).rule path place
flat x path place = ap (λ t. t.tale.rule path place) (fold-roll-Doc (Told LeafTale) (told_step leaf_step) x)

layer : (x : Doc-F Doc) → Due (roll-Doc x)
layer Doc-F.Null = subst Due (sym rolls-Null)
    (λ path place. ap (leaves_of path place) (sym rolls-Null) ∙ flat Doc-F.Null path place ∙ no-members Null member-Null path place)
layer (Doc-F.Flag b) = subst Due (sym (rolls-Flag b))
    (λ path place. ap (leaves_of path place) (sym (rolls-Flag b)) ∙ flat (Doc-F.Flag b) path place ∙ no-members (Flag b) (member-Flag b) path place)
layer (Doc-F.Number n) = subst Due (sym (rolls-Number n))
    (λ path place. ap (leaves_of path place) (sym (rolls-Number n)) ∙ flat (Doc-F.Number n) path place ∙ no-members (Number n) (member-Number n) path place)
layer (Doc-F.Str t) = subst Due (sym (rolls-Str t))
    (λ path place. ap (leaves_of path place) (sym (rolls-Str t)) ∙ flat (Doc-F.Str t) path place ∙ no-members (Str t) (member-Str t) path place)
layer (Doc-F.Items ds) = subst Due (sym (rolls-Items ds))
    (λ path place. ap (leaves_of path place) (sym (rolls-Items ds)) ∙ flat (Doc-F.Items ds) path place
    ∙ ap (λ (xs : List Doc). leaf_at path place (Items xs)) (items-same ds) ∙ no-members (Items ds) (member-Items ds) path place)
layer (Doc-F.Fields ps) = subst Due (sym (rolls-Fields ps)) (rule-Fields ps)

rule-is : (d : Doc) → Due d
rule-is = ind-Doc Due (λ x y is. layer x)

-- the leaves of a tree are those of its rules
pub tree-leaves : (d : Doc) (path : List Condition) (place : List ℕ) → bytes_eq (text_at (codes "type") d) (codes "tree") ≡ true
    → leaves_of path place d ≡ leaves_below (path ++ conditions_of d) (place ++ codes ".rules") 0 (items_at (codes "rules") d)
tree-leaves d path place is =
    rule-is d path place
    ∙ ap (λ b. if b then leaves_below (path ++ conditions_of d) (place ++ codes ".rules") 0 (items_at (codes "rules") d) else leaf_at (path ++ conditions_of d) place d) is

-- any other rule is one leaf
pub lone-leaf : (d : Doc) (path : List Condition) (place : List ℕ) → bytes_eq (text_at (codes "type") d) (codes "tree") ≡ false
    → leaves_of path place d ≡ leaf_at (path ++ conditions_of d) place d
lone-leaf d path place is =
    rule-is d path place
    ∙ ap (λ b. if b then leaves_below (path ++ conditions_of d) (place ++ codes ".rules") 0 (items_at (codes "rules") d) else leaf_at (path ++ conditions_of d) place d) is
