-- Leaves put behind others, while the conditions only grow.
use Rattle.std.proofs.Common.{◌≡◌, ℕ, zero, suc, ◌+◌, ◌<◌, ◌≤◌, true, false, List, [], ◌∷◌, ◌++◌, map, length, drop, get_or, Some, Ok, Err, Result, OnOk, refl, sym, ap, subst, ◌∙◌, arith, append-nil, append_assoc}
use Rattle.std.specs.Prelude.{codes, bytes_eq, slice_get}
use Rattle.std.specs.Fmt.{decimal}
use Rattle.std.specs.List.{AllByRecursion}
use Rattle.std.proofs.lemmas.List.{at_drop_more, at_drop_all, length-append, map-append}
use Rattle.std.proofs.lemmas.List.Concat.{flat_map-append}
use Rattle.json_doc.specs.declared.doc.Doc.{Doc}
use Rattle.rule_terms.specs.Seen.{items_at, or_empty, text_at}
use Rattle.rule_sets.specs.declared.rule_set.Answer.{Answer}
use Rattle.rule_sets.specs.declared.rule_set.Condition.{Condition}
use Rattle.rule_sets.specs.declared.rule_set.Leaf.{Leaf}
use Rattle.rule_sets.specs.declared.rule_set.RuleSet.{RuleSet}
use Rattle.rule_sets.specs.Cuts.{AreBelow, HasPaths, IsCut}
use Rattle.rule_sets.specs.Rules.{WholeLeaf, answer_of, conditions_at, conditions_of, leaves_below, leaves_of, path_of, seen_leaf, seen_leaves}
use Rattle.rule_sets.proofs.LeafParts.{lone-leaf, tree-leaves}

abbrev Groups : Type 0
Groups = List (List Condition)

at-grown : (gs more : Groups) (n : ℕ) → n < length gs → slice_get (gs ++ more) n ≡ slice_get gs n
at-grown [] more n within = absurd (omega arith)
at-grown (g ∷ gs) more zero within = refl
at-grown (g ∷ gs) more (suc n) within = at-grown gs more n (omega arith)

at-last : (gs : Groups) (g : List Condition) → slice_get (gs ++ g ∷ []) (length gs) ≡ Some g
at-last [] g = refl
at-last (h ∷ gs) g = at-last gs g

path-grown : (gs more : Groups) (ns : List ℕ) → AreBelow (length gs) ns → path_of (gs ++ more) ns ≡ path_of gs ns
path-grown gs more [] below = refl
path-grown gs more (n ∷ ns) below =
    ap (λ o. or_empty o ++ path_of (gs ++ more) ns) (at-grown gs more n below.0)
    ∙ ap (λ cs. conditions_at gs n ++ cs) (path-grown gs more ns below.1)

-- the path of a rule is that around it, and its own conditions
path-longer : (gs : Groups) (g : List Condition) (ns : List ℕ) → AreBelow (length gs) ns → path_of (gs ++ g ∷ []) (ns ++ length gs ∷ []) ≡ path_of gs ns ++ g
path-longer gs g ns below =
    flat_map-append (conditions_at (gs ++ g ∷ [])) ns (length gs ∷ [])
    ∙ ap (λ cs. cs ++ path_of (gs ++ g ∷ []) (length gs ∷ [])) (path-grown gs (g ∷ []) ns below)
    ∙ ap (λ cs. path_of gs ns ++ cs) (ap (λ o. or_empty o ++ []) (at-last gs g) ∙ append-nil g)

below-more : (n m : ℕ) (ns : List ℕ) → n ≤ m → AreBelow n ns → AreBelow m ns
below-more n m [] le below = tt
below-more n m (k ∷ ns) le below = (let within = below.0 in omega arith, below-more n m ns le below.1)

below-last : (n : ℕ) (ns : List ℕ) (k : ℕ) → AreBelow n ns → k < n → AreBelow n (ns ++ k ∷ [])
below-last n [] k below within = (within, tt)
below-last n (m ∷ ns) k below within = (below.0, below-last n ns k below.1 within)

abbrev HavePaths : ℕ → List Leaf → Type 0
HavePaths n leaves = AllByRecursion (λ leaf. AreBelow n leaf.path) leaves

paths-more : (n m : ℕ) (ls : List Leaf) → n ≤ m → HavePaths n ls → HavePaths m ls
paths-more n m [] le paths = tt
paths-more n m (l ∷ ls) le paths = (below-more n m l.path le paths.0, paths-more n m ls le paths.1)

paths-last : (n : ℕ) (ls : List Leaf) (l : Leaf) → HavePaths n ls → AreBelow n l.path → HavePaths n (ls ++ l ∷ [])
paths-last n [] l paths below = (below, tt)
paths-last n (k ∷ ls) l paths below = (paths.0, paths-last n ls l paths.1 below)

abbrev whole_leaf : Leaf → List Condition → WholeLeaf
whole_leaf l conditions = record { place = l.place; conditions = conditions; answer = l.answer }

leaves-grown : (gs more : Groups) (ls : List Leaf) → HavePaths (length gs) ls → map (seen_leaf (gs ++ more)) ls ≡ map (seen_leaf gs) ls
leaves-grown gs more [] paths = refl
leaves-grown gs more (l ∷ ls) paths =
    ap (λ cs. whole_leaf l cs ∷ map (seen_leaf (gs ++ more)) ls) (path-grown gs more l.path paths.0)
    ∙ ap (λ xs. seen_leaf gs l ∷ xs) (leaves-grown gs more ls paths.1)

grown-length : (gs more now : Groups) → now ≡ gs ++ more → length gs ≤ length now
grown-length gs more now grown = let long = ap length grown ∙ length-append gs more in omega arith

pub cut-none : (a : RuleSet) → HasPaths a → IsCut a a []
cut-none a paths = record {
  parameters = refl;
  more = [];
  grown = sym (append-nil a.conditions);
  paths = paths;
  behind = sym (append-nil (seen_leaves a));
}

pub cut-then : (a b c : RuleSet) (xs ys : List WholeLeaf) → IsCut a b xs → IsCut b c ys → IsCut a c (xs ++ ys)
cut-then a b c xs ys first then = record {
  parameters = then.parameters ∙ first.parameters;
  more = first.more ++ then.more;
  grown = then.grown ∙ ap (λ gs. gs ++ then.more) first.grown ∙ append_assoc a.conditions first.more then.more;
  paths = then.paths;
  behind = then.behind ∙ ap (λ ls. ls ++ ys) first.behind ∙ append_assoc (seen_leaves a) xs ys;
}

-- these rules, with other conditions and leaves
abbrev pub other : RuleSet → Groups → List Leaf → RuleSet
other a gs ls = record { parameters = a.parameters; conditions = gs; leaves = ls }

wider : (a : RuleSet) (gs : Groups) (g : List Condition) → HasPaths a → gs ≡ a.conditions ++ g ∷ [] → IsCut a (other a gs a.leaves) []
wider a gs g paths grown = record {
  parameters = refl;
  more = g ∷ [];
  grown = grown;
  paths = paths-more (length a.conditions) (length gs) a.leaves (grown-length a.conditions (g ∷ []) gs grown) paths;
  behind = ap (λ hs. map (seen_leaf hs) a.leaves) grown ∙ leaves-grown a.conditions (g ∷ []) a.leaves paths ∙ sym (append-nil (seen_leaves a));
}

pub within-longer : (a : RuleSet) (gs : Groups) (g : List Condition) (path longer : List ℕ) → gs ≡ a.conditions ++ g ∷ [] → longer ≡ path ++ length a.conditions ∷ []
    → AreBelow (length a.conditions) path → AreBelow (length gs) longer
within-longer a gs g path longer grown made below =
    let long = ap length grown ∙ length-append a.conditions (g ∷ []) in
    subst (AreBelow (length gs)) (sym made)
    (below-last (length gs) path (length a.conditions) (below-more (length a.conditions) (length gs) path (omega arith) below) (omega arith))

pub paths-wider : (a : RuleSet) (gs : Groups) (g : List Condition) → HasPaths a → gs ≡ a.conditions ++ g ∷ [] → HasPaths (other a gs a.leaves)
paths-wider a gs g paths grown = (wider a gs g paths grown).paths

path-here : (a : RuleSet) (gs : Groups) (g : List Condition) (path longer : List ℕ) → gs ≡ a.conditions ++ g ∷ [] → longer ≡ path ++ length a.conditions ∷ []
    → AreBelow (length a.conditions) path → path_of gs longer ≡ path_of a.conditions path ++ g
path-here a gs g path longer grown made below =
    ap (λ hs. path_of hs longer) grown ∙ ap (path_of (a.conditions ++ g ∷ [])) made ∙ path-longer a.conditions g path below

-- the leaves of a tree, cut from its rules
pub tree-cut : (a c : RuleSet) (gs : Groups) (d : Doc) (path longer place place' : List ℕ) (ds : List Doc) → HasPaths a → AreBelow (length a.conditions) path
    → gs ≡ a.conditions ++ conditions_of d ∷ [] → longer ≡ path ++ length a.conditions ∷ [] → place' ≡ place ++ codes ".rules" → ds ≡ items_at (codes "rules") d
    → bytes_eq (text_at (codes "type") d) (codes "tree") ≡ true
    → IsCut (other a gs a.leaves) c (leaves_below (path_of gs longer) place' 0 ds) → IsCut a c (leaves_of (path_of a.conditions path) place d)
tree-cut a c gs d path longer place place' ds paths below grown made there same is inner =
    let here = path-here a gs (conditions_of d) path longer grown made below in
    let due : leaves_below (path_of gs longer) place' 0 ds ≡ leaves_of (path_of a.conditions path) place d =
    ap (λ cs. leaves_below cs place' 0 ds) here
    ∙ ap (λ p. leaves_below (path_of a.conditions path ++ conditions_of d) p 0 ds) there
    ∙ ap (λ xs. leaves_below (path_of a.conditions path ++ conditions_of d) (place ++ codes ".rules") 0 xs) same
    ∙ sym (tree-leaves d (path_of a.conditions path) place is) in
    subst (IsCut a c) due (cut-then a (other a gs a.leaves) c [] (leaves_below (path_of gs longer) place' 0 ds) (wider a gs (conditions_of d) paths grown) inner)

one-leaf : (b : RuleSet) (ls : List Leaf) (l : Leaf) → HasPaths b → AreBelow (length b.conditions) l.path → ls ≡ b.leaves ++ l ∷ []
    → IsCut b (other b b.conditions ls) (seen_leaf b.conditions l ∷ [])
one-leaf b ls l paths below pushed = record {
  parameters = refl;
  more = [];
  grown = sym (append-nil b.conditions);
  paths = subst (HavePaths (length b.conditions)) (sym pushed) (paths-last (length b.conditions) b.leaves l paths below);
  behind = ap (map (seen_leaf b.conditions)) pushed ∙ map-append (seen_leaf b.conditions) b.leaves (l ∷ []);
}

-- a rule that isn't a tree, put as one leaf
pub lone-cut : (a : RuleSet) (gs : Groups) (ls : List Leaf) (d : Doc) (path longer place : List ℕ) (answer : Answer) → HasPaths a → AreBelow (length a.conditions) path
    → gs ≡ a.conditions ++ conditions_of d ∷ [] → longer ≡ path ++ length a.conditions ∷ [] → answer ≡ answer_of d
    → bytes_eq (text_at (codes "type") d) (codes "tree") ≡ false
    → ls ≡ a.leaves ++ record { place = place; path = longer; answer = answer } ∷ []
    → IsCut a (other a gs ls) (leaves_of (path_of a.conditions path) place d)
lone-cut a gs ls d path longer place answer paths below grown made says is pushed =
    let leaf : Leaf = record { place = place; path = longer; answer = answer } in
    let b : RuleSet = other a gs a.leaves in
    let here = path-here a gs (conditions_of d) path longer grown made below in
    let due : seen_leaf gs leaf ∷ [] ≡ leaves_of (path_of a.conditions path) place d =
    ap (λ cs. whole_leaf leaf cs ∷ []) here
    ∙ ap (λ (said : Answer). whole_leaf (record { place = place; path = longer; answer = said }) (path_of a.conditions path ++ conditions_of d) ∷ []) says
    ∙ sym (lone-leaf d (path_of a.conditions path) place is) in
    subst (IsCut a (other a gs ls)) due
    (cut-then a b (other a gs ls) [] (seen_leaf gs leaf ∷ []) (wider a gs (conditions_of d) paths grown)
    (one-leaf b ls leaf (paths-wider a gs (conditions_of d) paths grown) (within-longer a gs (conditions_of d) path longer grown made below) pushed))

pub within-cut : (a b : RuleSet) (done : List WholeLeaf) (path : List ℕ) → IsCut a b done → AreBelow (length a.conditions) path → AreBelow (length b.conditions) path
within-cut a b done path cut below =
    below-more (length a.conditions) (length b.conditions) path (grown-length a.conditions cut.more b.conditions cut.grown) below

-- the leaves of one more rule
pub more-cut : (a b c : RuleSet) (done : List WholeLeaf) (path place : List ℕ) (d : Doc) → AreBelow (length a.conditions) path → IsCut a b done
    → IsCut b c (leaves_of (path_of b.conditions path) place d) → IsCut a c (done ++ leaves_of (path_of a.conditions path) place d)
more-cut a b c done path place d below first then =
    let same : path_of b.conditions path ≡ path_of a.conditions path = ap (λ gs. path_of gs path) first.grown ∙ path-grown a.conditions first.more path below in
    cut-then a b c done (leaves_of (path_of a.conditions path) place d) first (subst (λ cs. IsCut b c (leaves_of cs place d)) same then)

pub rest-more : (path : List Condition) (place : List ℕ) (ds : List Doc) (i : ℕ) (d : Doc) (done all : List WholeLeaf) → i < length ds → d ≡ get_or ds i d
    → done ++ leaves_below path place i (drop i ds) ≡ all
    → (done ++ leaves_of path (place ++ 46 ∷ decimal i) d) ++ leaves_below path place (i + 1) (drop (i + 1) ds) ≡ all
rest-more path place ds i d done all within is before =
    append_assoc done (leaves_of path (place ++ 46 ∷ decimal i) d) (leaves_below path place (i + 1) (drop (i + 1) ds))
    ∙ ap (λ ls. done ++ ls)
    (ap (λ x. leaves_of path (place ++ 46 ∷ decimal i) x ++ leaves_below path place (i + 1) (drop (i + 1) ds)) is
    ∙ sym (at_drop_more (leaves_below path place i) ds i d within))
    ∙ before

pub rest-none : (path : List Condition) (place : List ℕ) (ds : List Doc) (i : ℕ) (done all : List WholeLeaf) → length ds ≤ i
    → done ++ leaves_below path place i (drop i ds) ≡ all → done ≡ all
rest-none path place ds i done all past before =
    sym (append-nil done) ∙ sym (ap (λ ls. done ++ ls) (at_drop_all (leaves_below path place i) ds i past)) ∙ before

pub on-ok : {T E P Q : Type 0} (r : Result T E) → (P → Q) → OnOk r P → OnOk r Q
on-ok (Ok x) f p = f p
on-ok (Err e) f p = p
