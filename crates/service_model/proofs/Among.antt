-- Names in a set and in a list.
use Rattle.std.proofs.Common.{◌≡◌, ℕ, ◌+◌, nat_eq, Bool, true, false, ◌||◌, if◌then◌else◌, List, [], ◌∷◌, ◌++◌, length, get_or, drop, ◌<◌, ◌≤◌, Result, Ok, Err, refl, sym, ap, ◌∙◌}
use Rattle.std.specs.Cmp.Lexicographic.{pointwise}
use Rattle.std.specs.List.{list_any}
use Rattle.std.specs.Str.{bytes_eq}
use Rattle.std.proofs.lemmas.List.{at_drop_more, at_drop_all}
use Rattle.std.proofs.lemmas.Slice.Eq.{bytes_eq-Decides}
use Rattle.indexmap.specs.IndexSet.{insert_key}
use Rattle.json_doc.specs.declared.doc.Doc.{Doc}
use Rattle.std.specs.Fmt.{decimal}
use Rattle.model_files.specs.declared.fault.ModelFault.{ModelFault}
use Rattle.model_files.specs.declared.fault.ModelFault.TheVariants.{WrongKind}
use Rattle.model_files.specs.declared.fault.Place.TheVariants.{Whole}
use Rattle.model_files.specs.Faults.{inside, demand, each_from}
use Rattle.texts.specs.Calls.{◌>>=◌}
use Rattle.model_files.specs.Reading.{text_of}
use Rattle.service_model.specs.declared.shape.Member.{Member}
use Rattle.service_model.specs.Shapes.{name_among, names_in}

or_false : (b : Bool) → (b || false) ≡ b
or_false true = refl
or_false false = refl

or_assoc : (a b c : Bool) → ((a || b) || c) ≡ (a || (b || c))
or_assoc true b c = refl
or_assoc false b c = refl

pub any_last : (name k : List ℕ) (ks : List (List ℕ)) → list_any (bytes_eq name) (ks ++ k ∷ []) ≡ (list_any (bytes_eq name) ks || bytes_eq name k)
any_last name k [] = or_false (bytes_eq name k)
any_last name k (j ∷ js) = ap (λ b. bytes_eq name j || b) (any_last name k js) ∙ sym (or_assoc (bytes_eq name j) (list_any (bytes_eq name) js) (bytes_eq name k))

there_or : (name k : List ℕ) (ks : List (List ℕ)) (b : Bool) → list_any (bytes_eq k) ks ≡ true → bytes_eq name k ≡ b → list_any (bytes_eq name) ks ≡ (list_any (bytes_eq name) ks || b)
there_or name k ks false there is = sym (or_false (list_any (bytes_eq name) ks))
there_or name k ks true there is =
    let same : name ≡ k = (bytes_eq-Decides name k).0 is in
    let holds : list_any (bytes_eq name) ks ≡ true = ap (λ n. list_any (bytes_eq n) ks) same ∙ there in
    holds ∙ ap (λ b. b || true) (sym holds)

by_there : (name k : List ℕ) (ks : List (List ℕ)) (b : Bool) → list_any (bytes_eq k) ks ≡ b
    → list_any (bytes_eq name) (if b then ks else ks ++ k ∷ []) ≡ (list_any (bytes_eq name) ks || bytes_eq name k)
by_there name k ks true there = there_or name k ks (bytes_eq name k) there refl
by_there name k ks false there = any_last name k ks

-- a set with one more name
pub any_insert : (name k : List ℕ) (ks : List (List ℕ)) → list_any (bytes_eq name) (insert_key (pointwise nat_eq) ks k) ≡ (list_any (bytes_eq name) ks || bytes_eq name k)
any_insert name k ks = by_there name k ks (list_any (bytes_eq k) ks) refl

same_demand : (names others : List (List ℕ)) (read : Result (List ℕ) ModelFault) → ((name : List ℕ) → list_any (bytes_eq name) names ≡ list_any (bytes_eq name) others)
    → (read >>= (λ name. demand (list_any (bytes_eq name) names) (WrongKind Whole) (Ok name))) ≡ (read >>= (λ name. demand (list_any (bytes_eq name) others) (WrongKind Whole) (Ok name)))
same_demand names others (Ok name) same = ap (λ b. demand b (WrongKind Whole) (Ok name)) (same name)
same_demand names others (Err fault) same = refl

-- names that hold the same texts list the same
pub same_listed : (names others : List (List ℕ)) (at : ℕ) (items : List Doc) → ((name : List ℕ) → list_any (bytes_eq name) names ≡ list_any (bytes_eq name) others)
    → each_from (name_among names) at items ≡ each_from (name_among others) at items
unfolding name_among
same_listed names others at [] same = refl
same_listed names others at (d ∷ ds) same =
    ap (λ r. inside (decimal at) r >>= (λ y. each_from (name_among names) (at + 1) ds >>= (λ ys. Ok (y ∷ ys)))) (same_demand names others (text_of d) same)
    ∙ ap (λ rest. inside (decimal at) (name_among others d) >>= (λ y. rest >>= (λ ys. Ok (y ∷ ys)))) (same_listed names others (at + 1) ds same)

-- one more item is looked at
pub any_go : {X : Type 0} (f : X → Bool) (xs : List X) (i : ℕ) (x : X) (before after all : Bool) → i < length xs → x ≡ get_or xs i x → after ≡ (before || f x)
    → (before || list_any f (drop i xs)) ≡ all → (after || list_any f (drop (i + 1) xs)) ≡ all
any_go f xs i x before after all within is more so_far =
    ap (λ b. b || list_any f (drop (i + 1) xs)) more ∙ or_assoc before (f x) (list_any f (drop (i + 1) xs))
    ∙ ap (λ b. before || b) (ap (λ y. f y || list_any f (drop (i + 1) xs)) is ∙ sym (at_drop_more (list_any f) xs i x within)) ∙ so_far

-- one more member's name is put into a set
pub any_name_go : (name : List ℕ) (ms : List Member) (i : ℕ) (m : Member) (before after : List (List ℕ)) (all : Bool) → i < length ms → m ≡ get_or ms i m
    → after ≡ insert_key (pointwise nat_eq) before m.name → (list_any (bytes_eq name) before || list_any (bytes_eq name) (names_in (drop i ms))) ≡ all
    → (list_any (bytes_eq name) after || list_any (bytes_eq name) (names_in (drop (i + 1) ms))) ≡ all
any_name_go name ms i m before after all within is put so_far =
    let rest = list_any (bytes_eq name) (names_in (drop (i + 1) ms)) in
    ap (λ ks. list_any (bytes_eq name) ks || rest) put ∙ ap (λ b. b || rest) (any_insert name m.name before)
    ∙ or_assoc (list_any (bytes_eq name) before) (bytes_eq name m.name) rest
    ∙ ap (λ b. list_any (bytes_eq name) before || b)
    (ap (λ n. bytes_eq name n.name || rest) is ∙ sym (at_drop_more (λ qs. list_any (bytes_eq name) (names_in qs)) ms i m within))
    ∙ so_far

-- past the last member, its names are all
pub any_done : (name : List ℕ) (ms : List Member) (i : ℕ) (names : List (List ℕ)) (all : Bool) → length ms ≤ i
    → (list_any (bytes_eq name) names || list_any (bytes_eq name) (names_in (drop i ms))) ≡ all → list_any (bytes_eq name) names ≡ all
any_done name ms i names all past so_far =
    sym (or_false (list_any (bytes_eq name) names))
    ∙ ap (λ b. list_any (bytes_eq name) names || b) (sym (at_drop_all (λ qs. list_any (bytes_eq name) (names_in qs)) ms i past)) ∙ so_far
