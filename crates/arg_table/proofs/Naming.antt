-- What names mean, one argument after another.
use Rattle.std.proofs.Common.{◌≡◌, ℕ, ◌+◌, ◌<◌, Bool, true, false, ◌&&◌, if◌then◌else◌, List, [], ◌∷◌, ◌++◌, length, get_or, take, Option, None, Some, refl, sym, ap, ◌∙◌}
use Rattle.std.specs.Str.{bytes_eq}
use Rattle.std.proofs.lemmas.List.{take_more}
use Rattle.std.proofs.lemmas.Bool.{false≢true, true≢false, false_from_ne_true}
use Rattle.std.proofs.lemmas.Slice.Eq.{bytes_eq-Decides}
use Rattle.std.specs.Prelude.{cond, is_some}
use Rattle.service_model.specs.Arguments.{negation_of}
use Rattle.arg_table.specs.declared.meaning.Meant.{Meant}
use Rattle.arg_table.specs.declared.table.Argument.{Argument}
use Rattle.arg_table.specs.Tables.{argument_named, is_flag, is_negation, meant_by}
use Rattle.arg_table.specs.Inside.{or_meant}

or_meant-assoc : (x y z : Option Meant) → or_meant (or_meant x y) z ≡ or_meant x (or_meant y z)
or_meant-assoc (Some m) y z = refl
or_meant-assoc None y z = refl

or_meant-none : (x : Option Meant) → or_meant x None ≡ x
or_meant-none (Some m) = refl
or_meant-none None = refl

-- the arguments in front come first
argument_named-append : (args bs : List Argument) (name : List ℕ) → argument_named (args ++ bs) name ≡ or_meant (argument_named args name) (argument_named bs name)
argument_named-append [] bs name = refl
argument_named-append (a ∷ more) bs name = by (bytes_eq name a.name) (is_negation name a) (argument_named-append more bs name)
  where
    by : (b c : Bool) → argument_named (more ++ bs) name ≡ or_meant (argument_named more name) (argument_named bs name)
        → (if b then Some (meant_by a false) else if c then Some (meant_by a true) else argument_named (more ++ bs) name)
        ≡ or_meant (if b then Some (meant_by a false) else if c then Some (meant_by a true) else argument_named more name) (argument_named bs name)
    by true c rest = refl
    by false true rest = refl
    by false false rest = rest

-- one argument more
pub named_more : (args : List Argument) (i : ℕ) (a : Argument) (name : List ℕ) (old new : Option Meant) → i < length args → a ≡ get_or args i a
    → old ≡ argument_named (take i args) name → new ≡ or_meant old (argument_named (a ∷ []) name) → new ≡ argument_named (take (i + 1) args) name
named_more args i a name old new within is so_far more =
    more ∙ ap (λ x. or_meant x (argument_named (a ∷ []) name)) so_far ∙ sym (argument_named-append (take i args) (a ∷ []) name)
    ∙ ap (λ b. argument_named (take i args ++ b ∷ []) name) is ∙ ap (λ bs. argument_named bs name) (sym (take_more args i a within))

-- a name and then its `no-` form, where the argument is a flag
pub named_both : (a : Argument) (name : List ℕ) (old : Option Meant) → is_flag a.takes ≡ true
    → or_meant (or_meant old (if bytes_eq name a.name then Some (meant_by a false) else None)) (if bytes_eq name (negation_of a.name) then Some (meant_by a true) else None)
    ≡ or_meant old (argument_named (a ∷ []) name)
named_both a name old flag =
    or_meant-assoc old (if bytes_eq name a.name then Some (meant_by a false) else None) (if bytes_eq name (negation_of a.name) then Some (meant_by a true) else None)
    ∙ ap (or_meant old) (by (bytes_eq name a.name) (is_flag a.takes) (bytes_eq name (negation_of a.name)) flag)
  where
    by : (b f n : Bool) → f ≡ true → or_meant (if b then Some (meant_by a false) else None) (if n then Some (meant_by a true) else None)
        ≡ (if b then Some (meant_by a false) else if f && n then Some (meant_by a true) else None)
    by true f n is = refl
    by false true true is = refl
    by false true false is = refl
    by false false n is = absurd (false≢true is)

-- or its name alone
pub named_once : (a : Argument) (name : List ℕ) (old : Option Meant) → is_flag a.takes ≡ false
    → or_meant old (if bytes_eq name a.name then Some (meant_by a false) else None) ≡ or_meant old (argument_named (a ∷ []) name)
named_once a name old flag = ap (or_meant old) (by (bytes_eq name a.name) (is_flag a.takes) (bytes_eq name (negation_of a.name)) flag)
  where
    by : (b f n : Bool) → f ≡ false → (if b then Some (meant_by a false) else None) ≡ (if b then Some (meant_by a false) else if f && n then Some (meant_by a true) else None)
    by true f n is = refl
    by false false n is = refl
    by false true n is = absurd (true≢false is)

-- what isn't there means nothing
none_from : (x : Option Meant) → is_some x ≡ false → x ≡ None
none_from None is = refl
none_from (Some m) is = absurd (true≢false is)

-- a new name is noted
pub name_new : (old : List ℕ → Option Meant) (name other : List ℕ) (meant : Meant) (new : Option Meant) → is_some (old name) ≡ false
    → new ≡ cond (bytes_eq name other) (Some meant) (old other) → new ≡ or_meant (old other) (if bytes_eq other name then Some meant else None)
name_new old name other meant new free updated = by (bytes_eq other name) refl
  where
    by : (b : Bool) → bytes_eq other name ≡ b → new ≡ or_meant (old other) (if b then Some meant else None)
    by true is =
        let same : other ≡ name = (bytes_eq-Decides other name).0 is in
        updated ∙ ap (λ b. cond b (Some meant) (old other)) ((bytes_eq-Decides name other).1 (sym same))
        ∙ sym (ap (λ x. or_meant x (Some meant)) (ap old same ∙ none_from (old name) free))
    by false is =
        let apart : bytes_eq name other ≡ false = false_from_ne_true (bytes_eq name other)
        (λ yes. false≢true (sym is ∙ (bytes_eq-Decides other name).1 (sym ((bytes_eq-Decides name other).0 yes)))) in
        updated ∙ ap (λ b. cond b (Some meant) (old other)) apart ∙ sym (or_meant-none (old other))

-- one that means something already keeps its meaning
pub name_there : (old : List ℕ → Option Meant) (name other : List ℕ) (meant : Meant) → is_some (old name) ≡ true
    → old other ≡ or_meant (old other) (if bytes_eq other name then Some meant else None)
name_there old name other meant there = by (bytes_eq other name) refl
  where
    kept : (x : Option Meant) → is_some x ≡ true → x ≡ or_meant x (Some meant)
    kept (Some m) is = refl
    kept None is = absurd (false≢true is)

    by : (b : Bool) → bytes_eq other name ≡ b → old other ≡ or_meant (old other) (if b then Some meant else None)
    by true is = kept (old other) (ap (λ n. is_some (old n)) ((bytes_eq-Decides other name).0 is) ∙ there)
    by false is = sym (or_meant-none (old other))
