-- The last value of a name, in parts of a list.
use Rattle.std.proofs.Common.{◌≡◌, ℕ, true, false, if◌then◌else◌, List, [], ◌∷◌, ◌++◌, Option, None, Some, Bor, sym, refl, ap, ◌∙◌}
use Rattle.std.specs.Option.{option_or, option_copied}
use Rattle.std.specs.Prelude.{filter, flat_map}
use Rattle.std.specs.Str.{bytes_eq}
use Rattle.config_file.specs.declared.profiles.Section.{Section}
use Rattle.config_file.specs.Lookups.{last_value, is_of, profile_keys, value_in}

pub option_or-none : {A : Type 0} (o : Option A) → option_or o None ≡ o
option_or-none None = refl
option_or-none (Some x) = refl

pub option_or-assoc : {A : Type 0} (a b c : Option A) → option_or (option_or a b) c ≡ option_or a (option_or b c)
option_or-assoc None b c = refl
option_or-assoc (Some x) b c = refl

-- the last value in two lists is that in the second, else that in the first
pub last_value-append : (name : List ℕ) (ps qs : List (List ℕ × List ℕ)) → last_value name (ps ++ qs) ≡ option_or (last_value name qs) (last_value name ps)
last_value-append name [] qs = sym (option_or-none (last_value name qs))
last_value-append name (p ∷ ps) qs =
    ap (λ o. option_or o (if bytes_eq p.0 name then Some p.1 else None)) (last_value-append name ps qs)
    ∙ option_or-assoc (last_value name qs) (last_value name ps) (if bytes_eq p.0 name then Some p.1 else None)

-- a section of the profile is before those behind it
pub value_in-of : (profile key : List ℕ) (s : Section) (ss : List Section) → is_of profile s ≡ true
    → value_in profile key (s ∷ ss) ≡ option_or (value_in profile key ss) (last_value key s.keys)
value_in-of profile key s ss of =
    ap (λ b. last_value key (flat_map (λ t. t.keys) (if b then s ∷ filter (is_of profile) ss else filter (is_of profile) ss))) of
    ∙ last_value-append key s.keys (profile_keys profile ss)

-- a section of another profile changes nothing
pub value_in-other : (profile key : List ℕ) (s : Section) (ss : List Section) → is_of profile s ≡ false
    → value_in profile key (s ∷ ss) ≡ value_in profile key ss
value_in-other profile key s ss other =
    ap (λ b. last_value key (flat_map (λ t. t.keys) (if b then s ∷ filter (is_of profile) ss else filter (is_of profile) ss))) other

pub option_copied-or : {A : Type 0} (a b : Option (Bor A)) → option_copied (option_or a b) ≡ option_or (option_copied a) (option_copied b)
option_copied-or None b = refl
option_copied-or (Some x) b = refl

-- the step of a loop over sections: a section of the profile, and one of another
pub section-of : (profile key : List ℕ) (s : Section) (ss : List Section) (old new whole : Option (List ℕ)) → is_of profile s ≡ true
    → new ≡ option_or (last_value key s.keys) old → option_or (value_in profile key (s ∷ ss)) old ≡ whole → option_or (value_in profile key ss) new ≡ whole
section-of profile key s ss old new whole of is before =
    ap (λ o. option_or (value_in profile key ss) o) is
    ∙ sym (option_or-assoc (value_in profile key ss) (last_value key s.keys) old)
    ∙ ap (λ o. option_or o old) (sym (value_in-of profile key s ss of))
    ∙ before

pub section-other : (profile key : List ℕ) (s : Section) (ss : List Section) (old whole : Option (List ℕ)) → is_of profile s ≡ false
    → option_or (value_in profile key (s ∷ ss)) old ≡ whole → option_or (value_in profile key ss) old ≡ whole
section-other profile key s ss old whole other before = ap (λ o. option_or o old) (sym (value_in-other profile key s ss other)) ∙ before
