-- An argument in the place of the earlier one of its member.
use Rattle.std.proofs.Common.{◌≡◌, ℕ, ◌+◌, Bool, true, false, nat_eq, if◌then◌else◌, List, [], ◌∷◌, ◌++◌, set, None, Some, refl, sym, ap, ◌∙◌}
use Rattle.std.specs.Prelude.{◌≢◌, ◌||◌, cond, not}
use Rattle.std.specs.List.{list_any, position_or_len}
use Rattle.std.proofs.lemmas.Bool.{false≢true, true≢false, eq-eqb, eqb-true, ne_eqb}
use Rattle.std.proofs.lemmas.List.{map-append}
use Rattle.std.proofs.Math.Numerals.{one-add}
use Rattle.indexmap.specs.IndexSet.{insert_key}
use Rattle.arg_table.specs.declared.lines.Arg.{Arg}
use Rattle.arg_table.specs.Laws.{arg_at}
use Rattle.arg_table.specs.Lines.{put_arg, members_of, is_given}

-- a new member is the last
put_last : (args : List Arg) (arg : Arg) → list_any (nat_eq arg.member) (members_of args) ≡ false → put_arg args arg ≡ args ++ arg ∷ []
put_last [] arg new = refl
put_last (a ∷ args) arg new = by (nat_eq arg.member a.member) new (put_last args arg)
  where
    by : (b : Bool) → (b || list_any (nat_eq arg.member) (members_of args)) ≡ false
        → (list_any (nat_eq arg.member) (members_of args) ≡ false → put_arg args arg ≡ args ++ arg ∷ [])
        → (if b then arg ∷ args else a ∷ put_arg args arg) ≡ a ∷ args ++ arg ∷ []
    by true is rest = absurd (false≢true (sym is))
    by false is rest = ap (λ more. a ∷ more) (rest is)

-- another one stays where it is
put_set : (args : List Arg) (arg : Arg) → list_any (nat_eq arg.member) (members_of args) ≡ true
    → put_arg args arg ≡ set args (position_or_len (nat_eq arg.member) (members_of args)) arg
put_set [] arg there = absurd (false≢true there)
put_set (a ∷ args) arg there = by (nat_eq arg.member a.member) refl there (put_set args arg)
  where
    by : (b : Bool) → nat_eq arg.member a.member ≡ b → (b || list_any (nat_eq arg.member) (members_of args)) ≡ true
        → (list_any (nat_eq arg.member) (members_of args) ≡ true → put_arg args arg ≡ set args (position_or_len (nat_eq arg.member) (members_of args)) arg)
        → (if b then arg ∷ args else a ∷ put_arg args arg) ≡ set (a ∷ args) (position_or_len (nat_eq arg.member) (members_of (a ∷ args))) arg
    by true is there rest =
        let place = position_or_len (nat_eq arg.member) (members_of args) in
        sym (ap (λ c. set (a ∷ args) (cond (not c) (1 + place) 0) arg) is)
    by false is there rest =
        let place = position_or_len (nat_eq arg.member) (members_of args) in
        ap (λ more. a ∷ more) (rest there) ∙ sym (ap (λ n. set (a ∷ args) n arg) (ap (λ c. cond (not c) (1 + place) 0) is ∙ one-add place))

-- the members stay
pub members-put_given : (args : List Arg) (arg : Arg) → is_given args arg.member ≡ true → members_of (put_arg args arg) ≡ members_of args
members-put_given [] arg there = absurd (false≢true there)
members-put_given (a ∷ args) arg there = by (nat_eq arg.member a.member) refl there (members-put_given args arg)
  where
    by : (b : Bool) → nat_eq arg.member a.member ≡ b → (b || is_given args arg.member) ≡ true
        → (is_given args arg.member ≡ true → members_of (put_arg args arg) ≡ members_of args)
        → members_of (if b then arg ∷ args else a ∷ put_arg args arg) ≡ a.member ∷ members_of args
    by true is there rest = ap (λ m. m ∷ members_of args) (eqb-true arg.member a.member is)
    by false is there rest = ap (λ ms. a.member ∷ ms) (rest there)

pub arg_at-put_same : (args : List Arg) (arg : Arg) → arg_at (put_arg args arg) arg.member ≡ Some arg
arg_at-put_same [] arg = ap (λ b. if b then Some arg else None) (eq-eqb arg.member arg.member refl)
arg_at-put_same (a ∷ args) arg = by (nat_eq arg.member a.member) refl (arg_at-put_same args arg)
  where
    by : (b : Bool) → nat_eq arg.member a.member ≡ b → arg_at (put_arg args arg) arg.member ≡ Some arg
        → arg_at (if b then arg ∷ args else a ∷ put_arg args arg) arg.member ≡ Some arg
    by true is rest = ap (λ b. if b then Some arg else arg_at args arg.member) (eq-eqb arg.member arg.member refl)
    by false is rest = ap (λ b. if b then Some a else arg_at (put_arg args arg) arg.member) is ∙ rest

pub arg_at-put_other : (args : List Arg) (arg : Arg) (member : ℕ) → member ≢ arg.member → arg_at (put_arg args arg) member ≡ arg_at args member
arg_at-put_other [] arg member other = ap (λ b. if b then Some arg else None) (ne_eqb member arg.member other)
arg_at-put_other (a ∷ args) arg member other = by (nat_eq arg.member a.member) refl (arg_at-put_other args arg member other)
  where
    by : (b : Bool) → nat_eq arg.member a.member ≡ b → arg_at (put_arg args arg) member ≡ arg_at args member
        → arg_at (if b then arg ∷ args else a ∷ put_arg args arg) member ≡ arg_at (a ∷ args) member
    by true is rest =
        ap (λ b. if b then Some arg else arg_at args member) (ne_eqb member arg.member other)
        ∙ sym (ap (λ b. if b then Some a else arg_at args member) (ne_eqb member a.member (λ same. other (same ∙ sym (eqb-true arg.member a.member is)))))
    by false is rest = ap (λ r. if nat_eq member a.member then Some a else r) rest

-- whether a member was given, by the members
pub given_by_members : (member : ℕ) (args : List Arg) → list_any (nat_eq member) (members_of args) ≡ is_given args member
given_by_members member [] = refl
given_by_members member (a ∷ args) = ap (λ b. nat_eq member a.member || b) (given_by_members member args)

true_from_not : (b c : Bool) → b ≡ not c → b ≡ false → c ≡ true
true_from_not b true is no_one = refl
true_from_not b false is no_one = absurd (true≢false (sym is ∙ no_one))

false_from_not : (b c : Bool) → b ≡ not c → b ≡ true → c ≡ false
false_from_not b false is new = refl
false_from_not b true is new = absurd (false≢true (sym is ∙ new))

-- the set of members tells whether an argument is new, and where an earlier one stands
module _ (keys : List ℕ) (args : List Arg) (arg : Arg) (is_new : Bool) (gathered : keys ≡ members_of args) (tells : is_new ≡ not (list_any (nat_eq arg.member) keys)) where
  pub put_new : (after : List Arg) → is_new ≡ true → after ≡ args ++ arg ∷ [] → after ≡ put_arg args arg
  put_new after new pushed =
      pushed ∙ sym (put_last args arg (sym (ap (list_any (nat_eq arg.member)) gathered) ∙ false_from_not is_new (list_any (nat_eq arg.member) keys) tells new))

  pub members_new : (after : List Arg) (keys_after : List ℕ) → is_new ≡ true → after ≡ args ++ arg ∷ [] → keys_after ≡ insert_key nat_eq keys arg.member
      → keys_after ≡ members_of after
  members_new after keys_after new pushed inserted =
      inserted ∙ ap (λ b. cond b keys (keys ++ arg.member ∷ [])) (false_from_not is_new (list_any (nat_eq arg.member) keys) tells new)
      ∙ ap (λ ks. ks ++ arg.member ∷ []) gathered ∙ sym (ap members_of pushed ∙ map-append (λ a. a.member) args (arg ∷ []))

  there : is_new ≡ false → list_any (nat_eq arg.member) (members_of args) ≡ true
  there old = sym (ap (list_any (nat_eq arg.member)) gathered) ∙ true_from_not is_new (list_any (nat_eq arg.member) keys) tells old

  pub put_again : (after : List Arg) (place : ℕ) → is_new ≡ false → place ≡ position_or_len (nat_eq arg.member) keys → after ≡ set args place arg
      → after ≡ put_arg args arg
  put_again after place old at written =
      written ∙ ap (λ n. set args n arg) (at ∙ ap (position_or_len (nat_eq arg.member)) gathered) ∙ sym (put_set args arg (there old))

  pub members_again : (after : List Arg) (place : ℕ) (keys_after : List ℕ) → is_new ≡ false → place ≡ position_or_len (nat_eq arg.member) keys
      → after ≡ set args place arg → keys_after ≡ insert_key nat_eq keys arg.member → keys_after ≡ members_of after
  members_again after place keys_after old at written inserted =
      inserted ∙ ap (λ b. cond b keys (keys ++ arg.member ∷ [])) (true_from_not is_new (list_any (nat_eq arg.member) keys) tells old)
      ∙ gathered ∙ sym (members-put_given args arg (sym (given_by_members arg.member args) ∙ there old))
      ∙ ap members_of (sym (put_again after place old at written))
