-- The newest of versions.
use Rattle.std.proofs.Common.{◌≡◌, ℕ, ◌+◌, ◌<◌, ◌≤◌, List, Option, None, Some, refl, sym, ap, ◌∙◌, subst, arith, ◌⊎◌, inl, inr, ⊎_elim}
use Rattle.std.specs.Option.{option_or}
use Rattle.std.proofs.lemmas.Bool.{cases_lt, cases_eq}
use Rattle.model_store.specs.declared.searching.ModelFile.{ModelFile}
use Rattle.model_store.specs.declared.searching.ModelFile.TheVariants.{Whole, TooLong}
use Rattle.model_store.specs.declared.searching.Version.{Version}
use Rattle.model_store.specs.Inside.{IsNewer}
use Rattle.model_store.specs.Versions.{IsFile, IsNewestOf, name_of}
use Rattle.model_store.proofs.Orders.{up_to_after, not_both, up_to_each}

-- versions of one kind that are just those of another
pub newer_same : (P Q : List ℕ → ModelFile → Type 0) (newest newer : Option Version) → ((name : List ℕ) (file : ModelFile) → P name file → Q name file)
    → ((name : List ℕ) (file : ModelFile) → Q name file → P name file) → IsNewer P newest newer → IsNewer Q newest newer
newer_same P Q newest None to from is = record { greatest = λ name file q. is.greatest name file (from name file q); there = tt }
newer_same P Q newest (Some v) to from is = record {
  greatest = λ name file q. is.greatest name file (from name file q);
  there = (to v.name v.file is.there.0, is.there.1);
}

-- where there are no versions, none is newer
pub newer_none : (P : List ℕ → ModelFile → Type 0) (newest : Option Version) → ((name : List ℕ) (file : ModelFile) → P name file → ⊥) → IsNewer P newest None
newer_none P newest empty = record { greatest = λ name file p. absurd (empty name file p); there = tt }

-- versions at places before this one
abbrev pub Before : ℕ → (ℕ → List ℕ → ModelFile → Type 0) → ℕ → List ℕ → ModelFile → Type 0
Before place P at name file = (at < place) × P at name file

pub newest_before_any : (P : ℕ → List ℕ → ModelFile → Type 0) → IsNewestOf (Before 0 P) None
newest_before_any P = record { greatest = λ at name file p. absurd (omega (arith, p.0)); first = tt }

-- behind the last place there are no others
pub newest_of_all : (P : ℕ → List ℕ → ModelFile → Type 0) (place : ℕ) (newest : Option Version) → ((at : ℕ) (name : List ℕ) (file : ModelFile) → P at name file → at < place)
    → IsNewestOf (Before place P) newest → IsNewestOf P newest
newest_of_all P place None within is = record { greatest = λ at name file p. is.greatest at name file (within at name file p, p); first = tt }
newest_of_all P place (Some v) within is = record {
  greatest = λ at name file p. is.greatest at name file (within at name file p, p);
  first = (is.first.0, is.first.1.1, λ other file lt p. is.first.2 other file lt (within other v.name file p, p));
}

last_place : (at place : ℕ) → at < place + 1 → (at < place) ⊎ (at ≡ place)
last_place at place lt = ⊎_elim (λ (z : at ≡ place). inr z) (λ (nz : at ≡ place → ⊥). inl (omega arith)) (cases_eq at place)

-- the versions at one more place, of which none is newer
pub newest_stays : (P : ℕ → List ℕ → ModelFile → Type 0) (Q : List ℕ → ModelFile → Type 0) (place : ℕ) (newest : Option Version)
    → ((name : List ℕ) (file : ModelFile) → P place name file → Q name file) → IsNewer Q newest None → IsNewestOf (Before place P) newest → IsNewestOf (Before (place + 1) P) newest
newest_stays P Q place None here newer is = record {
  greatest = λ at name file p.
      ⊎_elim (λ (lt : at < place). is.greatest at name file (lt, p.1))
      (λ (e : at ≡ place). newer.greatest name file (here name file (subst (λ k. P k name file) e p.1))) (last_place at place p.0);
  first = tt;
}
newest_stays P Q place (Some v) here newer is = record {
  greatest = λ at name file p.
      ⊎_elim (λ (lt : at < place). is.greatest at name file (lt, p.1))
      (λ (e : at ≡ place). newer.greatest name file (here name file (subst (λ k. P k name file) e p.1))) (last_place at place p.0);
  first = (
    is.first.0,
    (omega (arith, is.first.1.0), is.first.1.1),
    λ other file lt p. is.first.2 other file lt (omega (arith, lt, is.first.1.0), p.1),
  );
}

-- the versions at one more place, of which one is newer
pub newest_rises : (P : ℕ → List ℕ → ModelFile → Type 0) (Q : List ℕ → ModelFile → Type 0) (place : ℕ) (newest : Option Version) (v : Version)
    → ((name : List ℕ) (file : ModelFile) → P place name file → Q name file) → ((name : List ℕ) (file : ModelFile) → Q name file → P place name file)
    → IsNewer Q newest (Some v) → IsNewestOf (Before place P) newest → IsNewestOf (Before (place + 1) P) (Some v)
newest_rises P Q place newest v here there newer is = record {
  greatest = λ at name file p.
      ⊎_elim (λ (lt : at < place). up_to_after (name_of newest) name v.name (is.greatest at name file (lt, p.1)) newer.there.1)
      (λ (e : at ≡ place). newer.greatest name file (here name file (subst (λ k. P k name file) e p.1))) (last_place at place p.0);
  first = (
    place,
    (omega arith, there v.name v.file newer.there.0),
    λ other file lt p. not_both (name_of newest) v.name (is.greatest other v.name file (lt, p.1)) newer.there.1,
  );
}

-- the newest version with those at one more place
pub newest_goes : (P : ℕ → List ℕ → ModelFile → Type 0) (Q : List ℕ → ModelFile → Type 0) (place : ℕ) (newest newer : Option Version)
    → ((name : List ℕ) (file : ModelFile) → P place name file → Q name file) → ((name : List ℕ) (file : ModelFile) → Q name file → P place name file)
    → IsNewer Q newest newer → IsNewestOf (Before place P) newest → IsNewestOf (Before (place + 1) P) (option_or newer newest)
newest_goes P Q place newest None here there newer is = newest_stays P Q place newest here newer is
newest_goes P Q place newest (Some v) here there newer is = newest_rises P Q place newest v here there newer is

-- a place has one file
pub one_file : (there : Option (List ℕ)) (a b : ModelFile) → IsFile there a → IsFile there b → a ≡ b
one_file None a b p q = absurd p
one_file (Some bytes) (Whole x) (Whole y) p q = ap Whole (sym p.0 ∙ q.0)
one_file (Some bytes) (Whole x) TooLong p q = absurd (omega (arith, p.1, q))
one_file (Some bytes) TooLong (Whole y) p q = absurd (omega (arith, p, q.1))
one_file (Some bytes) TooLong TooLong p q = refl

places : (i j : ℕ) → (i < j) ⊎ ((i ≡ j) ⊎ (j < i))
places i j =
    ⊎_elim (λ (z : i ≡ j). inr (inl z))
    (λ (nz : i ≡ j → ⊥). ⊎_elim (λ (lt : i < j). inl lt) (λ (ge : j ≤ i). inr (inr (omega arith))) (cases_lt i j)) (cases_eq i j)

abbrev version_of : List ℕ → ModelFile → Version
version_of name file = record { name = name; file = file }

same_version : (v w : Version) → v.name ≡ w.name → v.file ≡ w.file → v ≡ w
same_version v w name file = ap (λ n. version_of n v.file) name ∙ ap (λ f. version_of w.name f) file

-- versions have one newest, where a place has one file of a name
pub one_newest : (P : ℕ → List ℕ → ModelFile → Type 0) (a b : Option Version)
    → ((at : ℕ) (name : List ℕ) (f g : ModelFile) → P at name f → P at name g → f ≡ g) → IsNewestOf P a → IsNewestOf P b → a ≡ b
one_newest P None None same p q = refl
one_newest P None (Some w) same p q = absurd (p.greatest q.first.0 w.name w.file q.first.1)
one_newest P (Some v) None same p q = absurd (q.greatest p.first.0 v.name v.file p.first.1)
one_newest P (Some v) (Some w) same p q =
    let name : v.name ≡ w.name = up_to_each v.name w.name (q.greatest p.first.0 v.name v.file p.first.1) (p.greatest q.first.0 w.name w.file q.first.1) in
    ⊎_elim (λ (lt : p.first.0 < q.first.0). absurd (q.first.2 p.first.0 v.file lt (subst (λ n. P p.first.0 n v.file) name p.first.1)))
    (λ (more : (p.first.0 ≡ q.first.0) ⊎ (q.first.0 < p.first.0)).
    ⊎_elim (λ (e : p.first.0 ≡ q.first.0).
    let file : v.file ≡ w.file = same q.first.0 w.name v.file w.file (subst (λ n. P q.first.0 n v.file) name (subst (λ k. P k v.name v.file) e p.first.1)) q.first.1 in
    ap Some (same_version v w name file))
    (λ (gt : q.first.0 < p.first.0). absurd (p.first.2 q.first.0 w.file gt (subst (λ n. P q.first.0 n w.file) (sym name) q.first.1))) more)
    (places p.first.0 q.first.0)
