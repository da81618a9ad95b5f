-- The search for a service's model among the files.
use Rattle.std.proofs.Common.{◌≡◌, ℕ, zero, suc, ◌<◌, ◌≤◌, List, [], ◌∷◌, ◌++◌, length, Option, None, Some, sym, ap, ◌∙◌, subst, arith, ◌⊎◌, ⊎_elim}
use Rattle.std.specs.Prelude.{AllPairs, Contains, true, false, slice_get}
use Rattle.std.proofs.lemmas.Option.{slice_get_within}
use Rattle.aws_world.specs.FileTree.{file_at, IsListing, IsChild, HasBelow}
use Rattle.texts.specs.Order.{IsBefore}
use Rattle.model_store.specs.declared.searching.ModelFile.{ModelFile}
use Rattle.model_store.specs.declared.searching.Version.{Version}
use Rattle.model_store.specs.Folders.{Held}
use Rattle.model_store.specs.Inside.{IsAfter, IsListed, IsNewer}
use Rattle.model_store.specs.Versions.{below, is_plain, model_path, name_of, IsFile, IsFileAt, IsUpTo, IsModelAt, IsNewest, IsVersion, IsVersionAt}
use Rattle.model_store.proofs.Orders.{behind_or_up_to, contains_middle, up_to_trans}
use Rattle.model_store.proofs.Versions.{newer_same, newer_none, newest_of_all, one_file, one_newest, Before}
use Rattle.model_store.specs.Versions.{IsNewestOf}

-- a child's folder has something below it
pub below_of_child : (folder : List ℕ) (files : Held) (name : List ℕ) → IsChild folder files name → HasBelow folder files
below_of_child folder files name child =
    let leads = child.leads in
    (leads.0, leads.1, leads.2, leads.3, (name ++ leads.4.0, leads.4.1))

-- nothing below a folder: no names
pub no_names : (folder : List ℕ) (files : Held) → (HasBelow folder files → ⊥) → IsListing folder files []
no_names folder files empty = record {
  ascending = λ i j d lt within. absurd (omega (arith, within));
  exact = λ name. (λ among. absurd (omega (arith, among.1)), λ child. absurd (empty (below_of_child folder files name child)));
}

true_not_false : true ≡ false → ⊥
true_not_false e = absurd (cc)

-- none of these names has a model file
abbrev pub HasNone : Held → List ℕ → List (List ℕ) → Type 0
HasNone files folder names = (name : List ℕ) (file : ModelFile) → Contains names name → IsModelAt files folder name file → ⊥

pub none_of_none : (files : Held) (folder : List ℕ) → HasNone files folder []
none_of_none files folder = λ name file among here. omega (arith, among.1)

-- one more name that has none
pub none_more : (files : Held) (folder : List ℕ) (back : List (List ℕ)) (name : List ℕ) → ((file : ModelFile) → IsModelAt files folder name file → ⊥)
    → HasNone files folder back → HasNone files folder (name ∷ back)
none_more files folder back name missing others other file (zero, within, is) here = missing file (subst (λ n. IsModelAt files folder n file) (sym is) here)
none_more files folder back name missing others other file (suc k, within, is) here = others other file (k, omega arith, is) here

-- those behind a name have no file: the versions with a file are up to it
pub up_to_name : (files : Held) (folder : List ℕ) (versions smaller back : List (List ℕ)) (name other : List ℕ) (file : ModelFile) → versions ≡ smaller ++ (name ∷ back)
    → AllPairs IsBefore versions → HasNone files folder back → IsListed files folder versions other file → (other ≡ name) ⊎ IsBefore other name
up_to_name files folder versions smaller back name other file e ascending none listed =
    ⊎_elim (λ (behind : Contains back other). absurd (none other file behind listed.1)) (λ (up_to : (other ≡ name) ⊎ IsBefore other name). up_to)
    (behind_or_up_to smaller back name other (subst (AllPairs IsBefore) e ascending) (subst (λ names. Contains names other) e listed.0))

-- a version that doesn't come after the newest so far, where those behind it have no file: none is newer
pub none_newer : (files : Held) (folder : List ℕ) (versions smaller back : List (List ℕ)) (name : List ℕ) (newest : Option Version) → versions ≡ smaller ++ (name ∷ back)
    → AllPairs IsBefore versions → HasNone files folder back → IsUpTo (name_of newest) name → IsNewer (IsListed files folder versions) newest None
none_newer files folder versions smaller back name newest e ascending none up_to = record {
  greatest = λ other file listed. up_to_trans (name_of newest) other name (up_to_name files folder versions smaller back name other file e ascending none listed) up_to;
  there = tt;
}

-- a version with a file that comes after it is newer
pub is_newer : (files : Held) (folder : List ℕ) (versions smaller back : List (List ℕ)) (name : List ℕ) (newest : Option Version) (v : Version) → versions ≡ smaller ++ (name ∷ back)
    → AllPairs IsBefore versions → HasNone files folder back → IsAfter (name_of newest) name → v.name ≡ name → IsModelAt files folder name v.file
    → IsNewer (IsListed files folder versions) newest (Some v)
is_newer files folder versions smaller back name newest v e ascending none after is here = record {
  greatest = λ other file listed. subst (λ n. (other ≡ n) ⊎ IsBefore other n) (sym is) (up_to_name files folder versions smaller back name other file e ascending none listed);
  there = (
    (
      subst (λ names. Contains names v.name) (sym e) (subst (λ n. Contains (smaller ++ (name ∷ back)) n) (sym is) (contains_middle smaller back name)),
      subst (λ n. IsModelAt files folder n v.file) (sym is) here,
    ),
    subst (IsAfter (name_of newest)) (sym is) after,
  );
}

-- where no version has a file, none is newer
pub all_passed : (files : Held) (folder : List ℕ) (versions : List (List ℕ)) (newest : Option Version) → HasNone files folder versions → IsNewer (IsListed files folder versions) newest None
all_passed files folder versions newest none = newer_none (IsListed files folder versions) newest (λ name file listed. none name file listed.0 listed.1)

-- what is left is empty: all were passed
pub passed_all : (files : Held) (folder : List ℕ) (versions left back : List (List ℕ)) → length left ≡ 0 → versions ≡ left ++ back → HasNone files folder back → HasNone files folder versions
passed_all files folder versions [] back empty e none = subst (HasNone files folder) (sym e) none
passed_all files folder versions (v ∷ vs) back empty e none = absurd (omega (arith, empty))

-- what was read at a version's path is its file
pub file_here : (files : Held) (folder name path : List ℕ) (found : Option ModelFile) (file made : ModelFile) → path ≡ model_path folder name
    → IsFileAt (file_at path files) found → found ≡ Some file → made ≡ file → IsModelAt files folder name made
file_here files folder name path found file made is here some same =
    subst (IsModelAt files folder name) (sym same) (subst (λ p. IsFile (file_at p files) file) is (subst (IsFileAt (file_at path files)) some here))

-- nothing was read at a version's path
pub none_here : (files : Held) (folder name path : List ℕ) (found : Option ModelFile) → path ≡ model_path folder name → IsFileAt (file_at path files) found → found ≡ None
    → (file : ModelFile) → IsModelAt files folder name file → ⊥
none_here files folder name path found is here none file there =
    subst (λ bytes. IsFile bytes file) (sym (ap (λ p. file_at p files) is) ∙ subst (IsFileAt (file_at path files)) none here) there

-- what can't name a service has no versions
pub no_service : (files : Held) (folder service : List ℕ) (newest : Option Version) → is_plain service ≡ false → IsNewer (IsVersion files folder service) newest None
no_service files folder service newest not_plain =
    newer_none (IsVersion files folder service) newest (λ name file version. true_not_false (sym version.service_is ∙ not_plain))

-- the versions of a service are those that are listed in its folder
pub listed_versions : (files : Held) (folder service path : List ℕ) (versions : List (List ℕ)) (newest newer : Option Version)
    → is_plain service ≡ true → path ≡ below folder service → IsListing path files versions
    → IsNewer (IsListed files path versions) newest newer → IsNewer (IsVersion files folder service) newest newer
listed_versions files folder service path versions newest newer plain is below_it newer_is =
    newer_same (IsListed files path versions) (IsVersion files folder service) newest newer
    (λ name file listed. record {
      service_is = plain;
      version_is = subst (λ p. IsChild p files name) is ((below_it.exact name).0 listed.0);
      file_is = subst (λ p. IsModelAt files p name file) is listed.1;
    })
    (λ name file version. (
      (below_it.exact name).1 (subst (λ p. IsChild p files name) (sym is) version.version_is),
      subst (λ p. IsModelAt files p name file) (sym is) version.file_is,
    ))
    newer_is

some_same : {A : Type 0} (x y : A) → Some x ≡ Some y → x ≡ y
some_same x y e = cc

-- the versions at a place are those in the folder there
pub here_is : (files : Held) (folders : List (List ℕ)) (service folder : List ℕ) (at : ℕ) → slice_get folders at ≡ Some folder → (name : List ℕ) (file : ModelFile)
    → IsVersionAt files folders service at name file → IsVersion files folder service name file
here_is files folders service folder at is name file version =
    subst (λ f. IsVersion files f service name file) (some_same version.0 folder (sym version.1 ∙ is)) version.2

pub is_here : (files : Held) (folders : List (List ℕ)) (service folder : List ℕ) (at : ℕ) → slice_get folders at ≡ Some folder → (name : List ℕ) (file : ModelFile)
    → IsVersion files folder service name file → IsVersionAt files folders service at name file
is_here files folders service folder at is name file version = (folder, is, version)

-- all folders were looked at
pub looked_at_all : (files : Held) (folders : List (List ℕ)) (service : List ℕ) (place : ℕ) (newest : Option Version) → length folders ≤ place
    → IsNewestOf (Before place (IsVersionAt files folders service)) newest → IsNewest files folders service newest
looked_at_all files folders service place newest past is =
    newest_of_all (IsVersionAt files folders service) place newest
    (λ at name file version. let within : at < length folders = slice_get_within folders at version.0 version.1 in omega (arith, past, within)) is

-- a service has one newest version in the folders
pub one_version : (files : Held) (folders : List (List ℕ)) (service : List ℕ) (a b : Option Version) → IsNewest files folders service a → IsNewest files folders service b → a ≡ b
one_version files folders service a b p q =
    one_newest (IsVersionAt files folders service) a b
    (λ at name f g x y.
    let same : x.0 ≡ y.0 = some_same x.0 y.0 (sym x.1 ∙ y.1) in
    one_file _ f g x.2.file_is (subst (λ folder. IsModelAt files (below folder service) name g) (sym same) y.2.file_is)) p q
