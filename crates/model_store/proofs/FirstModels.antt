-- The model file of the newest version is the first at its tail.
use Rattle.std.proofs.Common.{◌≡◌, ℕ, zero, suc, ◌<◌, ◌≤◌, List, [], ◌∷◌, ◌++◌, length, Option, None, Some, Bool, true, false, if◌then◌else◌, refl, sym, ap, ◌∙◌, subst, arith, append_assoc, ◌⊎◌, ⊎_elim}
use Rattle.std.specs.Prelude.{Any, bytes_eq, slice_get}
use Rattle.std.proofs.lemmas.Bool.{cases_lt}
use Rattle.std.proofs.lemmas.Slice.Eq.{bytes_eq-Decides}
use Rattle.aws_world.specs.FileTree.{file_at, IsChild, IsThrough}
use Rattle.model_store.specs.declared.searching.ModelFile.{ModelFile}
use Rattle.model_store.specs.declared.searching.ModelFile.TheVariants.{Whole, TooLong}
use Rattle.model_store.specs.declared.searching.Version.{Version}
use Rattle.model_store.specs.Due.{tail_of}
use Rattle.model_store.specs.Folders.{Held}
use Rattle.model_store.specs.Laws.{NewestIsFirst}
use Rattle.model_store.specs.Versions.{below, first_at, model_name, model_path, IsFile, IsModelAt, IsVersion}
use Rattle.model_store.proofs.FirstFiles.{passed_by, taken_first}

none_is_some : (bytes : List ℕ) → None ≡ Some bytes → ⊥
none_is_some bytes e = cc

some_same : {A : Type 0} (x y : A) → Some x ≡ Some y → x ≡ y
some_same x y e = cc

-- what stands at a path is a file of some path of this kind
held_here : (P : List ℕ → Type 0) (f : List ℕ × List ℕ) (fs : Held) (path bytes : List ℕ) (is : Bool) → bytes_eq f.0 path ≡ is → (if is then Some f.1 else file_at path fs) ≡ Some bytes
    → P path → (file_at path fs ≡ Some bytes → Any (λ file. P file.0) fs) → Any (λ file. P file.0) (f ∷ fs)
held_here P f fs path bytes true same there here others = (0, f, omega arith, refl, subst P (sym ((bytes_eq-Decides f.0 path).0 same)) here)
held_here P f fs path bytes false same there here others = let more = others there in (suc more.0, more.1, omega (arith, more.2), more.3, more.4)

held_any : (P : List ℕ → Type 0) (files : Held) (path bytes : List ℕ) → file_at path files ≡ Some bytes → P path → Any (λ file. P file.0) files
held_any P [] path bytes there here = absurd (none_is_some bytes there)
held_any P (f ∷ fs) path bytes there here = held_here P f fs path bytes (bytes_eq f.0 path) refl there here (λ more. held_any P fs path bytes more here)

-- a place where bytes stand has a file
sized : (bytes : List ℕ) → (file : ModelFile) × IsFile (Some bytes) file
sized bytes =
    ⊎_elim (λ (more : 33554432 < length bytes). (TooLong, more)) (λ (most : length bytes ≤ 33554432). (Whole bytes, (refl, most))) (cases_lt 33554432 (length bytes))

-- a tail below a folder is a model's path in the service's folder
same_path : (folder service name : List ℕ) → below folder (tail_of service name model_name) ≡ model_path (below folder service) name
same_path folder service name =
    sym (append_assoc folder ((47 ∷ service) ++ 47 ∷ name) (47 ∷ model_name)) ∙ ap (λ path. path ++ 47 ∷ model_name) (sym (append_assoc folder (47 ∷ service) (47 ∷ name)))

-- a model's path goes through its version
through : (folder name : List ℕ) → IsThrough folder name (model_path folder name)
through folder name = (47 ∷ model_name, append_assoc folder (47 ∷ name) (47 ∷ model_name), refl)

-- where a version's file stands in a folder, the folder has the version
has_version : (files : Held) (folder service : List ℕ) (version : Version) (other bytes : List ℕ) → IsVersion files folder service version.name version.file
    → file_at (model_path (below other service) version.name) files ≡ Some bytes → (file : ModelFile) × IsVersion files other service version.name file
has_version files folder service version other bytes is there =
    let file = sized bytes in
    let here : IsModelAt files (below other service) version.name file.0 = subst (λ b. IsFile b file.0) (sym there) file.1 in (
      file.0,
      record {
        service_is = is.service_is;
        version_is = record {
          some = is.version_is.some;
          one_part = is.version_is.one_part;
          leads = held_any (IsThrough (below other service) version.name) files (model_path (below other service) version.name) bytes there (through (below other service) version.name);
        };
        file_is = here;
      },
    )

-- where no version's file stands
absent_if : (there : Option (List ℕ)) → ((bytes : List ℕ) → there ≡ Some bytes → ⊥) → there ≡ None
absent_if None none = refl
absent_if (Some bytes) none = absurd (none bytes refl)

-- what stands in the folder at a place is the first, where those before it have none
first_found : (files : Held) (folders : List (List ℕ)) (tail folder : List ℕ) (at : ℕ) (file : ModelFile) → slice_get folders at ≡ Some folder
    → ((other : ℕ) (before : List ℕ) → other < at → slice_get folders other ≡ Some before → file_at (below before tail) files ≡ None)
    → IsFile (file_at (below folder tail) files) file → IsFile (first_at files folders tail) file
first_found files [] tail folder at file is none here = absurd (none_is_some folder is)
first_found files (f ∷ fs) tail folder zero file is none here =
    taken_first (file_at (below f tail) files) _ file (subst (λ g. IsFile (file_at (below g tail) files) file) (sym (some_same f folder is)) here)
first_found files (f ∷ fs) tail folder (suc at) file is none here =
    subst (λ first. IsFile first file) (sym (passed_by (file_at (below f tail) files) _ (none zero f (omega arith) refl)))
    (first_found files fs tail folder at file is (λ other before lt there. none (suc other) before (omega (arith, lt)) there) here)

pub newest_is_first : NewestIsFirst
newest_is_first files folders service version is =
    let at = is.first.0 in
    let here = is.first.1 in
    first_found files folders (tail_of service version.name model_name) here.0 at version.file here.1
    (λ other before lt there.
    absent_if (file_at (below before (tail_of service version.name model_name)) files)
    (λ bytes stands.
    let version_there = has_version files here.0 service version before bytes here.2 (ap (λ path. file_at path files) (sym (same_path before service version.name)) ∙ stands) in
    is.first.2 other version_there.0 lt (before, there, version_there.1)))
    (subst (λ path. IsFile (file_at path files) version.file) (sym (same_path here.0 service version.name)) here.2.file_is)
