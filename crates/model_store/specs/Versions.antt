-- The versions of a service among the files, and where they are looked for.
use Rattle.std.specs.Prelude.{◌≡◌, ℕ, ◌<◌, ◌≤◌, ◌==◌, ◌⊎◌, Bool, not, ◌&&◌, IsTrue, bytes_eq, List, ◌∷◌, [], ◌++◌, Option, None, Some, map, length, codes, option_map, slice_get, Contains, IfSome}
use Rattle.std.specs.List.{list_any}
use Rattle.aws_world.specs.FileTree.{file_at, IsChild}
use Rattle.texts.specs.Order.{IsBefore}
use Rattle.model_store.specs.declared.searching.ModelFile.{ModelFile}
use Rattle.model_store.specs.declared.searching.ModelFile.TheVariants.{Whole, TooLong}
use Rattle.model_store.specs.declared.searching.Version.{Version}
use Rattle.model_store.specs.Folders.{Held}

abbrev pub has_slash : List ℕ → Bool
has_slash word = list_any (λ c. c == 47) word

-- a word can name something in a folder: it isn't empty, '.' or '..', and has no '/' (POSIX.1-2017,
-- section 3.170 and, of the two names that lead elsewhere, 4.13)
abbrev pub is_plain : List ℕ → Bool
is_plain word = not (bytes_eq word []) && (not (bytes_eq word (codes ".")) && (not (bytes_eq word (codes "..")) && not (has_slash word)))

-- the path of a name in a folder
abbrev pub below : List ℕ → List ℕ → List ℕ
below folder name = folder ++ 47 ∷ name

-- the name of a service's model file, in the folder of a version
abbrev pub model_name : List ℕ
model_name = codes "service-2.json"

-- the path of a version's model file in a service's folder
abbrev pub model_path : List ℕ → List ℕ → List ℕ
model_path folder version = below (below folder version) model_name

-- the file that stands at a place, which has at most 32 MiB or is too long
abbrev pub IsFile : Option (List ℕ) → ModelFile → Type 0
IsFile None file = ⊥
IsFile (Some bytes) (Whole whole) = (bytes ≡ whole) × (length bytes ≤ 33554432)
IsFile (Some bytes) TooLong = 33554432 < length bytes

-- what was read at a place is the file there, or nothing
abbrev pub IsFileAt : Option (List ℕ) → Option ModelFile → Type 0
IsFileAt there None = there ≡ None
IsFileAt there (Some file) = IsFile there file

-- the first that is there
abbrev pub first_there : {A : Type 0} → List (Option A) → Option A
first_there [] = None
first_there (None ∷ others) = first_there others
first_there (Some x ∷ others) = Some x

-- what stands at a tail below the first of these folders that has a file there
abbrev pub first_at : Held → List (List ℕ) → List ℕ → Option (List ℕ)
first_at files folders tail = first_there (map (λ folder. file_at (below folder tail) files) folders)

-- the file of a version in a service's folder
abbrev pub IsModelAt : Held → List ℕ → List ℕ → ModelFile → Type 0
IsModelAt files folder name file = IsFile (file_at (model_path folder name) files) file

-- a version of a service in a folder of models, with its file
pub record IsVersion (files : Held) (folder service name : List ℕ) (file : ModelFile) : Type 0 where
  pub service_is : IsTrue (is_plain service)
  pub version_is : IsChild (below folder service) files name
  pub file_is : IsModelAt files (below folder service) name file

abbrev pub name_of : Option Version → Option (List ℕ)
name_of version = option_map (λ v. v.name) version

-- a name is the last one or comes before it, in the order of bytes
abbrev pub IsUpTo : Option (List ℕ) → List ℕ → Type 0
IsUpTo None name = ⊥
IsUpTo (Some last) name = (name ≡ last) ⊎ IsBefore name last

-- Of versions at places the greatest, and of those that have it the one at the first place.
pub record IsNewestOf (IsOneAt : ℕ → List ℕ → ModelFile → Type 0) (newest : Option Version) : Type 0 where
  pub greatest : (at : ℕ) (name : List ℕ) (file : ModelFile) → IsOneAt at name file → IsUpTo (name_of newest) name
  pub first : IfSome newest (λ v. (at : ℕ) × IsOneAt at v.name v.file
      × ((other : ℕ) (file : ModelFile) → other < at → IsOneAt other v.name file → ⊥))

-- a version of a service in the folder at a place among the folders
abbrev pub IsVersionAt : Held → List (List ℕ) → List ℕ → ℕ → List ℕ → ModelFile → Type 0
IsVersionAt files folders service at name file =
    (folder : List ℕ) × (slice_get folders at ≡ Some folder) × IsVersion files folder service name file

-- the greatest version of a service in the folders, and of those that have it that in the first
abbrev pub IsNewest : Held → List (List ℕ) → List ℕ → Option Version → Type 0
IsNewest files folders service newest = IsNewestOf (IsVersionAt files folders service) newest

-- the path of a version's model file in a folder; of files that tell what they hold, a version in it
abbrev pub IsVersionPath : Option Held → List ℕ → List ℕ → Type 0
IsVersionPath held folder path =
    (version : List ℕ) × IfSome held (λ files. IsChild folder files version) × (path ≡ model_path folder version)

-- a path at which a service is looked for in a folder: the service's folder in it, and the model file
-- of a version in that
pub data IsLookedAtIn (folder : List ℕ) (held : Option Held) (service path : List ℕ) : Type 0 where
  at_service : path ≡ below folder service → IsLookedAtIn folder held service path
  at_version : IsVersionPath held (below folder service) path → IsLookedAtIn folder held service path

-- a path at which a service is looked for in one of the folders
abbrev pub IsLookedAt : List (List ℕ) → Option Held → List ℕ → List ℕ → Type 0
IsLookedAt folders held service path = (folder : List ℕ) × Contains folders folder × IsLookedAtIn folder held service path

-- the path of a tail below one of the folders
abbrev pub IsTailPath : List (List ℕ) → List ℕ → List ℕ → Type 0
IsTailPath folders tail path = (folder : List ℕ) × Contains folders folder × (path ≡ below folder tail)
