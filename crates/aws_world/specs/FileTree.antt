-- Files as pairs of a path and bytes, and the folders that their paths make.
use Rattle.std.specs.Prelude.{◌≡◌, ◌≢◌, ℕ, ◌<◌, ◌↔◌, if◌then◌else◌, Option, None, Some, List, [], ◌∷◌, ◌++◌, length, Contains, AllPairs, All, Any, bytes_eq}
use Rattle.texts.specs.Order.{IsBefore}

-- the bytes at the first pair of a path
abbrev pub file_at : List ℕ → List (List ℕ × List ℕ) → Option (List ℕ)
file_at path [] = None
file_at path (f ∷ fs) = if bytes_eq f.0 path then Some f.1 else file_at path fs

-- a file that is there and has more bytes than the limit
abbrev pub IsLonger : ℕ → Option (List ℕ) → Type 0
IsLonger limit None = ⊥
IsLonger limit (Some bytes) = limit < length bytes

-- a path is the folder, '/' and more
abbrev pub IsBelow : List ℕ → List ℕ → Type 0
IsBelow folder path = (rest : List ℕ) × (path ≡ folder ++ 47 ∷ rest)

-- some path lies below the folder
abbrev pub HasBelow : List ℕ → List (List ℕ × List ℕ) → Type 0
HasBelow folder files = Any (λ file. IsBelow folder file.0) files

-- the end of a path, or '/' and more
abbrev pub EndsPart : List ℕ → Type 0
EndsPart [] = Unit {0}
EndsPart (c ∷ cs) = c ≡ 47

-- a path is the folder, '/', the name, and then ends or goes on with '/'
abbrev pub IsThrough : List ℕ → List ℕ → List ℕ → Type 0
IsThrough folder name path = (rest : List ℕ) × (path ≡ folder ++ 47 ∷ (name ++ rest)) × EndsPart rest

-- the part of a path before its first '/'
pub record IsFirstPart (path part : List ℕ) : Type 0 where
  pub rest : List ℕ
  pub cut : path ≡ part ++ rest
  pub ends : EndsPart rest
  pub whole : All (λ c. c ≢ 47) part

-- a name directly below the folder: not empty, without '/', and some path goes through it
pub record IsChild (folder : List ℕ) (files : List (List ℕ × List ℕ)) (name : List ℕ) : Type 0 where
  pub some : name ≢ []
  pub one_part : ¬ Contains name 47
  pub leads : Any (λ file. IsThrough folder name file.0) files

-- the names directly below the folder, each once, in the order of texts
pub record IsListing (folder : List ℕ) (files : List (List ℕ × List ℕ)) (names : List (List ℕ)) : Type 0 where
  pub ascending : AllPairs IsBefore names
  pub exact : (name : List ℕ) → Contains names name ↔ IsChild folder files name
