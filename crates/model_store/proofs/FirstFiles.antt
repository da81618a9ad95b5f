-- The file at the first of some folders that has one.
use Rattle.std.proofs.Common.{◌≡◌, ℕ, ◌+◌, ◌<◌, ◌≤◌, List, [], ◌∷◌, length, get_or, drop, Option, None, Some, refl, sym, ap, ◌∙◌, subst}
use Rattle.std.proofs.lemmas.List.{at_drop_more, at_drop_all}
use Rattle.aws_world.specs.FileTree.{file_at}
use Rattle.model_store.specs.declared.searching.ModelFile.{ModelFile}
use Rattle.model_store.specs.Folders.{Held}
use Rattle.model_store.specs.Versions.{below, first_at, first_there, IsFile, IsFileAt}

-- the folder at a place, and those behind it
from_here : (files : Held) (folders : List (List ℕ)) (tail folder : List ℕ) (at : ℕ) → at < length folders → folder ≡ get_or folders at folder
    → first_at files (drop at folders) tail ≡ first_at files (folder ∷ drop (at + 1) folders) tail
from_here files folders tail folder at inside is =
    at_drop_more (λ fs. first_at files fs tail) folders at folder inside ∙ ap (λ f. first_at files (f ∷ drop (at + 1) folders) tail) (sym is)

pub passed_by : (there : Option (List ℕ)) (others : List (Option (List ℕ))) → there ≡ None → first_there (there ∷ others) ≡ first_there others
passed_by None others none = refl
passed_by (Some bytes) others none = cc

pub taken_first : (there : Option (List ℕ)) (others : List (Option (List ℕ))) (file : ModelFile) → IsFile there file → IsFile (first_there (there ∷ others)) file
taken_first None others file is = absurd is
taken_first (Some bytes) others file is = is

-- a folder that has none is passed by
pub none_here : (files : Held) (folders : List (List ℕ)) (tail folder path : List ℕ) (at : ℕ) (found : Option ModelFile) → at < length folders → folder ≡ get_or folders at folder
    → path ≡ below folder tail → IsFileAt (file_at path files) found → found ≡ None → first_at files (drop at folders) tail ≡ first_at files folders tail
    → first_at files (drop (at + 1) folders) tail ≡ first_at files folders tail
none_here files folders tail folder path at found inside is leads here none left =
    let empty : file_at (below folder tail) files ≡ None = subst (λ p. file_at p files ≡ None) leads (subst (IsFileAt (file_at path files)) none here) in
    sym (passed_by (file_at (below folder tail) files) _ empty) ∙ sym (from_here files folders tail folder at inside is) ∙ left

-- the first that has one
pub some_here : (files : Held) (folders : List (List ℕ)) (tail folder path : List ℕ) (at : ℕ) (found : Option ModelFile) (file : ModelFile) → at < length folders
    → folder ≡ get_or folders at folder → path ≡ below folder tail → IsFileAt (file_at path files) found → found ≡ Some file
    → first_at files (drop at folders) tail ≡ first_at files folders tail → IsFileAt (first_at files folders tail) (Some file)
some_here files folders tail folder path at found file inside is leads here some left =
    let there : IsFile (file_at (below folder tail) files) file = subst (λ p. IsFile (file_at p files) file) leads (subst (IsFileAt (file_at path files)) some here) in
    subst (λ first. IsFile first file) (sym (from_here files folders tail folder at inside is) ∙ left) (taken_first (file_at (below folder tail) files) _ file there)

-- past the last folder, none has one
pub none_at_all : (files : Held) (folders : List (List ℕ)) (tail : List ℕ) (at : ℕ) → length folders ≤ at → first_at files (drop at folders) tail ≡ first_at files folders tail
    → first_at files folders tail ≡ None
none_at_all files folders tail at past left = sym left ∙ at_drop_all (λ fs. first_at files fs tail) folders at past
