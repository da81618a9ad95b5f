-- Words that only private contracts cite.
use Rattle.std.specs.Prelude.{◌≡◌, ◌⊎◌, ℕ, List, Option, None, Some, Result, Ok, Err, IfSome, Contains, codes}
use Rattle.std.specs.Option.{option_or}
use Rattle.json_doc.specs.declared.doc.Doc.{Doc}
use Rattle.json_doc.specs.Grammar.{Reads}
use Rattle.texts.specs.Order.{IsBefore}
use Rattle.model_store.specs.declared.fault.Unread.{Unread}
use Rattle.model_store.specs.declared.fault.Unread.TheVariants.{UnknownService, BadModel, FileFault, OutOfMemory}
use Rattle.model_store.specs.declared.searching.ModelFile.{ModelFile}
use Rattle.model_store.specs.declared.searching.ModelFile.TheVariants.{Whole, TooLong}
use Rattle.model_store.specs.declared.searching.Version.{Version}
use Rattle.model_store.specs.Folders.{Held}
use Rattle.model_store.specs.Versions.{model_path, name_of, IsModelAt, IsUpTo}

-- one of these versions in a service's folder, with its file
abbrev pub IsListed : Held → List ℕ → List (List ℕ) → List ℕ → ModelFile → Type 0
IsListed files folder versions name file = Contains versions name × IsModelAt files folder name file

-- a name comes after another in the order of bytes, where there is another
abbrev pub IsAfter : Option (List ℕ) → List ℕ → Type 0
IsAfter None name = Unit {0}
IsAfter (Some last) name = IsBefore last name

-- Of these versions the greatest, where it comes after the newest so far.
pub record IsNewer (IsOne : List ℕ → ModelFile → Type 0) (newest newer : Option Version) : Type 0 where
  pub greatest : (name : List ℕ) (file : ModelFile) → IsOne name file → IsUpTo (name_of (option_or newer newest)) name
  pub there : IfSome newer (λ v. IsOne v.name v.file × IsAfter (name_of newest) v.name)

-- the path of one of these versions' model file in a folder
abbrev pub IsPathAmong : List ℕ → List (List ℕ) → List ℕ → Type 0
IsPathAmong folder versions path = (version : List ℕ) × Contains versions version × (path ≡ model_path folder version)

-- what ends a search of the files: a fault at a path of this kind, or want of memory
abbrev pub FaultsAt : (List ℕ → Type 0) → Unread → Type 0
FaultsAt P (FileFault path) = P path
FaultsAt P OutOfMemory = Unit {0}
FaultsAt P _ = ⊥

-- a refusal is this one, or want of memory, which is free
abbrev pub Refuses : Unread → Unread → Type 0
Refuses due OutOfMemory = Unit {0}
Refuses due refusal = refusal ≡ due

-- what is due is answered, unless memory was wanting; no file is read
abbrev pub AnswersAlways : {X A : Type 0} → (X → A) → (Result A Unread → Type 0) → Result X Unread → Type 0
AnswersAlways view IsDue (Ok x) = IsDue (Ok (view x))
AnswersAlways view IsDue (Err (UnknownService service)) = IsDue (Err (UnknownService service))
AnswersAlways view IsDue (Err (BadModel file place)) = IsDue (Err (BadModel file place))
AnswersAlways view IsDue (Err (FileFault path)) = ⊥
AnswersAlways view IsDue (Err OutOfMemory) = Unit {0}

-- a whole file that is no JSON, or a file that is too long, has its fault at this place
abbrev pub IsBadWhole : ModelFile → List ℕ → Type 0
IsBadWhole TooLong place = place ≡ codes "too long"
IsBadWhole (Whole bytes) place = ((doc : Doc) → Reads bytes doc → ⊥) × (place ≡ codes "json")

-- the document of a file
abbrev pub IsDocumentOf : ModelFile → Doc → Type 0
IsDocumentOf TooLong doc = ⊥
IsDocumentOf (Whole bytes) doc = Reads bytes doc

-- the document of a file of this name, or what is wrong with the file as a whole
abbrev pub IsOpened : List ℕ → ModelFile → Result Doc Unread → Type 0
IsOpened name file (Ok doc) = IsDocumentOf file doc
IsOpened name file (Err OutOfMemory) = Unit {0}
IsOpened name file (Err refusal) = (place : List ℕ) × IsBadWhole file place × (refusal ≡ BadModel name place)
