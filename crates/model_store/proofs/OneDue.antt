-- One thing at most is due of each file of a service.
use Rattle.std.proofs.Common.{◌≡◌, ℕ, List, Option, None, Some, Result, Ok, Err, refl, sym, ap, ◌∙◌, subst, inl, inr}
use Rattle.json_doc.specs.declared.doc.Doc.{Doc}
use Rattle.json_doc.specs.Grammar.{Reads}
use Rattle.json_doc.proofs.Complete.{text_complete}
use Rattle.json_doc.proofs.Once.{text_once}
use Rattle.texts.specs.Calls.{Unless}
use Rattle.model_files.specs.declared.fault.ModelFault.{ModelFault}
use Rattle.model_files.specs.declared.fault.ModelFault.TheVariants.{Missing, UnknownShape, WrongKind, Collides, OutOfMemory}
use Rattle.model_files.specs.Faults.{is_memory}
use Rattle.service_model.specs.declared.model.Table.{Table}
use Rattle.service_model.specs.Models.{IsRead, Draft, draft_of}
use Rattle.model_store.specs.declared.fault.Unread.{Unread}
use Rattle.model_store.specs.declared.finding.FoundModel.{FoundModel}
use Rattle.model_store.specs.declared.searching.ModelFile.{ModelFile}
use Rattle.model_store.specs.declared.searching.ModelFile.TheVariants.{Whole, TooLong}
use Rattle.model_store.specs.declared.searching.Version.{Version}
use Rattle.model_store.specs.Contents.{answered, place_of, rule_place_of, Gives, IsPlaced, IsSaid, IsSaidBy, SaysModel}
use Rattle.model_store.specs.Due.{IfThere, IsDueAt, IsModelOf, IsModelOfNewest, MustBeThere, found_at}
use Rattle.model_store.specs.Folders.{Held}
use Rattle.model_store.specs.Laws.{IsOne, OneModelIsDue, OneFileIsDue}
use Rattle.model_store.specs.Versions.{first_at, model_name, IsFileAt}
use Rattle.model_store.proofs.OneModel.{one_model}
use Rattle.model_store.proofs.Searches.{one_version}
use Rattle.model_store.proofs.Versions.{one_file}

one_document : (bytes : List ℕ) (d e : Doc) → Reads bytes d → Reads bytes e → d ≡ e
one_document bytes d e p q = let same = text_once bytes _ _ (text_complete bytes d p) (text_complete bytes e q) in cc

-- documents of a kind say one thing each
abbrev SaysOne : {A : Type 0} → (Doc → Result A (List ℕ) → Type 0) → Type 0
SaysOne {A} Says = (doc : Doc) (a b : Result A (List ℕ)) → Says doc a → Says doc b → a ≡ b

some_same : {A : Type 0} (x y : A) → Some x ≡ Some y → x ≡ y
some_same x y e = cc

err_same : {A E : Type 0} (result : Result A E) (x y : E) → result ≡ Err x → result ≡ Err y → x ≡ y
err_same result x y p q = let same = sym p ∙ q in cc

not_both : {A E : Type 0} (result : Result A E) (x : A) (y : E) → result ≡ Ok x → result ≡ Err y → ⊥
not_both result x y p q = let same : Ok x ≡ Err y = sym p ∙ q in cc

one_place : {A E : Type 0} (place : E → Option (List ℕ)) (read : Result A E) (a b : Result A (List ℕ)) → IsPlaced place read a → IsPlaced place read b → a ≡ b
one_place place (Ok x) a b p q = p ∙ sym q
one_place place (Err fault) (Ok x) b p q = absurd p
one_place place (Err fault) (Err at) (Ok x) p q = absurd q
one_place place (Err fault) (Err at) (Err other) p q = ap Err (some_same at other (sym p ∙ q))

-- a fault that has a place is the model's first
is_due : (doc : Doc) (fault : ModelFault) (at : List ℕ) → IsRead doc (Err fault) → place_of fault ≡ Some at → draft_of doc ≡ Err fault
is_due doc (Missing place) at is stands = is
is_due doc (UnknownShape place) at is stands = is
is_due doc (WrongKind place) at is stands = is
is_due doc (Collides place) at is stands = is
is_due doc OutOfMemory at is stands = cc

no_model_with_fault : (doc : Doc) (table : Table) (fault : ModelFault) (at : List ℕ) → IsRead doc (Ok table) → IsRead doc (Err fault) → place_of fault ≡ Some at → ⊥
no_model_with_fault doc table fault at p q stands = not_both (draft_of doc) p.0 fault p.1 (is_due doc fault at q stands)

one_said_model : (doc : Doc) (x y : Result Table ModelFault) (a b : Result Table (List ℕ)) → IsRead doc x → IsRead doc y → IsPlaced place_of x a → IsPlaced place_of y b → a ≡ b
one_said_model doc (Ok x) (Ok y) a b p q e f = e ∙ ap Ok (one_model doc x y p q) ∙ sym f
one_said_model doc (Ok x) (Err g) a (Ok y) p q e f = absurd f
one_said_model doc (Ok x) (Err g) a (Err other) p q e f = absurd (no_model_with_fault doc x g other p q f)
one_said_model doc (Err g) y (Ok x) b p q e f = absurd e
one_said_model doc (Err g) (Ok y) (Err at) b p q e f = absurd (no_model_with_fault doc y g at q p e)
one_said_model doc (Err g) (Err h) (Err at) (Ok x) p q e f = absurd f
one_said_model doc (Err g) (Err h) (Err at) (Err other) p q e f =
    let same : g ≡ h = err_same (draft_of doc) g h (is_due doc g at p e) (is_due doc h other q f) in
    ap Err (some_same at other (sym e ∙ ap place_of same ∙ f))

model_says_one : SaysOne SaysModel
model_says_one doc a b p q = one_said_model doc p.0 q.0 a b p.1 q.1 p.2 q.2

one_said : {A : Type 0} (Says : Doc → Result A (List ℕ) → Type 0) → SaysOne Says → (bytes : List ℕ) (a b : Result A (List ℕ)) → IsSaid Says bytes a → IsSaid Says bytes b → a ≡ b
one_said Says one bytes a b (inl p) (inl q) = p.1 ∙ sym q.1
one_said Says one bytes a b (inl p) (inr q) = absurd (p.0 q.0 q.1)
one_said Says one bytes a b (inr p) (inl q) = absurd (q.0 p.0 p.1)
one_said Says one bytes a b (inr p) (inr q) = one p.0 a b p.2 (subst (λ d. Says d b) (one_document bytes q.0 p.0 q.1 p.1) q.2)

one_said_by : {A : Type 0} (Says : Doc → Result A (List ℕ) → Type 0) → SaysOne Says → (file : ModelFile) (a b : Result A (List ℕ)) → IsSaidBy Says file a → IsSaidBy Says file b
    → a ≡ b
one_said_by Says one TooLong a b p q = p ∙ sym q
one_said_by Says one (Whole bytes) a b p q = one_said Says one bytes a b p q

one_given : {A B : Type 0} (name : List ℕ) (Says : Doc → Result A (List ℕ) → Type 0) (view : A → B) → SaysOne Says → (file : ModelFile) (a b : Result B Unread)
    → Gives name Says view file a → Gives name Says view file b → a ≡ b
one_given name Says view one file a b p q = p.2 ∙ ap (answered name view) (one_said_by Says one file p.0 q.0 p.1 q.1) ∙ sym q.2

one_if_there : {A : Type 0} (name : List ℕ) (Says : Doc → Result A (List ℕ) → Type 0) → SaysOne Says → (file : Option ModelFile) (a b : Result (Option A) Unread)
    → IfThere name Says file a → IfThere name Says file b → a ≡ b
one_if_there name Says one None a b p q = p ∙ sym q
one_if_there name Says one (Some file) a b p q = one_given name Says Some one file a b p q

one_that_must : {A : Type 0} (name : List ℕ) (Says : Doc → Result A (List ℕ) → Type 0) → SaysOne Says → (file : Option ModelFile) (a b : Result A Unread)
    → MustBeThere name Says file a → MustBeThere name Says file b → a ≡ b
one_that_must name Says one None a b p q = p ∙ sym q
one_that_must name Says one (Some file) a b p q = one_given name Says (λ x. x) one file a b p q

-- a place has one file, or none
one_there : (there : Option (List ℕ)) (a b : Option ModelFile) → IsFileAt there a → IsFileAt there b → a ≡ b
one_there there None None p q = refl
one_there there (Some x) (Some y) p q = ap Some (one_file there x y p q)
one_there None None (Some y) p q = absurd q
one_there (Some bytes) None b p q = cc
one_there None (Some x) b p q = absurd p
one_there (Some bytes) (Some x) None p q = cc

one_at : {A : Type 0} (IsDue : Option ModelFile → Result A Unread → Type 0) → ((file : Option ModelFile) (a b : Result A Unread) → IsDue file a → IsDue file b → a ≡ b)
    → (files : Held) (folders : List (List ℕ)) (tail : List ℕ) (a b : Result A Unread) → IsDueAt IsDue (Some files) folders tail a → IsDueAt IsDue (Some files) folders tail b → a ≡ b
one_at IsDue one files folders tail a b p q =
    one p.0 a b p.2 (subst (λ file. IsDue file b) (one_there (first_at files folders tail) q.0 p.0 q.1 p.1) q.2)

one_of_newest : (service : List ℕ) (newest : Option Version) (a b : Result FoundModel Unread) → IsModelOfNewest service newest a → IsModelOfNewest service newest b → a ≡ b
one_of_newest service None a b p q = p ∙ sym q
one_of_newest service (Some version) a b p q = one_given model_name SaysModel (found_at version.name) model_says_one version.file a b p q

pub one_model_due : OneModelIsDue
one_model_due files folders service a b p q =
    one_of_newest service p.0 a b p.2 (subst (λ newest. IsModelOfNewest service newest b) (one_version files folders service q.0 p.0 q.1 p.1) q.2)

pub one_file_due : OneFileIsDue
one_file_due files folders service version = (
  one_at _ (one_if_there _ _ (λ doc a b p q. one_place place_of _ a b p q)) files folders _,
  one_at _ (one_if_there _ _ (λ doc a b p q. one_place place_of _ a b p q)) files folders _,
  one_at _ (one_if_there _ _ (λ doc a b p q. one_place rule_place_of _ a b p q)) files folders _,
  one_at _ (one_that_must _ _ (λ doc a b p q. one_place rule_place_of _ a b p q)) files folders _,
)
