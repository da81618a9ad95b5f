-- What a file of a service gives.
use Rattle.std.proofs.Common.{◌≡◌, ℕ, List, Option, None, Some, Result, Ok, Err, refl, sym, ap, ◌∙◌, subst, inl, inr}
use Rattle.std.specs.Prelude.{IfSome, IfNone, codes}
use Rattle.texts.specs.Calls.{Unless}
use Rattle.json_doc.specs.declared.doc.Doc.{Doc}
use Rattle.json_doc.specs.Grammar.{Reads}
use Rattle.model_files.specs.declared.fault.ModelFault.{ModelFault}
use Rattle.model_files.specs.declared.fault.ModelFault.TheVariants.{Missing, UnknownShape, WrongKind, Collides, OutOfMemory}
use Rattle.model_files.specs.Faults.{is_memory}
use Rattle.rule_sets.specs.declared.fault.RuleFault.{RuleFault}
use Rattle.rule_sets.specs.declared.fault.RuleFault.TheVariants.{Bad, OutOfMemory as no_rule_memory}
use Rattle.rule_sets.specs.Faults.{is_memory as is_rule_memory}
use Rattle.model_store.specs.declared.fault.Unread.{Unread}
use Rattle.model_store.specs.declared.fault.Unread.TheVariants.{UnknownService, BadModel, FileFault, OutOfMemory as no_memory}
use Rattle.model_store.specs.declared.finding.FoundModel.{FoundModel}
use Rattle.model_store.specs.declared.searching.ModelFile.{ModelFile}
use Rattle.model_store.specs.declared.searching.ModelFile.TheVariants.{Whole, TooLong}
use Rattle.model_store.specs.declared.searching.Version.{Version}
use Rattle.model_store.specs.Due.{IfThere, IsModelOfNewest, MustBeThere}
use Rattle.model_store.specs.Contents.{place_of, rule_place_of, answered, Gives, IsPlaced, IsSaidBy}
use Rattle.model_store.specs.Inside.{AnswersAlways, IsBadWhole, IsDocumentOf, IsOpened, Refuses}

-- what a file's document says is what the file says
said_by : {A : Type 0} (Says : Doc → Result A (List ℕ) → Type 0) (file : ModelFile) (doc : Doc) (said : Result A (List ℕ)) → IsDocumentOf file doc → Says doc said
    → IsSaidBy Says file said
said_by Says TooLong doc said is says = absurd is
said_by Says (Whole bytes) doc said is says = inr (doc, is, says)

pub gives : {A B : Type 0} (name : List ℕ) (Says : Doc → Result A (List ℕ) → Type 0) (view : A → B) (file : ModelFile) (doc : Doc) (said : Result A (List ℕ))
    → IsDocumentOf file doc → Says doc said → Gives name Says view file (answered name view said)
gives name Says view file doc said is says = (said, said_by Says file doc said is says, refl)

bad_whole : {A : Type 0} (Says : Doc → Result A (List ℕ) → Type 0) (file : ModelFile) (place : List ℕ) → IsBadWhole file place → IsSaidBy Says file (Err place)
bad_whole Says TooLong place bad = ap Err bad
bad_whole Says (Whole bytes) place bad = inl (bad.0, ap Err bad.1)

gives_bad : {A B : Type 0} (name : List ℕ) (Says : Doc → Result A (List ℕ) → Type 0) (view : A → B) (file : ModelFile) (refusal : Unread) (place : List ℕ)
    → IsBadWhole file place → refusal ≡ BadModel name place → Gives name Says view file (Err refusal)
gives_bad name Says view file refusal place bad is = (Err place, bad_whole Says file place bad, ap Err is)

-- a file that has no document gives its fault
pub unopened : {X A B : Type 0} (name : List ℕ) (Says : Doc → Result A (List ℕ) → Type 0) (view : A → B) (seen : X → B) (file : ModelFile) (refusal : Unread)
    → IsOpened name file (Err refusal) → AnswersAlways seen (Gives name Says view file) (Err refusal)
unopened name Says view seen file no_memory is = tt
unopened name Says view seen file (BadModel other place) is = gives_bad name Says view file (BadModel other place) is.0 is.1 is.2
unopened name Says view seen file (UnknownService service) is = let same = is.2 in cc
unopened name Says view seen file (FileFault path) is = let same = is.2 in cc

-- what was read in place of a fault without a place
refused : {X A B : Type 0} (name : List ℕ) (Says : Doc → Result A (List ℕ) → Type 0) (view : A → B) (seen : X → B) (file : ModelFile) (doc : Doc) (place : List ℕ) (refusal : Unread)
    → IsDocumentOf file doc → Says doc (Err place) → Refuses (BadModel name place) refusal → AnswersAlways seen (Gives name Says view file) (Err refusal)
refused name Says view seen file doc place no_memory is says fault = tt
refused name Says view seen file doc place (BadModel other at) is says fault =
    subst (λ r. Gives name Says view file (Err r)) (sym fault) (gives name Says view file doc (Err place) is says)
refused name Says view seen file doc place (UnknownService service) is says fault = cc
refused name Says view seen file doc place (FileFault path) is says fault = cc

-- a file whose document is at fault gives the place of the fault; want of memory has none
pub at_fault : {X A B : Type 0} (name : List ℕ) (Says : Doc → Result A (List ℕ) → Type 0) (view : A → B) (seen : X → B) (file : ModelFile) (doc : Doc) (place : Option (List ℕ))
    (refusal : Unread) → IsDocumentOf file doc → ((at : List ℕ) → place ≡ Some at → Says doc (Err at)) → IfSome place (λ at. Refuses (BadModel name at) refusal)
    → IfNone place (refusal ≡ no_memory) → AnswersAlways seen (Gives name Says view file) (Err refusal)
at_fault name Says view seen file doc None refusal is says fault memory = subst (λ r. AnswersAlways seen (Gives name Says view file) (Err r)) (sym memory) tt
at_fault name Says view seen file doc (Some at) refusal is says fault memory = refused name Says view seen file doc at refusal is (says at refl) fault

placed_by : {A E : Type 0} (place : E → Option (List ℕ)) (read : Result A E) (fault : E) (at : List ℕ) → read ≡ Err fault → place fault ≡ Some at → IsPlaced place read (Err at)
placed_by place read fault at is stands = subst (λ r. IsPlaced place r (Err at)) (sym is) stands

-- what was read is placed
pub value_placed : {A E : Type 0} (place : E → Option (List ℕ)) (read : Result A E) (x : A) → read ≡ Ok x → IsPlaced place read (Ok x)
value_placed place read x is = subst (λ r. IsPlaced place r (Ok x)) (sym is) refl

-- a fault that is due has its place, where it has one
pub fault_placed : {A : Type 0} (read : Result A ModelFault) (fault : ModelFault) → Unless (is_memory fault) (read ≡ Err fault)
    → (at : List ℕ) → place_of fault ≡ Some at → IsPlaced place_of read (Err at)
fault_placed read (Missing place) due at stands = placed_by place_of read (Missing place) at due stands
fault_placed read (UnknownShape place) due at stands = placed_by place_of read (UnknownShape place) at due stands
fault_placed read (WrongKind place) due at stands = placed_by place_of read (WrongKind place) at due stands
fault_placed read (Collides place) due at stands = placed_by place_of read (Collides place) at due stands
fault_placed read OutOfMemory due at stands = cc

pub rule_fault_placed : {A : Type 0} (read : Result A RuleFault) (fault : RuleFault) → Unless (is_rule_memory fault) (read ≡ Err fault)
    → (at : List ℕ) → rule_place_of fault ≡ Some at → IsPlaced rule_place_of read (Err at)
rule_fault_placed read (Bad place) due at stands = placed_by rule_place_of read (Bad place) at due stands
rule_fault_placed read no_rule_memory due at stands = cc

-- bytes that are no JSON are no document of the file that holds them
pub not_json : (name : List ℕ) (file : ModelFile) (bytes text : List ℕ) (found : Option Doc) (refusal : Unread) → file ≡ Whole bytes → text ≡ bytes → found ≡ None
    → IfNone found ((doc : Doc) → Reads text doc → ⊥) → Refuses (BadModel name (codes "json")) refusal → IsOpened name file (Err refusal)
not_json name file bytes text found no_memory is same none missing fault = tt
not_json name file bytes text found (BadModel other at) is same none missing fault =
    let no_document : (doc : Doc) → Reads text doc → ⊥ = subst (λ o. IfNone o ((doc : Doc) → Reads text doc → ⊥)) none missing in
    (codes "json", subst (λ f. IsBadWhole f (codes "json")) (sym is) (subst (λ b. (doc : Doc) → Reads b doc → ⊥) same no_document, refl), fault)
not_json name file bytes text found (UnknownService service) is same none missing fault = cc
not_json name file bytes text found (FileFault path) is same none missing fault = cc

-- the same of a file that may be absent, and of one that must be there
pub if_there : {X A : Type 0} (name : List ℕ) (Says : Doc → Result A (List ℕ) → Type 0) (seen : X → Option A) (found : Option ModelFile) (file : ModelFile) (result : Result X Unread)
    → found ≡ Some file → AnswersAlways seen (Gives name Says Some file) result → AnswersAlways seen (IfThere name Says found) result
if_there name Says seen found file result is fact = subst (λ f. AnswersAlways seen (IfThere name Says f) result) (sym is) fact

pub must_be_there : {X A : Type 0} (name : List ℕ) (Says : Doc → Result A (List ℕ) → Type 0) (seen : X → A) (found : Option ModelFile) (file : ModelFile) (result : Result X Unread)
    → found ≡ Some file → AnswersAlways seen (Gives name Says (λ x. x) file) result → AnswersAlways seen (MustBeThere name Says found) result
must_be_there name Says seen found file result is fact = subst (λ f. AnswersAlways seen (MustBeThere name Says f) result) (sym is) fact

-- a file that must be there and isn't
pub absent : {X A : Type 0} (name : List ℕ) (Says : Doc → Result A (List ℕ) → Type 0) (seen : X → A) (found : Option ModelFile) (refusal : Unread) → found ≡ None
    → Refuses (BadModel name (codes "absent")) refusal → AnswersAlways seen (MustBeThere name Says found) (Err refusal)
absent name Says seen found no_memory is fault = tt
absent name Says seen found (BadModel other at) is fault = subst (λ f. MustBeThere name Says f (Err (BadModel other at))) (sym is) (ap Err fault)
absent name Says seen found (UnknownService service) is fault = cc
absent name Says seen found (FileFault path) is fault = cc

-- a service without a version
pub unknown : {X : Type 0} (seen : X → FoundModel) (service : List ℕ) (newest : Option Version) (refusal : Unread) → newest ≡ None → Refuses (UnknownService service) refusal
    → AnswersAlways seen (IsModelOfNewest service newest) (Err refusal)
unknown seen service newest no_memory is fault = tt
unknown seen service newest (UnknownService other) is fault = subst (λ n. IsModelOfNewest service n (Err (UnknownService other))) (sym is) (ap Err fault)
unknown seen service newest (BadModel file place) is fault = cc
unknown seen service newest (FileFault path) is fault = cc
