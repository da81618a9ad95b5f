-- A document is one model at most.
use Rattle.std.proofs.Common.{◌≡◌, ℕ, Bool, List, [], ◌∷◌, Option, Some, Result, Ok, refl, sym, ap, ◌∙◌, subst, ⊎_elim}
use Rattle.std.specs.List.{AllZip}
use Rattle.json_doc.specs.declared.doc.Doc.{Doc}
use Rattle.model_files.specs.declared.fault.ModelFault.{ModelFault}
use Rattle.service_model.specs.declared.metadata.Metadata.{Metadata}
use Rattle.service_model.specs.declared.metadata.Protocol.{Protocol}
use Rattle.service_model.specs.declared.model.Table.{Table}
use Rattle.service_model.specs.declared.operation.Operation.{Operation}
use Rattle.service_model.specs.declared.operation.Refusal.{Refusal}
use Rattle.service_model.specs.declared.operations.Row.{Row}
use Rattle.service_model.specs.declared.shape.Shape.{Shape}
use Rattle.service_model.specs.declared.shape.ShapeId.{ShapeId}
use Rattle.service_model.specs.Admission.{IsAdmitted, IsRefusal, Or}
use Rattle.service_model.specs.Models.{IsModel, IsRead, Draft}

-- the first rule that holds is one
one_reason : (Rule : Type 0) (reason : Refusal) (a b : Option Refusal) (Others More : Type 0) → Or Rule reason a Others → Or Rule reason b More → (Others → More → a ≡ b) → a ≡ b
one_reason Rule reason a b Others More p q rest =
    ⊎_elim (λ (x : Rule × (a ≡ Some reason)).
    ⊎_elim (λ (y : Rule × (b ≡ Some reason)). x.1 ∙ sym y.1) (λ (y : (Rule → ⊥) × More). absurd (y.0 x.0)) q)
    (λ (x : (Rule → ⊥) × Others).
    ⊎_elim (λ (y : Rule × (b ≡ Some reason)). absurd (x.0 y.0)) (λ (y : (Rule → ⊥) × More). rest x.1 y.1) q) p

one_refusal : (protocol : Protocol) (shapes : List Shape) (row : Row) (a b : Option Refusal) → IsRefusal protocol shapes row a → IsRefusal protocol shapes row b → a ≡ b
one_refusal protocol shapes row a b p q =
    one_reason _ _ a b _ _ p q (λ p q.
    one_reason _ _ a b _ _ p q (λ p q.
    one_reason _ _ a b _ _ p q (λ p q.
    one_reason _ _ a b _ _ p q (λ p q.
    one_reason _ _ a b _ _ p q (λ p q.
    one_reason _ _ a b _ _ p q (λ p q.
    one_reason _ _ a b _ _ p q (λ p q. p ∙ sym q)))))))

operation_with : List ℕ → List ℕ → List ℕ → List ℕ → Option ShapeId → Option ShapeId → Option (List ℕ) → Bool → Option Refusal → List (List ℕ × Doc) → Operation
operation_with name command method uri input output host_prefix unsigned refusal fixed_params = record {
  name = name;
  command = command;
  method = method;
  uri = uri;
  input = input;
  output = output;
  host_prefix = host_prefix;
  unsigned = unsigned;
  refusal = refusal;
  fixed_params = fixed_params;
}

parts_of : (o : Operation) → operation_with o.name o.command o.method o.uri o.input o.output o.host_prefix o.unsigned o.refusal o.fixed_params ≡ o
unfolding operation_with
parts_of o = refl

-- what a file says of an operation, with its refusal, is one operation
one_operation : (protocol : Protocol) (shapes : List Shape) (row : Row) (a b : Operation) → IsAdmitted protocol shapes row a → IsAdmitted protocol shapes row b → a ≡ b
one_operation protocol shapes row a b p q =
    let refusal : a.refusal ≡ b.refusal = one_refusal protocol shapes row a.refusal b.refusal p.9 q.9 in
    let name : a.name ≡ b.name = p.0 ∙ sym q.0 in
    let command : a.command ≡ b.command = p.1 ∙ sym q.1 in
    let method : a.method ≡ b.method = p.2 ∙ sym q.2 in
    let uri : a.uri ≡ b.uri = p.3 ∙ sym q.3 in
    let input : a.input ≡ b.input = p.4 ∙ sym q.4 in
    let output : a.output ≡ b.output = p.5 ∙ sym q.5 in
    let host_prefix : a.host_prefix ≡ b.host_prefix = p.6 ∙ sym q.6 in
    let unsigned : a.unsigned ≡ b.unsigned = p.7 ∙ sym q.7 in
    let fixed_params : a.fixed_params ≡ b.fixed_params = p.8 ∙ sym q.8 in
    let same : operation_with a.name a.command a.method a.uri a.input a.output a.host_prefix a.unsigned a.refusal a.fixed_params
    ≡ operation_with b.name b.command b.method b.uri b.input b.output b.host_prefix b.unsigned b.refusal b.fixed_params = cc in
    sym (parts_of a) ∙ same ∙ parts_of b

one_list : (protocol : Protocol) (shapes : List Shape) (rows : List Row) (xs ys : List Operation) → AllZip (IsAdmitted protocol shapes) rows xs
    → AllZip (IsAdmitted protocol shapes) rows ys → xs ≡ ys
one_list protocol shapes [] [] [] p q = refl
one_list protocol shapes [] (a ∷ xs) ys p q = absurd p
one_list protocol shapes [] [] (b ∷ ys) p q = absurd q
one_list protocol shapes (r ∷ rs) [] bs p q = absurd p
one_list protocol shapes (r ∷ rs) (a ∷ xs) [] p q = absurd q
one_list protocol shapes (r ∷ rs) (a ∷ xs) (b ∷ ys) p q =
    let head : a ≡ b = one_operation protocol shapes r a b p.0 q.0 in
    let tail : xs ≡ ys = one_list protocol shapes rs xs ys p.1 q.1 in
    cc

draft_same : (d e : Draft) (r : Result Draft ModelFault) → r ≡ Ok d → r ≡ Ok e → d ≡ e
draft_same d e r p q = let same = sym p ∙ q in cc

abbrev table_of : Metadata → List Shape → List Operation → Table
table_of metadata shapes operations = record { metadata = metadata; shapes = shapes; operations = operations }

one_table : (draft : Draft) (a b : Table) → IsModel draft a → IsModel draft b → a ≡ b
one_table draft a b p q =
    let metadata : a.metadata ≡ b.metadata = p.0 ∙ sym q.0 in
    let shapes : a.shapes ≡ b.shapes = p.1 ∙ sym q.1 in
    let operations : a.operations ≡ b.operations = one_list draft.0.metadata.protocol draft.1.1 draft.1.0 a.operations b.operations p.2 q.2 in
    ap (λ m. table_of m a.shapes a.operations) metadata ∙ ap (λ s. table_of b.metadata s a.operations) shapes ∙ ap (λ os. table_of b.metadata b.shapes os) operations

pub one_model : (doc : Doc) (a b : Table) → IsRead doc (Ok a) → IsRead doc (Ok b) → a ≡ b
one_model doc a b p q =
    one_table p.0 a b p.2 (subst (λ draft. IsModel draft b) (draft_same q.0 p.0 _ q.1 p.1) q.2)
