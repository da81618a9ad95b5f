-- Reading a whole model.
use Rattle.std.proofs.Common.{◌≡◌, T, ℕ, Bool, ◌<◌, ◌≤◌, ◌^◌, nat_le, length, map, List, [], ◌∷◌, Option, IfSome, Result, Ok, Err, codes, refl, sym, ap, ◌∙◌, subst, arith, leb→le}
use Rattle.std.specs.List.{All, AllByRecursion, AllZip}
use Rattle.std.proofs.lemmas.List.Elements.{All-from_recursion, recursion_from_All}
use Rattle.json_doc.specs.declared.doc.Doc.{Doc}
use Rattle.texts.specs.Keys.{keys, IsDistinct}
use Rattle.model_files.specs.declared.fault.ModelFault.{ModelFault}
use Rattle.model_files.specs.declared.fault.ModelFault.TheVariants.{WrongKind}
use Rattle.model_files.specs.declared.fault.Place.TheVariants.{At}
use Rattle.model_files.specs.Faults.{demand}
use Rattle.texts.specs.Calls.{◌>>=◌}
use Rattle.model_files.specs.Reading.{Fields, fields_of, object_at}
use Rattle.service_model.specs.declared.metadata.Protocol.{Protocol}
use Rattle.service_model.specs.declared.model.Table.{Table}
use Rattle.service_model.specs.declared.operation.Operation.{Operation}
use Rattle.service_model.specs.declared.operations.Row.{Row}
use Rattle.service_model.specs.declared.shape.Kind.TheVariants.{Structure}
use Rattle.service_model.specs.declared.shape.Member.{Member}
use Rattle.service_model.specs.declared.shape.Shape.{Shape}
use Rattle.service_model.specs.declared.shape.ShapeId.{ShapeId}
use Rattle.service_model.specs.Admission.{IsAdmitted, members_at}
use Rattle.service_model.specs.Kept.{HasOwnNames, AreFilled, fills_uri, fills_host, IsOperation}
use Rattle.service_model.specs.Models.{draft_of, parts_of, IsRead, IsSound, IsOfKind}
use Rattle.model_files.proofs.Each.{Fails}
use Rattle.model_files.proofs.Steps.{bind_ok, demand_ok, same_ok}
use Rattle.service_model.proofs.WholeTables.{HasRowStructures, HasFilled, IsSoundEntries}

-- a fault of a part is that of the model
pub reads_fault : (doc : Doc) (result : Result Table ModelFault) (fault : ModelFault) → result ≡ Err fault → Fails fault (draft_of doc) → IsRead doc result
reads_fault doc result fault is fails = subst (IsRead doc) (sym is) fails

abbrev three : Fields → Fields → Fields → Result (Fields × Fields × Fields) ModelFault
three a b c = Ok (a, b, c)

few_read : (m o s : Result Fields ModelFault) (metadata operations shapes : Fields)
    → m >>= (λ a. o >>= (λ b. s >>= (λ c. demand (nat_le (length c) 1000000) (WrongKind (At (codes "shapes"))) (three a b c)))) ≡ Ok (metadata, operations, shapes) → length shapes ≤ 1000000
few_read (Ok a) (Ok b) (Ok c) metadata operations shapes e =
    let met = demand_ok (nat_le (length c) 1000000) (WrongKind (At (codes "shapes"))) (three a b c) (metadata, operations, shapes) e in
    subst (λ t. length t ≤ 1000000) (ap (λ p. p.2) (same_ok (a, b, c) (metadata, operations, shapes) met.1)) (leb→le (length c) 1000000 (subst T (sym met.0) tt))
few_read (Err f) o s metadata operations shapes e = absurd (cc)
few_read (Ok a) (Err f) s metadata operations shapes e = absurd (cc)
few_read (Ok a) (Ok b) (Err f) metadata operations shapes e = absurd (cc)

-- a model has at most a million shapes
pub few_shapes : (doc : Doc) (metadata operations shapes : Fields) → parts_of doc ≡ Ok (metadata, operations, shapes) → length shapes ≤ 1000000
unfolding parts_of
few_shapes doc metadata operations shapes e =
    bind_ok (fields_of doc) _ (metadata, operations, shapes) e (λ fields a rest.
    few_read (object_at (codes "metadata") fields) (object_at (codes "operations") fields) (object_at (codes "shapes") fields) metadata operations shapes rest)

operation_kept : (protocol : Protocol) (shapes : List Shape) (r : Row) (o : Operation) → HasRowStructures shapes r → HasFilled shapes r → IsAdmitted protocol shapes r o → IsOperation shapes o
operation_kept protocol shapes r o structures labels admitted =
    let filled : (List ℕ → Member → Bool) → Option ShapeId → List ℕ → Type 0 = λ fills input template. AreFilled fills (members_at shapes input) template in
    record {
      input = subst (λ i. IfSome i (IsOfKind Structure shapes)) (sym admitted.4) structures.0;
      output = subst (λ i. IfSome i (IsOfKind Structure shapes)) (sym admitted.5) structures.1;
      uri = subst (λ i. filled (fills_uri shapes) i o.uri) (sym admitted.4) (subst (filled (fills_uri shapes) r.input) (sym admitted.3) labels.uri);
      host = subst (λ i. IfSome o.host_prefix (filled (fills_host shapes) i)) (sym admitted.4) (subst (λ p. IfSome p (filled (fills_host shapes) r.input)) (sym admitted.6) labels.host);
    }

-- operations keep what their rows do
operations_kept : (protocol : Protocol) (shapes : List Shape) (rows : List Row) (ops : List Operation) → AllByRecursion (HasRowStructures shapes) rows → AllByRecursion (HasFilled shapes) rows
    → AllZip (IsAdmitted protocol shapes) rows ops → AllByRecursion (IsOperation shapes) ops
operations_kept protocol shapes [] [] h f zip = tt
operations_kept protocol shapes [] (o ∷ os) h f zip = absurd zip
operations_kept protocol shapes (r ∷ rs) [] h f zip = absurd zip
operations_kept protocol shapes (r ∷ rs) (o ∷ os) h f zip = (operation_kept protocol shapes r o h.0 f.0 zip.0, operations_kept protocol shapes rs os h.1 f.1 zip.1)

commands_same : (protocol : Protocol) (shapes : List Shape) (rows : List Row) (ops : List Operation) → AllZip (IsAdmitted protocol shapes) rows ops → map (λ o. o.command) ops ≡ map (λ r. r.command) rows
commands_same protocol shapes [] [] zip = refl
commands_same protocol shapes [] (o ∷ os) zip = absurd zip
commands_same protocol shapes (r ∷ rs) [] zip = absurd zip
commands_same protocol shapes (r ∷ rs) (o ∷ os) zip =
    ap (λ c. c ∷ map (λ x. x.command) os) zip.0.1 ∙ ap (λ cs. r.command ∷ cs) (commands_same protocol shapes rs os zip.1)

-- few enough for numbers of 32 bits
pub few_enough : (n : ℕ) → n ≤ 1000000 → n < 2 ^ 32
few_enough n few = omega (arith, few)

-- a table of parts that were read is sound
pub sound_table : (protocol : Protocol) (pairs : Fields) (rows : List Row) (table : Table) → length pairs ≤ 1000000 → IsDistinct (keys pairs) → All (λ shape. HasOwnNames shape.members) table.shapes
    → IsSoundEntries pairs rows table.shapes
    → AllZip (IsAdmitted protocol table.shapes) rows table.operations → IsSound table
sound_table protocol pairs rows table few distinct members sound zip = record {
  few = omega (arith, few, sound.as_many);
  shapes = sound.kept;
  members = members;
  wires = sound.wires;
  operations = All-from_recursion (IsOperation table.shapes) table.operations (operations_kept protocol table.shapes rows table.operations
      (recursion_from_All (HasRowStructures table.shapes) rows sound.structures) (recursion_from_All (HasFilled table.shapes) rows sound.filled) zip);
  names = subst IsDistinct (sym sound.names) distinct;
  commands = subst IsDistinct (sym (commands_same protocol table.shapes rows table.operations zip)) sound.commands;
}
