-- A model that was read misses no shape and no kind: the whole table.
use Rattle.std.proofs.Common.{◌≡◌, ℕ, ◌<◌, Bool, true, false, not, ◌||◌, List, [], ◌∷◌, map, length, bytes_eq, Option, None, Some, IfSome, Result, Ok, Err, codes, refl, sym, ap, subst, ◌∙◌, arith}
use Rattle.std.specs.List.{AllByRecursion, list_any}
use Rattle.std.specs.List.{All}
use lib.ListN.{length-map}
use Rattle.std.proofs.ByRecursion.{All-weaker}
use Rattle.std.proofs.lemmas.Option.{IfSome_then}
use Rattle.std.proofs.lemmas.List.Elements.{All-from_recursion}
use Rattle.std.proofs.lemmas.Slice.Eq.{bytes_eq-Decides}
use Rattle.json_doc.specs.declared.doc.Doc.{Doc}
use Rattle.texts.specs.Keys.{value_at, keys, IsNew, IsDistinct}
use Rattle.model_files.specs.declared.fault.ModelFault.{ModelFault}
use Rattle.model_files.specs.declared.fault.ModelFault.TheVariants.{Collides}
use Rattle.model_files.specs.declared.fault.Place.TheVariants.{At}
use Rattle.model_files.specs.Faults.{inside}
use Rattle.texts.specs.Calls.{◌>>=◌}
use Rattle.model_files.specs.Names.{command_name}
use Rattle.model_files.specs.Reading.{Fields, fields_of, text_at}
use Rattle.service_model.specs.declared.operations.Row.{Row}
use Rattle.service_model.specs.declared.shape.Kind.TheVariants as kind
use Rattle.service_model.specs.declared.shape.Member.{Member}
use Rattle.service_model.specs.declared.shape.Shape.{Shape}
use Rattle.service_model.specs.declared.shape.ShapeId.{ShapeId}
use Rattle.service_model.specs.Admission.{members_at}
use Rattle.service_model.specs.Kept.{IsShape, TellsWires, AreFilled, fills_uri, fills_host}
use Rattle.service_model.specs.Models.{entries_of, HasParts, IsWithin, IsOfKind}
use Rattle.service_model.specs.Numbering.{Names, names_of, kind_at, structure_in}
use Rattle.service_model.specs.declared.signing.Signing.{Signing}
use Rattle.service_model.specs.Operations.{operations_of, operation_of, command_of, http_of, structure_at, structure_maybe, host_prefix_of, signing_of, fixed_params_of, needs_checksum, needs_discovery, with_name}
use Rattle.service_model.specs.Shapes.{shape_of, shapes_of}
use Rattle.model_files.proofs.Steps.{same_ok, bind_ok, inside_ok, demand_ok, each_all, each_length}
use Rattle.service_model.proofs.Among.{any_insert}
use Rattle.service_model.proofs.KeptOperations.{uri_kept, host_kept}
use Rattle.service_model.proofs.KeptShapes.{IsReadShape, shape_read, shapes_kept}
use Rattle.service_model.proofs.OwnWires.{tells_wires}
use Rattle.service_model.proofs.Soundness.{HasNamed, shape_ok, structure_in_ok, kinds_agree}

maybe_ok : (names : Names) (key : List ℕ) (doc : Option Doc) (o : Option ShapeId) → structure_maybe names key doc ≡ Ok o → IfSome o (λ id. kind_at names id ≡ Some kind.Structure)
maybe_ok names key None o e = subst (λ x. IfSome x (λ id. kind_at names id ≡ Some kind.Structure)) (same_ok None o e) tt
maybe_ok names key (Some doc) o e =
    bind_ok (inside key (structure_in names doc)) (λ id. Ok (Some id)) o e (λ id read is.
    subst (λ x. IfSome x (λ i. kind_at names i ≡ Some kind.Structure)) (same_ok (Some id) o is) (structure_in_ok names doc id (inside_ok key (structure_in names doc) id read)))

structure_ok : (names : Names) (key : List ℕ) (fields : Fields) (o : Option ShapeId) → structure_at names key fields ≡ Ok o → IfSome o (λ id. kind_at names id ≡ Some kind.Structure)
unfolding structure_at
structure_ok names key fields o e = maybe_ok names key (value_at key fields) o e

-- inputs and outputs are structures by the names in the file
abbrev pub HasNamedStructures : Names → Row → Type 0
HasNamedStructures names row = IfSome row.input (λ id. kind_at names id ≡ Some kind.Structure) × IfSome row.output (λ id. kind_at names id ≡ Some kind.Structure)

row_rest : (name command : List ℕ) (checksum discovery : Bool) (http : Result (List ℕ × List ℕ) ModelFault) (input output : Result (Option ShapeId) ModelFault)
    (prefix : Result (Option (List ℕ)) ModelFault) (signing : Result Signing ModelFault) (fixed : Result (List (List ℕ × Doc)) ModelFault) (row : Row)
    → http >>= (λ h. input >>= (λ i. output >>= (λ o. prefix >>= (λ p. signing >>= (λ s. fixed >>= (λ f. Ok (record {
      name = name;
      command = command;
      method = h.0;
      uri = h.1;
      input = i;
      output = o;
      host_prefix = p;
      unsigned = s.unsigned;
      is_signed_otherwise = s.is_other;
      fixed_params = f;
      needs_checksum = checksum;
      needs_discovery = discovery;
    }))))))) ≡ Ok row → (input ≡ Ok row.input) × (output ≡ Ok row.output) × (http ≡ Ok (row.method, row.uri)) × (prefix ≡ Ok row.host_prefix) × (command ≡ row.command)
row_rest name command checksum discovery (Ok h) (Ok i) (Ok o) (Ok p) (Ok s) (Ok f) row e = (ap (λ r. Ok r.input) (same_ok _ row e), ap (λ r. Ok r.output) (same_ok _ row e), ap (λ r. Ok (r.method, r.uri)) (same_ok _ row e), ap (λ r. Ok r.host_prefix) (same_ok _ row e), ap (λ r. r.command) (same_ok _ row e))
row_rest name command checksum discovery (Err g) input output prefix signing fixed row e = absurd (cc)
row_rest name command checksum discovery (Ok h) (Err g) output prefix signing fixed row e = absurd (cc)
row_rest name command checksum discovery (Ok h) (Ok i) (Err g) prefix signing fixed row e = absurd (cc)
row_rest name command checksum discovery (Ok h) (Ok i) (Ok o) (Err g) signing fixed row e = absurd (cc)
row_rest name command checksum discovery (Ok h) (Ok i) (Ok o) (Ok p) (Err g) fixed row e = absurd (cc)
row_rest name command checksum discovery (Ok h) (Ok i) (Ok o) (Ok p) (Ok s) (Err g) row e = absurd (cc)

-- what is read of an operation whose name and command name are known
abbrev after_command : Names → Fields → Bool → Fields → List ℕ → List ℕ → Result Row ModelFault
after_command names shapes signs fields name command =
    http_of names shapes fields >>= (λ h. structure_at names (codes "input") fields >>= (λ i. structure_at names (codes "output") fields >>= (λ o.
    host_prefix_of names shapes fields >>= (λ p. signing_of signs fields >>= (λ s. fixed_params_of fields >>= (λ f. Ok (record {
      name = name;
      command = command;
      method = h.0;
      uri = h.1;
      input = i;
      output = o;
      host_prefix = p;
      unsigned = s.unsigned;
      is_signed_otherwise = s.is_other;
      fixed_params = f;
      needs_checksum = needs_checksum fields;
      needs_discovery = needs_discovery fields;
    })))))))

-- what was read of an operation, behind earlier command names
record IsReadRow (names : Names) (shapes : Fields) (earlier : List (List ℕ)) (row : Row) : Type 0 where
  pub fields : Fields
  pub http : http_of names shapes fields ≡ Ok (row.method, row.uri)
  pub input : structure_at names (codes "input") fields ≡ Ok row.input
  pub output : structure_at names (codes "output") fields ≡ Ok row.output
  pub host : host_prefix_of names shapes fields ≡ Ok row.host_prefix
  pub command : list_any (bytes_eq row.command) earlier ≡ false

true_not_false : true ≡ false → ⊥
true_not_false e = absurd (cc)

not_true : (b : Bool) → not b ≡ true → b ≡ false
not_true true e = absurd (cc)
not_true false e = refl

new_command : (earlier : List (List ℕ)) (name command : List ℕ) → command_of earlier name ≡ Ok command → list_any (bytes_eq command) earlier ≡ false
unfolding command_of
new_command earlier name command e =
    let holds = demand_ok (not (list_any (bytes_eq (command_name name)) earlier)) (Collides (At (codes "name"))) (Ok (command_name name)) command e in
    ap (λ c. list_any (bytes_eq c) earlier) (sym (same_ok (command_name name) command holds.1)) ∙ not_true (list_any (bytes_eq (command_name name)) earlier) holds.0

row_ok : (names : Names) (shapes : Fields) (signs : Bool) (earlier : List (List ℕ)) (doc : Doc) (row : Row) → operation_of names shapes signs earlier doc ≡ Ok row → IsReadRow names shapes earlier row
unfolding operation_of
row_ok names shapes signs earlier doc row e =
    bind_ok (fields_of doc) (λ fields. text_at (codes "name") fields >>= (λ name. command_of earlier name >>= (λ command. after_command names shapes signs fields name command))) row e (λ fields a e1.
    bind_ok (text_at (codes "name") fields) (λ name. command_of earlier name >>= (λ command. after_command names shapes signs fields name command)) row e1 (λ name b e2.
    bind_ok (command_of earlier name) (λ command. after_command names shapes signs fields name command) row e2 (λ command c e3.
    let all = row_rest name command (needs_checksum fields) (needs_discovery fields) (http_of names shapes fields) (structure_at names (codes "input") fields) (structure_at names (codes "output") fields)
    (host_prefix_of names shapes fields) (signing_of signs fields) (fixed_params_of fields) row e3 in
    record {
      fields = fields;
      http = all.2;
      input = all.0;
      output = all.1;
      host = all.3;
      command = ap (λ k. list_any (bytes_eq k) earlier) (sym all.4) ∙ new_command earlier name command c;
    })))

rows_ok : (names : Names) (shapes : Fields) (signs : Bool) (Q : Row → Type 0) → ((earlier : List (List ℕ)) (row : Row) → IsReadRow names shapes earlier row → Q row)
    → (earlier : List (List ℕ)) (pairs : Fields) (rows : List Row) → operations_of names shapes signs earlier pairs ≡ Ok rows → AllByRecursion Q rows
rows_ok names shapes signs Q one earlier [] rows e = subst (AllByRecursion Q) (same_ok [] rows e) tt
rows_ok names shapes signs Q one earlier (p ∷ ps) rows e =
    bind_ok (inside p.key (operation_of names shapes signs earlier p.value)) (λ row. operations_of names shapes signs (with_name earlier row.command) ps >>= (λ others. Ok (row ∷ others))) rows e (λ row first then_rest.
    bind_ok (operations_of names shapes signs (with_name earlier row.command) ps) (λ others. Ok (row ∷ others)) rows then_rest (λ others rest all.
    subst (AllByRecursion Q) (same_ok (row ∷ others) rows all)
    (one earlier row (row_ok names shapes signs earlier p.value row (inside_ok p.key (operation_of names shapes signs earlier p.value) row first)), rows_ok names shapes signs Q one (with_name earlier row.command) ps others rest)))

neither : (a b : Bool) → (a || b) ≡ false → (a ≡ false) × (b ≡ false)
neither true b e = absurd (cc)
neither false b e = (refl, e)

-- a command name that no later one has is new among them
new_among : (command : List ℕ) (earlier : List (List ℕ)) (rows : List Row) → AllByRecursion (λ r. list_any (bytes_eq r.command) (with_name earlier command) ≡ false) rows
    → list_any (bytes_eq command) earlier ≡ false → IsNew command (map (λ r. r.command) rows) × AllByRecursion (λ r. list_any (bytes_eq r.command) earlier ≡ false) rows
new_among command earlier [] all new = (tt, tt)
new_among command earlier (r ∷ rs) all new =
    let two = neither (list_any (bytes_eq r.command) earlier) (bytes_eq r.command command) (sym (any_insert r.command command earlier) ∙ all.0) in
    let rest = new_among command earlier rs all.1 new in
    let differ : command ≡ r.command → ⊥ = λ same. true_not_false (sym ((bytes_eq-Decides r.command command).1 (sym same)) ∙ two.1) in
    ((differ, rest.0), (two.0, rest.1))

-- no command name stands twice, and none is an earlier one
distinct_rows : (names : Names) (shapes : Fields) (signs : Bool) (earlier : List (List ℕ)) (pairs : Fields) (rows : List Row) → operations_of names shapes signs earlier pairs ≡ Ok rows
    → IsDistinct (map (λ r. r.command) rows) × AllByRecursion (λ r. list_any (bytes_eq r.command) earlier ≡ false) rows
distinct_rows names shapes signs earlier [] rows e = subst (λ rs. IsDistinct (map (λ r. r.command) rs) × AllByRecursion (λ r. list_any (bytes_eq r.command) earlier ≡ false) rs) (same_ok [] rows e) (tt, tt)
distinct_rows names shapes signs earlier (p ∷ ps) rows e =
    bind_ok (inside p.key (operation_of names shapes signs earlier p.value)) (λ row. operations_of names shapes signs (with_name earlier row.command) ps >>= (λ others. Ok (row ∷ others))) rows e (λ row first then_rest.
    bind_ok (operations_of names shapes signs (with_name earlier row.command) ps) (λ others. Ok (row ∷ others)) rows then_rest (λ others rest all.
    let r : IsReadRow names shapes earlier row = row_ok names shapes signs earlier p.value row (inside_ok p.key (operation_of names shapes signs earlier p.value) row first) in
    let later = distinct_rows names shapes signs (with_name earlier row.command) ps others rest in
    let new = new_among row.command earlier others later.1 r.command in
    subst (λ rs. IsDistinct (map (λ x. x.command) rs) × AllByRecursion (λ x. list_any (bytes_eq x.command) earlier ≡ false) rs) (same_ok (row ∷ others) rows all)
    ((new.0, later.0), (r.command, new.1))))

-- shapes have the names in the file
pub names_read : (names : Names) (pairs : Fields) (shapes : List Shape) → shapes_of names pairs ≡ Ok shapes → map (λ s. s.name) shapes ≡ keys pairs
names_read names [] shapes e = ap (map (λ s. s.name)) (sym (same_ok [] shapes e))
names_read names (p ∷ ps) shapes e =
    bind_ok (inside p.key (shape_of names p)) (λ s. shapes_of names ps >>= (λ others. Ok (s ∷ others))) shapes e (λ s first then_rest.
    bind_ok (shapes_of names ps) (λ others. Ok (s ∷ others)) shapes then_rest (λ others rest all.
    let r : IsReadShape names p s = shape_read names p s (inside_ok p.key (shape_of names p) s first) in
    ap (map (λ x. x.name)) (sym (same_ok (s ∷ others) shapes all)) ∙ ap (λ n. n ∷ map (λ x. x.name) others) r.name ∙ ap (λ ns. p.key ∷ ns) (names_read names ps others rest)))

-- members of the input fill the labels of a row
pub record HasFilled (shapes : List Shape) (row : Row) : Type 0 where
  pub uri : AreFilled (fills_uri shapes) (members_at shapes row.input) row.uri
  pub host : IfSome row.host_prefix (AreFilled (fills_host shapes) (members_at shapes row.input))

-- inputs and outputs are structures
abbrev pub HasRowStructures : List Shape → Row → Type 0
HasRowStructures shapes row = IfSome row.input (IsOfKind kind.Structure shapes) × IfSome row.output (IsOfKind kind.Structure shapes)

-- what was read: as many shapes as names, each with parts that are there, and rows with structures
pub record IsSoundEntries (pairs : Fields) (rows : List Row) (shapes : List Shape) : Type 0 where
  pub as_many : length shapes ≡ length pairs
  pub parts : All (HasParts shapes) shapes
  pub structures : All (HasRowStructures shapes) rows
  pub kept : All (IsShape shapes) shapes
  pub wires : All TellsWires shapes
  pub filled : All (HasFilled shapes) rows
  pub names : map (λ s. s.name) shapes ≡ keys pairs
  pub commands : IsDistinct (map (λ r. r.command) rows)

within_all : (names : Names) (shapes : List Shape) (ms : List Member) → length names ≡ length shapes → AllByRecursion (λ m. m.shape.0 < length names) ms → All (λ m. IsWithin shapes m.shape) ms
within_all names shapes ms same h =
    All-from_recursion (λ m. IsWithin shapes m.shape) ms (All-weaker (λ m. m.shape.0 < length names) (λ m. IsWithin shapes m.shape) (λ m lt. omega (arith, lt, same)) ms h)

pub sound_entries : (signs : Bool) (operations pairs : Fields) (rows : List Row) (shapes : List Shape) → entries_of signs operations pairs ≡ Ok (rows, shapes) → IsSoundEntries pairs rows shapes
unfolding entries_of
sound_entries signs operations pairs rows shapes e =
    bind_ok _ _ (rows, shapes) e (λ rs read_rows e1. bind_ok _ _ (rows, shapes) e1 (λ ss read_shapes is.
    let names : Names = names_of pairs in
    let pair = same_ok (rs, ss) (rows, shapes) is in
    let shapes_read : shapes_of names pairs ≡ Ok shapes = inside_ok (codes "shapes") (shapes_of names pairs) ss read_shapes ∙ ap (λ p. Ok p.1) pair in
    let rows_read : operations_of names pairs signs [] operations ≡ Ok rows = inside_ok (codes "operations") (operations_of names pairs signs [] operations) rs read_rows ∙ ap (λ p. Ok p.0) pair in
    let many : length shapes ≡ length pairs = each_length (shape_of names) pairs shapes shapes_read in
    let same : length names ≡ length shapes = length-map pairs _ ∙ sym many in
    record {
      as_many = many;
      parts = All-from_recursion (HasParts shapes) shapes (All-weaker (HasNamed names) (HasParts shapes)
          (λ s h. (within_all names shapes s.members same h.0, IfSome_then s.item h.1 (λ id lt. omega (arith, lt, same)), IfSome_then s.key h.2 (λ id is_key. kinds_agree pairs shapes id kind.Str shapes_read is_key)))
          shapes (each_all (shape_of names) (HasNamed names) (λ p s read. (shape_ok names p s read).1) pairs shapes shapes_read));
      structures = All-from_recursion (HasRowStructures shapes) rows (All-weaker (HasNamedStructures names) (HasRowStructures shapes)
          (λ row h. (IfSome_then row.input h.0 (λ id k. kinds_agree pairs shapes id kind.Structure shapes_read k), IfSome_then row.output h.1 (λ id k. kinds_agree pairs shapes id kind.Structure shapes_read k)))
          rows (rows_ok names pairs signs (HasNamedStructures names) (λ earlier row r. (structure_ok names (codes "input") r.fields row.input r.input, structure_ok names (codes "output") r.fields row.output r.output)) [] operations rows rows_read));
      kept = shapes_kept pairs shapes shapes_read many;
      wires = All-from_recursion TellsWires shapes (each_all (shape_of names) TellsWires (λ p s read. tells_wires names p s read) pairs shapes shapes_read);
      filled = All-from_recursion (HasFilled shapes) rows (rows_ok names pairs signs (HasFilled shapes)
          (λ earlier row r. record {
            uri = uri_kept pairs shapes shapes_read many r.fields row.input (row.method, row.uri) r.input r.http;
            host = host_kept pairs shapes shapes_read many r.fields row.input row.host_prefix r.input r.host;
          }) [] operations rows rows_read);
      names = names_read names pairs shapes shapes_read;
      commands = (distinct_rows names pairs signs [] operations rows rows_read).0;
    }))
