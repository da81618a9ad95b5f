-- Names under which members are sent, and whether one stands twice.
use Rattle.std.proofs.Common.{◌≡◌, ℕ, Bool, true, false, not, ◌&&◌, ◌||◌, List, [], ◌∷◌, ◌++◌, map, bytes_eq, Ok, refl, sym, ap, subst, ◌∙◌}
use Rattle.std.specs.List.{AllByRecursion, list_any, list_all}
use Rattle.std.proofs.lemmas.Slice.Eq.{bytes_eq-Decides}
use Rattle.json_doc.specs.declared.doc.Doc.{Doc}
use Rattle.texts.specs.declared.pairs.Pair.{Pair}
use Rattle.texts.specs.Keys.{IsNew, IsDistinct}
use Rattle.service_model.specs.declared.shape.Member.{Member}
use Rattle.service_model.specs.declared.shape.Shape.{Shape}
use Rattle.service_model.specs.Kept.{HasOwnNames, TellsWires}
use Rattle.service_model.specs.Numbering.{Names}
use Rattle.service_model.specs.Shapes.{are_new, have_own_wires, shape_of}
use Rattle.service_model.proofs.Among.{any_last}
use Rattle.service_model.proofs.KeptShapes.{IsReadShape, shape_read}

abbrev wires : List Member → List (List ℕ)
wires members = map (λ m. m.wire) members

both : (a b : Bool) → (a && b) ≡ true → (a ≡ true) × (b ≡ true)
both true b e = (refl, e)
both false b e = absurd (cc)

neither : (a b : Bool) → (a || b) ≡ false → (a ≡ false) × (b ≡ false)
neither true b e = absurd (cc)
neither false b e = (refl, e)

not_true : (b : Bool) → not b ≡ true → b ≡ false
not_true true e = absurd (cc)
not_true false e = refl

not_held : (b : Bool) → (b ≡ true → ⊥) → b ≡ false
not_held true never = absurd (never refl)
not_held false never = refl

-- none of these is one of those
abbrev AreOthers : List (List ℕ) → List (List ℕ) → Type 0
AreOthers those texts = AllByRecursion (λ t. list_any (bytes_eq t) those ≡ false) texts

others_split : (text : List ℕ) (those texts : List (List ℕ)) → AreOthers (those ++ text ∷ []) texts → IsNew text texts × AreOthers those texts
others_split text those [] all = (tt, tt)
others_split text those (t ∷ ts) all =
    let two = neither (list_any (bytes_eq t) those) (bytes_eq t text) (sym (any_last t text those) ∙ all.0) in
    let rest = others_split text those ts all.1 in
    let differ : text ≡ t → ⊥ = λ same. absurd (true_false (sym ((bytes_eq-Decides t text).1 (sym same)) ∙ two.1)) in
    ((differ, rest.0), (two.0, rest.1))
  where
    true_false : true ≡ false → ⊥
    true_false e = absurd (cc)

others_joined : (text : List ℕ) (those texts : List (List ℕ)) → IsNew text texts → AreOthers those texts → AreOthers (those ++ text ∷ []) texts
others_joined text those [] new all = tt
others_joined text those (t ∷ ts) new all =
    let differ : bytes_eq t text ≡ false = not_held (bytes_eq t text) (λ same. new.0 (sym ((bytes_eq-Decides t text).0 same))) in
    (any_last t text those ∙ ap (λ b. b || bytes_eq t text) all.0 ∙ differ, others_joined text those ts new.1 all.1)

new_ones : (those texts : List (List ℕ)) → are_new those texts ≡ true → AreOthers those texts × IsDistinct texts
new_ones those [] e = (tt, tt)
new_ones those (t ∷ ts) e =
    let two = both (not (list_any (bytes_eq t) those)) (are_new (those ++ t ∷ []) ts) e in
    let rest = new_ones (those ++ t ∷ []) ts two.1 in
    let split = others_split t those ts rest.0 in
    ((not_true (list_any (bytes_eq t) those) two.0, split.1), (split.0, rest.1))

ones_new : (those texts : List (List ℕ)) → AreOthers those texts → IsDistinct texts → are_new those texts ≡ true
ones_new those [] others distinct = refl
ones_new those (t ∷ ts) others distinct =
    ap (λ b. not b && are_new (those ++ t ∷ []) ts) others.0
    ∙ ones_new (those ++ t ∷ []) ts (others_joined t those ts distinct.0 others.1) distinct.1

none_of_none : (texts : List (List ℕ)) → AreOthers [] texts
none_of_none [] = tt
none_of_none (t ∷ ts) = (refl, none_of_none ts)

-- a shape that was read tells it
pub tells_wires : (names : Names) (p : Pair Doc) (shape : Shape) → shape_of names p ≡ Ok shape → TellsWires shape
tells_wires names p shape e =
    let r : IsReadShape names p shape = shape_read names p shape e in
    let told : shape.has_own_wires ≡ have_own_wires shape.members = r.wires ∙ ap have_own_wires (sym r.members) in
    ((λ own. (new_ones [] (wires shape.members) (sym told ∙ own)).1), (λ distinct. told ∙ ones_new [] (wires shape.members) (none_of_none (wires shape.members)) distinct))

names_kept : (members : List Member) → list_all (λ m. bytes_eq m.wire m.name) members ≡ true → wires members ≡ map (λ m. m.name) members
names_kept [] e = refl
names_kept (m ∷ ms) e =
    let two = both (bytes_eq m.wire m.name) (list_all (λ x. bytes_eq x.wire x.name) ms) e in
    ap (λ n. n ∷ wires ms) ((bytes_eq-Decides m.wire m.name).0 two.0) ∙ ap (λ ns. m.name ∷ ns) (names_kept ms two.1)

-- members that are sent under their own names
pub own_where_kept : (members : List Member) → HasOwnNames members → list_all (λ m. bytes_eq m.wire m.name) members ≡ true → have_own_wires members ≡ true
own_where_kept members distinct kept =
    ones_new [] (wires members) (none_of_none (wires members)) (subst IsDistinct (sym (names_kept members kept)) distinct)
