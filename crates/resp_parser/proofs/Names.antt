-- Entries under names of members: the name of the next member is a new key.
use Rattle.std.proofs.Common.{◌≡◌, ℕ, ◌+◌, ◌<◌, List, [], ◌∷◌, ◌++◌, length, get_or, take, drop, Option, None, Some, refl, sym, ap, subst, ◌∙◌, append-nil}
use Rattle.std.proofs.lemmas.List.{drop_more, take_more, take-append-drop}
use Rattle.json_doc.specs.declared.doc.Doc.{Doc}
use Rattle.service_model.specs.declared.shape.Member.{Member}
use Rattle.service_model.specs.Shapes.{names_in}
use Rattle.texts.specs.declared.pairs.Pair.{Pair}
use Rattle.texts.specs.Keys.{keys, IsDistinct, IsNew}
use Rattle.resp_parser.specs.Kept.{pair_of}
use Rattle.resp_parser.specs.Members.{entry_for}

-- what is none of the members' names is none of the keys
abbrev pub AreNames : {X : Type 0} → List Member → List (Pair X) → Type 0
AreNames members made = (k : List ℕ) → IsNew k (names_in members) → IsNew k (keys made)

not-new : (k : List ℕ) (front : List Member) (m : Member) (rest : List Member) → IsNew k (names_in (front ++ m ∷ rest)) → k ≡ m.name → ⊥
not-new k [] m rest new = new.0
not-new k (x ∷ front) m rest new = not-new k front m rest new.1

new-front : (front : List Member) (m : Member) (rest : List Member) → IsDistinct (names_in (front ++ m ∷ rest)) → IsNew m.name (names_in front)
new-front [] m rest distinct = tt
new-front (x ∷ front) m rest distinct = ((λ e. not-new x.name front m rest distinct.0 (sym e)), new-front front m rest distinct.1)

new-first : (k : List ℕ) (xs : List Member) (m : Member) → IsNew k (names_in (xs ++ m ∷ [])) → IsNew k (names_in xs)
new-first k [] m new = tt
new-first k (x ∷ xs) m new = (new.0, new-first k xs m new.1)

new-last : (k : List ℕ) (xs : List Member) (m : Member) → IsNew k (names_in (xs ++ m ∷ [])) → k ≡ m.name → ⊥
new-last k [] m new = new.0
new-last k (x ∷ xs) m new = new-last k xs m new.1

new-pushed : {X : Type 0} (k : List ℕ) (ps : List (Pair X)) (p : Pair X) → IsNew k (keys ps) → (k ≡ p.key → ⊥) → IsNew k (keys (ps ++ p ∷ []))
new-pushed k [] p new other = (other, tt)
new-pushed k (q ∷ ps) p new other = (new.0, new-pushed k ps p new.1 other)

module _ (members : List Member) (i : ℕ) (m : Member) (within : i < length members) (at : m ≡ get_or members i m) where
  pub next-drop : drop i members ≡ m ∷ drop (i + 1) members
  next-drop = drop_more members i m within ∙ ap (λ x. x ∷ drop (i + 1) members) (sym at)

  pub next-take : take (i + 1) members ≡ take i members ++ m ∷ []
  next-take = take_more members i m within ∙ ap (λ x. take i members ++ x ∷ []) (sym at)

  module _ {X : Type 0} (made : List (Pair X)) (names : AreNames (take i members) made) where
    pub name-new : IsDistinct (names_in members) → IsNew m.name (keys made)
    name-new distinct =
        let whole = sym (take-append-drop i members) ∙ ap (λ xs. take i members ++ xs) next-drop in
        names m.name (new-front (take i members) m (drop (i + 1) members) (subst (λ xs. IsDistinct (names_in xs)) whole distinct))

    pub names-same : AreNames (take (i + 1) members) made
    names-same k new = names k (new-first k (take i members) m (subst (λ xs. IsNew k (names_in xs)) next-take new))

    pub names-more : (value : X) → AreNames (take (i + 1) members) (made ++ pair_of m.name value ∷ [])
    names-more value k new =
        let split = subst (λ xs. IsNew k (names_in xs)) next-take new in
        new-pushed k made (pair_of m.name value) (names k (new-first k (take i members) m split)) (new-last k (take i members) m split)

  pub names-entry : (made : List (Pair Doc)) → AreNames (take i members) made → (value : Option Doc) → AreNames (take (i + 1) members) (made ++ entry_for m value)
  names-entry made names None = subst (AreNames (take (i + 1) members)) (sym (append-nil made)) (names-same made names)
  names-entry made names (Some d) = names-more made names d
