-- The members of rest-json, one after another.
use Rattle.std.proofs.Common.{◌≡◌, ◌⊎◌, inl, inr, ℕ, ◌+◌, ◌<◌, List, [], ◌∷◌, ◌++◌, length, get_or, drop, Option, None, Some, Result, Ok, Err, refl, sym, ap, subst, ◌∙◌, append_assoc, append-nil}
use Rattle.aws_world.specs.declared.message.Reply.{Reply}
use Rattle.json_doc.specs.declared.doc.Doc.{Doc}
use Rattle.service_model.specs.declared.shape.Member.{Member}
use Rattle.service_model.specs.declared.shape.Shape.{Shape}
use Rattle.texts.specs.declared.pairs.Pair.{Pair}
use Rattle.texts.specs.Keys.{value_at}
use Rattle.resp_parser.specs.Kept.{pair_of}
use Rattle.resp_parser.specs.Members.{AreMembers, MemberValue, PlacedValue, entry_for}
use Rattle.resp_parser.specs.Paths.{Path, inside, to_name}
use Rattle.resp_parser.proofs.Names.{next-drop}

-- an answer with these entries before it
abbrev pub after : List (Pair Doc) → Result (List (Pair Doc)) Path → Result (List (Pair Doc)) Path
after made (Ok others) = Ok (made ++ others)
after made (Err path) = Err path

after-after : (made more : List (Pair Doc)) (r : Result (List (Pair Doc)) Path) → after made (after more r) ≡ after (made ++ more) r
after-after made more (Ok others) = ap Ok (sym (append_assoc made more others))
after-after made more (Err path) = refl

module _ (shapes : List Shape) (reply : Reply) (payload : Option (List ℕ)) (ps : List (Pair Doc)) where
  -- what may come of those that are left comes of all, behind what was made
  abbrev pub Leads : List Member → List Member → List (Pair Doc) → Type 0
  Leads left members made = (r : Result (List (Pair Doc)) Path) → AreMembers shapes reply payload ps left r → AreMembers shapes reply payload ps members (after made r)

  one-more : (m : Member) (rest : List Member) (value : Option Doc) → MemberValue shapes reply payload ps m (Ok value) → Leads rest (m ∷ rest) (entry_for m value)
  one-more m rest None here (Ok others) all = inr (None, here, inr (others, all, refl))
  one-more m rest (Some d) here (Ok others) all = inr (Some d, here, inr (others, all, refl))
  one-more m rest value here (Err path) all = inr (value, here, inl (path, all, refl))

  pub leads-none : (members : List Member) → Leads members members []
  leads-none members (Ok others) all = all
  leads-none members (Err path) all = all

  pub leads-all : (members : List Member) (made : List (Pair Doc)) → Leads [] members made → AreMembers shapes reply payload ps members (Ok made)
  leads-all members made leads = subst (λ xs. AreMembers shapes reply payload ps members (Ok xs)) (append-nil made) (leads (Ok []) refl)

  module _ (members : List Member) (i : ℕ) (m : Member) (within : i < length members) (at : m ≡ get_or members i m) (made : List (Pair Doc)) (so_far : Leads (drop i members) members made) where
    abbrev Here : Result (Option Doc) Path → Type 0
    Here placed = PlacedValue shapes reply payload (value_at m.wire ps) m m.location placed

    pub leads-more : (value : Option Doc) → Here (Ok value) → Leads (drop (i + 1) members) members (made ++ entry_for m value)
    leads-more value here r all =
        let whole = one-more m (drop (i + 1) members) value (Ok value, here, refl) r all in
        subst (AreMembers shapes reply payload ps members) (after-after made (entry_for m value) r)
        (so_far (after (entry_for m value) r) (subst (λ xs. AreMembers shapes reply payload ps xs (after (entry_for m value) r)) (sym (next-drop members i m within at)) whole))

    pub leads-refused : (path : Path) → Here (Err path) → AreMembers shapes reply payload ps members (Err (to_name m.name ++ path))
    leads-refused path here =
        so_far (Err (to_name m.name ++ path)) (subst (λ xs. AreMembers shapes reply payload ps xs (Err (to_name m.name ++ path))) (sym (next-drop members i m within at))
        (inl (to_name m.name ++ path, (Err path, here, refl), refl)))
