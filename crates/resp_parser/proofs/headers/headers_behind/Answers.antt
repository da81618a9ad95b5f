use Rattle.std.proofs.Common.{◌≡◌, ℕ, ◌+◌, List, ◌∷◌, ◌++◌, [], None, Some, take, Bor, sym, ap, ◌∙◌, append-nil}
use Rattle.std.specs.Prelude.{option_to_list, option_map}
use Rattle.std.specs.List.{flat_map}
use Rattle.std.specs.Str.{chars}
use Rattle.std.proofs.lemmas.List.{flat_map_more, take_more}
use Rattle.json_doc.specs.declared.doc.Doc as doc
use Rattle.json_doc.specs.declared.doc.Doc.{Doc}
use Rattle.texts.specs.declared.pairs.Pair.{Pair}
use Rattle.resp_parser.specs.Headers.{entry_behind, firsts, rest_behind, with_first}
use Rattle.resp_parser.specs.Kept.{pair_of}
use Rattle.resp_parser.proofs.Firsts.{firsts-more}
use Rattle.resp_parser.proofs.headers.headers_behind.Goals as goal
use Rattle.resp_parser.proofs.headers.headers_behind.Goals.{in-Some+in_ok-add_first, in_default}

abbrev shown : Bor (List ℕ) → List ℕ
shown rest = chars rest.now

abbrev entries : List ℕ → List ℕ × List ℕ → List (Pair Doc)
entries prefix h = option_to_list (entry_behind prefix h)

pub loop-header-preserved : goal.loop-header-preserved
loop-header-preserved c =
    let headers = c.as_slice-header-items.result.now in
    let prefix = c.args.prefix.now in
    let h = c.header-item.result in
    let i = c.loop-header.header-index in
    let before = flat_map (entries prefix) (take i headers) in
    let next : flat_map (entries prefix) (take (i + 1) headers) ≡ before ++ entries prefix h =
    ap (flat_map (entries prefix)) (take_more headers i h c.loop-header-test.true ∙ ap (λ x. take i headers ++ x ∷ []) (sym c.header-item.is))
    ∙ sym (flat_map_more (entries prefix) [] (take i headers) h) in
    let found : option_map shown c.rest_behind.result ≡ rest_behind prefix h.0 =
    c.rest_behind.ensures ∙ ap (λ k. rest_behind k (chars c.as_str-in-loop-header.result.now)) c.as_str.ensures.value ∙ ap (rest_behind prefix) c.as_str-in-loop-header.ensures.value in
    elim c.match-rest_behind.branch [
      | in-Some+in_ok-add_first w ↦
          let is : rest_behind prefix h.0 ≡ Some (chars w.in-Some.rest.now) = sym found ∙ ap (option_map shown) w.in-Some.is in
          let p = pair_of (chars w.in-Some.rest.now) (doc.Str h.1) in
          let one : entries prefix h ≡ p ∷ [] = ap (λ o. option_to_list (option_map (λ r. pair_of r (doc.Str h.1)) o)) is in
          w.made-is ∙ w.in_ok-add_first.ensures ∙ ap (λ ps. with_first ps p) c.loop-header.invariant ∙ sym (firsts-more before p)
          ∙ ap firsts (ap (λ xs. before ++ xs) (sym one) ∙ sym next)
      | in_default w ↦
          let none : rest_behind prefix h.0 ≡ None = sym found ∙ ap (option_map shown) w.in_default.is in
          let same : entries prefix h ≡ [] = ap (λ o. option_to_list (option_map (λ r. pair_of r (doc.Str h.1)) o)) none in
          w.made-is ∙ c.loop-header.invariant ∙ ap firsts (sym (next ∙ ap (λ xs. before ++ xs) same ∙ append-nil before))
    ]
