-- The outermost layer of a document, and folds over it.
use Rattle.std.proofs.Common.{◌≡◌, ℕ, Bool, List, map, sym, ap, ◌∙◌, rules}
use Rattle.json_doc.specs.declared.decimal.Decimal.{Decimal}
use Rattle.json_doc.specs.declared.doc.Doc.{Doc, the_lemmas, out-Doc}
use Rattle.json_doc.specs.declared.doc.Doc.TheVariants.{Null, Flag, Number, Str, Items, Fields, rolls-Null, rolls-Flag, rolls-Number, rolls-Str, rolls-Items, rolls-Fields}
use Rattle.json_doc.specs.declared.doc.Doc.TheOpen.{Doc-F}
use Rattle.json_doc.specs.declared.doc.Doc.TheFolds.{fold-Doc, fold-roll-Doc}
use Rattle.texts.specs.declared.pairs.Pair.{Pair}
use Rattle.resp_parser.specs.Kept.{with_values}

pub out-Null : out-Doc Null ≡ Doc-F.Null
out-Null = search (rules, the_lemmas)

pub out-Flag : (flag : Bool) → out-Doc (Flag flag) ≡ Doc-F.Flag flag
out-Flag flag = search (rules, the_lemmas)

pub out-Number : (n : Decimal) → out-Doc (Number n) ≡ Doc-F.Number n
out-Number n = search (rules, the_lemmas)

pub out-Str : (t : List ℕ) → out-Doc (Str t) ≡ Doc-F.Str t
out-Str t = search (rules, the_lemmas)

pub out-Items : (ds : List Doc) → out-Doc (Items ds) ≡ Doc-F.Items ds
out-Items ds = search (rules, the_lemmas)

pub out-Fields : (ps : List (Pair Doc)) → out-Doc (Fields ps) ≡ Doc-F.Fields ps
out-Fields ps = search (rules, the_lemmas)

-- what is folded of each variant
module _ {A : Type 0} (step : Doc-F A → A) where
  pub fold-Null : fold-Doc A step Null ≡ step Doc-F.Null
  fold-Null = ap (fold-Doc A step) (sym rolls-Null) ∙ fold-roll-Doc A step Doc-F.Null

  pub fold-Flag : (flag : Bool) → fold-Doc A step (Flag flag) ≡ step (Doc-F.Flag flag)
  fold-Flag flag = ap (fold-Doc A step) (sym (rolls-Flag flag)) ∙ fold-roll-Doc A step (Doc-F.Flag flag)

  pub fold-Number : (n : Decimal) → fold-Doc A step (Number n) ≡ step (Doc-F.Number n)
  fold-Number n = ap (fold-Doc A step) (sym (rolls-Number n)) ∙ fold-roll-Doc A step (Doc-F.Number n)

  pub fold-Str : (t : List ℕ) → fold-Doc A step (Str t) ≡ step (Doc-F.Str t)
  fold-Str t = ap (fold-Doc A step) (sym (rolls-Str t)) ∙ fold-roll-Doc A step (Doc-F.Str t)

  pub fold-Items : (ds : List Doc) → fold-Doc A step (Items ds) ≡ step (Doc-F.Items (map (fold-Doc A step) ds))
  fold-Items ds = ap (fold-Doc A step) (sym (rolls-Items ds)) ∙ fold-roll-Doc A step (Doc-F.Items ds)

  pub fold-Fields : (ps : List (Pair Doc)) → fold-Doc A step (Fields ps) ≡ step (Doc-F.Fields (with_values (fold-Doc A step) ps))
  fold-Fields ps = ap (fold-Doc A step) (sym (rolls-Fields ps)) ∙ fold-roll-Doc A step (Doc-F.Fields ps)
