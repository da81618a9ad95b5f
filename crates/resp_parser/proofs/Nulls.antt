-- Whether a value is null is told alike by all who ask.
use Rattle.std.proofs.Common.{◌≡◌, List, None, refl, ap, ◌∙◌}
use Rattle.json_doc.specs.declared.doc.Doc.{Doc, map-Doc, out-Doc}
use Rattle.json_doc.specs.declared.doc.Doc.TheOpen.{Doc-F}
use Rattle.json_doc.specs.declared.doc.Doc.TheFolds.{fold_out-Doc}
use Rattle.service_model.specs.declared.shape.Shape.{Shape}
use Rattle.resp_parser.specs.FirstFault.{Judge, is_nothing, judge_of, judge_step}
use Rattle.resp_parser.specs.Kept.{kept_of}
use Rattle.resp_parser.specs.Kinds.{is_null, is_null_view}
use Rattle.resp_parser.proofs.Unchanged.{unchanged}

pub null-kept : (shapes : List Shape) (d : Doc) → is_null (kept_of shapes d None) ≡ is_null d
null-kept shapes d = ap is_null (unchanged shapes d)

nothing : (shapes : List Shape) (x : Doc-F Doc) → is_nothing (map-Doc Doc Judge (judge_of shapes) x) ≡ is_null_view x
nothing shapes Doc-F.Null = refl
nothing shapes (Doc-F.Flag flag) = refl
nothing shapes (Doc-F.Number n) = refl
nothing shapes (Doc-F.Str t) = refl
nothing shapes (Doc-F.Items ds) = refl
nothing shapes (Doc-F.Fields ps) = refl

pub null-judged : (shapes : List Shape) (d : Doc) → (judge_of shapes d).is_null ≡ is_null d
null-judged shapes d = ap (λ j. j.is_null) (fold_out-Doc Judge (judge_step shapes) d) ∙ nothing shapes (out-Doc d)
