-- The name of a union's one member is the same in the entries, in what is kept of them, and in their faults.
use Rattle.std.proofs.Common.{◌≡◌, List, None}
use Rattle.json_doc.specs.declared.doc.Doc.{Doc}
use Rattle.service_model.specs.declared.shape.Shape.{Shape}
use Rattle.texts.specs.declared.pairs.Pair.{Pair}
use Rattle.resp_parser.specs.FirstFault.{judge_of}
use Rattle.resp_parser.specs.Kept.{kept_of, unknown_tag, with_values}
use Rattle.resp_parser.specs.Kinds.{is_null}
use Rattle.resp_parser.proofs.Counted.{tag-with}
use Rattle.resp_parser.proofs.Nulls.{null-judged, null-kept}

pub tag-kept : (shapes : List Shape) (shape : Shape) (ps : List (Pair Doc))
    → unknown_tag (λ keep. is_null (keep None)) shape (with_values (kept_of shapes) ps) ≡ unknown_tag is_null shape ps
tag-kept shapes shape ps = tag-with (kept_of shapes) is_null (λ keep. is_null (keep None)) (null-kept shapes) shape ps

pub tag-judged : (shapes : List Shape) (shape : Shape) (ps : List (Pair Doc))
    → unknown_tag (λ judge. judge.is_null) shape (with_values (judge_of shapes) ps) ≡ unknown_tag is_null shape ps
tag-judged shapes shape ps = tag-with (judge_of shapes) is_null (λ judge. judge.is_null) (null-judged shapes) shape ps
