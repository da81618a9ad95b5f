-- The segments of a chain behind each `[]`, one after another.
use Rattle.std.proofs.Common.{◌≡◌, ℕ, ◌+◌, ◌<◌, List, map, length, get_or, drop, Ok, Err, sym, ap, subst, ◌∙◌}
use Rattle.std.specs.Prelude.{IsErr, IsErrAnd, option_map}
use Rattle.std.proofs.lemmas.List.{at_drop_more}
use Rattle.json_doc.specs.declared.doc.Doc.{Doc}
use Rattle.jmes_syntax.specs.declared.expr.Expr.{Expr}
use Rattle.jmes_syntax.specs.declared.expr.Step.{Step}
use Rattle.jmes_eval.specs.declared.query_fault.QueryFault.{QueryFault}
use Rattle.jmes_eval.specs.declared.query_fault.QueryFault.TheVariants.{TypeFault, NumberTooWide, OutOfMemory}
use Rattle.jmes_eval.specs.Answers.{Answer, is_memory}
use Rattle.texts.specs.Calls.{◌>>=◌, Answers}
use Rattle.jmes_eval.specs.Kinds.{items_of}
use Rattle.jmes_eval.specs.Meaning.{meaning, behind, project, run, joined_lists}
use Rattle.jmes_eval.specs.Parts.{steps_with}

abbrev pub segment : List (Step Expr) → Doc → Answer Doc
segment steps d = project (run (steps_with meaning steps)) (option_map joined_lists (items_of d))

abbrev pub segments : List (List (Step Expr)) → Doc → Answer Doc
segments all d = behind (map (steps_with meaning) all) d

one_of : (all : List (List (Step Expr))) (i : ℕ) (x : List (Step Expr)) (d : Doc) → i < length all → x ≡ get_or all i x
    → segments (drop i all) d ≡ segment x d >>= segments (drop (i + 1) all)
one_of all i x d within is =
    at_drop_more (λ ys. segments ys d) all i x within ∙ ap (λ y. segment y d >>= segments (drop (i + 1) all)) (sym is)

-- one segment goes well
pub segments_on : (all : List (List (Step Expr))) (i : ℕ) (x : List (Step Expr)) (d e : Doc) (whole : Answer Doc) → i < length all → x ≡ get_or all i x
    → segment x d ≡ Ok e → segments (drop i all) d ≡ whole → segments (drop (i + 1) all) e ≡ whole
segments_on all i x d e whole within is gives before =
    ap (λ r. r >>= segments (drop (i + 1) all)) (sym gives) ∙ sym (one_of all i x d within is) ∙ before

-- one segment has a fault
pub segments_fail : (all : List (List (Step Expr))) (i : ℕ) (x : List (Step Expr)) (d : Doc) (fault : QueryFault) (whole : Answer Doc) → i < length all → x ≡ get_or all i x
    → segments (drop i all) d ≡ whole → segment x d ≡ Err fault → whole ≡ Err fault
segments_fail all i x d fault whole within is before gives =
    sym before ∙ one_of all i x d within is ∙ ap (λ r. r >>= segments (drop (i + 1) all)) gives

-- what `?` hands on
pub came : {X : Type 0} (result : Answer X) (fault : QueryFault) → IsErr result × IsErrAnd result (λ e. e ≡ fault) → result ≡ Err fault
came (Ok x) fault e = absurd e.1
came (Err e) fault is = ap Err is.1

-- the fault of a part is that of the whole
pub ends_so : {A B X Y : Type 0} (view : X → A) (part_view : Y → B) (part : Answer B) (whole : Answer A) (result : Answer X) (fault : QueryFault)
    → result ≡ Err fault → Answers is_memory part_view (Err fault) part → (part ≡ Err fault → whole ≡ Err fault) → Answers is_memory view result whole
ends_so view part_view part whole result TypeFault is gives goes = subst (λ r. Answers is_memory view r whole) (sym is) (goes gives)
ends_so view part_view part whole result NumberTooWide is gives goes = subst (λ r. Answers is_memory view r whole) (sym is) (goes gives)
ends_so view part_view part whole result OutOfMemory is gives goes = subst (λ r. Answers is_memory view r whole) (sym is) tt
