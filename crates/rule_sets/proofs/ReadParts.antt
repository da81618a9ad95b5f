-- What an argument says, by its kind.
use Rattle.std.proofs.Common.{◌≡◌, ℕ, List, [], ◌∷◌, map, Option, None, Some, refl, sym, ap, ◌∙◌}
use Rattle.std.specs.Prelude.{codes, option_map, option_and_then}
use Rattle.json_doc.specs.declared.doc.Doc.{Doc, out-Doc, map-Doc}
use Rattle.json_doc.specs.declared.doc.Doc.TheVariants.{Fields}
use Rattle.json_doc.specs.declared.doc.Doc.TheOpen.{Doc-F}
use Rattle.json_doc.specs.declared.doc.Doc.TheFolds.{fold_out-Doc}
use Rattle.texts.specs.declared.pairs.Pair.{Pair}
use Rattle.texts.specs.Keys.{value_at}
use Rattle.rule_terms.specs.declared.expression.Expression.{Expression}
use Rattle.rule_terms.specs.declared.expression.Expression.TheVariants as expression
use Rattle.rule_terms.specs.declared.function.Function.{Function}
use Rattle.rule_terms.specs.Seen.{items_of, items_kind, text_or_empty}
use Rattle.rule_sets.specs.BadRules.{function_in}
use Rattle.rule_sets.specs.Rules.{ReadArgument, argument_step, arguments_read, call_of, call_with, expression_of, many_of, null_expression, object_read, told_pair}
use Rattle.rule_sets.specs.Trees.{Told, told, told_step}
use Rattle.rule_sets.proofs.Tales.{part_same, parts_same, told_at, told_fields}

ones : (ds : List Doc) → map (λ t. t.tale.one) (map (told argument_step) ds) ≡ map expression_of ds
ones [] = refl
ones (d ∷ ds) = ap (λ es. expression_of d ∷ es) (ones ds)

many-kind : (x : Doc-F Doc) → arguments_read (map-Doc Doc (Told ReadArgument) (told argument_step) x) ≡ option_map (map expression_of) (items_kind x)
many-kind Doc-F.Null = refl
many-kind (Doc-F.Flag flag) = refl
many-kind (Doc-F.Number n) = refl
many-kind (Doc-F.Str t) = refl
many-kind (Doc-F.Items ds) = ap Some (ones ds)
many-kind (Doc-F.Fields ps) = refl

many-is : (d : Doc) → (told argument_step d).tale.many ≡ option_map (map expression_of) (items_of d)
many-is d = ap (λ t. t.tale.many) (fold_out-Doc (Told ReadArgument) (told_step argument_step) d) ∙ many-kind (out-Doc d)

manys : (o : Option Doc) → many_of (option_map (told argument_step) o) ≡ option_map (map expression_of) (option_and_then items_of o)
manys None = refl
manys (Some d) = many-is d

call-is : (ps : List (Pair Doc))
    → call_of ps ≡ call_with (function_in (value_at (codes "fn") ps)) (option_map (map expression_of) (option_and_then items_of (value_at (codes "argv") ps)))
call-is ps =
    ap (λ qs. call_with (function_in (value_at (codes "fn") qs)) (many_of (value_at (codes "argv") (map told_pair ps)))) (parts_same argument_step ps)
    ∙ ap (λ o. call_with (function_in (value_at (codes "fn") ps)) (many_of o)) (told_at argument_step (codes "argv") ps)
    ∙ ap (call_with (function_in (value_at (codes "fn") ps))) (manys (value_at (codes "argv") ps))

-- a call without a function is null
pub call-none : (ps : List (Pair Doc)) → function_in (value_at (codes "fn") ps) ≡ None → null_expression ≡ call_of ps
call-none ps is =
    sym (call-is ps ∙ ap (λ f. call_with f (option_map (map expression_of) (option_and_then items_of (value_at (codes "argv") ps)))) is)

bare : (f : Option Function) → null_expression ≡ call_with f None
bare None = refl
bare (Some f) = refl

-- so is one without a list of arguments
pub call-bare : (ps : List (Pair Doc)) → option_and_then items_of (value_at (codes "argv") ps) ≡ None → null_expression ≡ call_of ps
call-bare ps is =
    bare (function_in (value_at (codes "fn") ps))
    ∙ ap (λ o. call_with (function_in (value_at (codes "fn") ps)) (option_map (map expression_of) o)) (sym is)
    ∙ sym (call-is ps)

pub call-some : (ps : List (Pair Doc)) (f : Function) (ds : List Doc) (arguments : List Expression) → function_in (value_at (codes "fn") ps) ≡ Some f
    → option_and_then items_of (value_at (codes "argv") ps) ≡ Some ds → arguments ≡ map expression_of ds → expression.Call f arguments ≡ call_of ps
call-some ps f ds arguments named listed made =
    ap (expression.Call f) made
    ∙ ap (λ o. call_with o (Some (map expression_of ds))) (sym named)
    ∙ ap (λ o. call_with (function_in (value_at (codes "fn") ps)) (option_map (map expression_of) o)) (sym listed)
    ∙ sym (call-is ps)

object-is : (ps : List (Pair Doc)) → expression_of (Fields ps) ≡ object_read (map told_pair ps) (option_map (told argument_step) (value_at (codes "ref") ps))
object-is ps = ap (λ t. t.tale.one) (told_fields argument_step ps) ∙ ap (object_read (map told_pair ps)) (told_at argument_step (codes "ref") ps)

pub reference-is : (ps : List (Pair Doc)) (name : Doc) (text : List ℕ) → value_at (codes "ref") ps ≡ Some name → text ≡ text_or_empty name
    → expression.Reference text ≡ expression_of (Fields ps)
reference-is ps name text is same =
    ap expression.Reference same ∙ ap (λ d. expression.Reference (text_or_empty d)) (sym (part_same argument_step name))
    ∙ ap (λ o. object_read (map told_pair ps) (option_map (told argument_step) o)) (sym is) ∙ sym (object-is ps)

pub call-here : (ps : List (Pair Doc)) → value_at (codes "ref") ps ≡ None → call_of ps ≡ expression_of (Fields ps)
call-here ps is = ap (λ o. object_read (map told_pair ps) (option_map (told argument_step) o)) (sym is) ∙ sym (object-is ps)
