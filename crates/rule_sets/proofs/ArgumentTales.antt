-- How arguments, calls and the texts of a document are judged, layer by layer.
use Rattle.std.proofs.Common.{◌≡◌, ℕ, ◌+◌, List, [], ◌∷◌, map, length, Option, None, Some, true, refl, sym, ap, ◌∙◌}
use Rattle.std.specs.Prelude.{codes, option_map, bytes_eq, if◌then◌else◌}
use Rattle.std.specs.Fmt.{decimal}
use Rattle.json_doc.specs.declared.doc.Doc.{Doc}
use Rattle.json_doc.specs.declared.doc.Doc.TheVariants.{Items, Fields, rolls-Items, rolls-Fields}
use Rattle.json_doc.specs.declared.doc.Doc.TheOpen.{Doc-F}
use Rattle.json_doc.specs.declared.doc.Doc.TheFolds.{fold-roll-Doc}
use Rattle.texts.specs.declared.pairs.Pair.{Pair}
use Rattle.texts.specs.Keys.{value_at}
use Rattle.model_files.specs.Faults.{inside}
use Rattle.rule_terms.specs.declared.function.Function.{Function}
use Rattle.rule_sets.specs.BadPlaces.{Judged, fine, first_of, first_bad, has_key, each_field, each_item}
use Rattle.rule_sets.specs.BadRules.{argument_step, function_in, judged_argument, judged_arguments, judged_call, judged_call_of, judged_call_part, judged_function, judged_name, judged_number, judged_reference, judged_texts, judged_texts_step}
use Rattle.rule_sets.specs.Names.{Known}
use Rattle.rule_sets.specs.Trees.{pair_of_part, told}
use Rattle.rule_sets.proofs.Firsts.{behind_two}
use Rattle.rule_sets.proofs.Tales.{each_field_told, each_item_told, has_key_too, length_told, part_same, parts_same, told_at, told_field, told_fields, told_items}

pub argument-reference : (known : Known) (ps : List (Pair Doc)) (name : Doc) → value_at (codes "ref") ps ≡ Some name
    → judged_argument known (Fields ps) ≡ inside (codes "ref") (judged_name known name)
argument-reference known ps name at =
    ap (λ t. t.tale.one known) (told_fields argument_step ps)
    ∙ ap (judged_reference known (map (told_field argument_step) ps)) (told_at argument_step (codes "ref") ps ∙ ap (option_map (told argument_step)) at)
    ∙ ap (λ d. inside (codes "ref") (judged_name known d)) (part_same argument_step name)

call-told : (known : Known) (ps : List (Pair Doc)) → judged_call_of known (map (told_field argument_step) ps) ≡ judged_call known ps
call-told known ps =
    let ts = map (told_field argument_step) ps in
    ap (λ judged. first_bad (judged ∷ has_key (codes "argv") ts ∷ each_field (judged_call_part known (function_in (value_at (codes "fn") (map pair_of_part ts)))) ts ∷ [])) (has_key_too argument_step (codes "fn") ps)
    ∙ ap (λ judged. first_bad (has_key (codes "fn") ps ∷ judged ∷ each_field (judged_call_part known (function_in (value_at (codes "fn") (map pair_of_part ts)))) ts ∷ [])) (has_key_too argument_step (codes "argv") ps)
    ∙ ap (λ fields. first_bad (has_key (codes "fn") ps ∷ has_key (codes "argv") ps ∷ each_field (judged_call_part known (function_in (value_at (codes "fn") fields))) ts ∷ [])) (parts_same argument_step ps)
    ∙ ap (λ judged. first_bad (has_key (codes "fn") ps ∷ has_key (codes "argv") ps ∷ judged ∷ [])) (each_field_told argument_step (judged_call_part known (function_in (value_at (codes "fn") ps))) ps)

pub argument-call : (known : Known) (ps : List (Pair Doc)) → value_at (codes "ref") ps ≡ None → judged_argument known (Fields ps) ≡ judged_call known ps
argument-call known ps at =
    ap (λ t. t.tale.one known) (told_fields argument_step ps)
    ∙ ap (judged_reference known (map (told_field argument_step) ps)) (told_at argument_step (codes "ref") ps ∙ ap (option_map (told argument_step)) at)
    ∙ call-told known ps

pub arguments-Items : (function : Option Function) (known : Known) (ds : List Doc)
    → judged_arguments function known (Items ds) ≡ first_of (judged_number function (length ds)) (each_item (judged_argument known) 0 ds)
arguments-Items function known ds =
    ap (λ t. t.tale.many function known) (told_items argument_step ds)
    ∙ ap (λ n. first_of (judged_number function n) (each_item (λ t. t.tale.one known) 0 (map (told argument_step) ds))) (length_told argument_step ds)
    ∙ ap (first_of (judged_number function (length ds))) (each_item_told argument_step (λ t. t.tale.one known) 0 ds)

-- arguments of which there are as many as are taken
pub arguments-counted : (function : Option Function) (known : Known) (ds : List Doc) → judged_number function (length ds) ≡ fine
    → judged_arguments function known (Items ds) ≡ each_item (judged_argument known) 0 ds
arguments-counted function known ds counted =
    arguments-Items function known ds ∙ ap (λ judged. first_of judged (each_item (judged_argument known) 0 ds)) counted

-- a call that has what it needs
pub call-parts : (function : Option Function) (known : Known) (ps : List (Pair Doc))
    → has_key (codes "fn") ps ≡ fine → has_key (codes "argv") ps ≡ fine → function ≡ function_in (value_at (codes "fn") ps)
    → judged_call known ps ≡ each_field (λ (key : List ℕ) (d : Doc). judged_call_part known function key (told argument_step d)) ps
call-parts function known ps named listed is =
    behind_two (has_key (codes "fn") ps) (has_key (codes "argv") ps)
    (each_field (λ (key : List ℕ) (d : Doc). judged_call_part known (function_in (value_at (codes "fn") ps)) key (told argument_step d)) ps) named listed
    ∙ ap (λ f. each_field (λ (key : List ℕ) (d : Doc). judged_call_part known f key (told argument_step d)) ps) (sym is)

-- the name of a function is judged as it stands
pub call_part-function : (known : Known) (function : Option Function) (key : List ℕ) (d : Doc) → bytes_eq key (codes "fn") ≡ true
    → judged_call_part known function key (told argument_step d) ≡ judged_function d
call_part-function known function key d is =
    ap (λ b. if b then judged_function (told argument_step d).part else (if bytes_eq key (codes "argv") then judged_arguments function known d else fine)) is
    ∙ ap judged_function (part_same argument_step d)

each-text : (known : Known) (at : ℕ) (ds : List Doc) → each_item (λ (judged : Known → Judged). judged known) at (map (λ d k. judged_texts k d) ds) ≡ each_item (judged_texts known) at ds
each-text known at [] = refl
each-text known at (d ∷ ds) = ap (first_of (inside (decimal at) (judged_texts known d))) (each-text known (at + 1) ds)

abbrev judged_value : Pair Doc → Pair (Known → Judged)
judged_value p = record { key = p.key; value = λ known. judged_texts known p.value }

each-value : (known : Known) (ps : List (Pair Doc)) → each_field (λ (key : List ℕ) (judged : Known → Judged). judged known) (map judged_value ps) ≡ each_field (λ key d. judged_texts known d) ps
each-value known [] = refl
each-value known (p ∷ ps) = ap (first_of (inside p.key (judged_texts known p.value))) (each-value known ps)

pub texts-Items : (known : Known) (ds : List Doc) → judged_texts known (Items ds) ≡ each_item (judged_texts known) 0 ds
texts-Items known ds =
    ap (judged_texts known) (sym (rolls-Items ds))
    ∙ ap (λ f. f known) (fold-roll-Doc (Known → Judged) judged_texts_step (Doc-F.Items ds))
    ∙ each-text known 0 ds

pub texts-Fields : (known : Known) (ps : List (Pair Doc)) → judged_texts known (Fields ps) ≡ each_field (λ key d. judged_texts known d) ps
texts-Fields known ps =
    ap (judged_texts known) (sym (rolls-Fields ps))
    ∙ ap (λ f. f known) (fold-roll-Doc (Known → Judged) judged_texts_step (Doc-F.Fields ps))
    ∙ each-value known ps
