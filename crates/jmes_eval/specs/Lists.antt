-- The functions on lists and objects (JMESPath specification, "Built-in Functions").
use Rattle.std.specs.Prelude.{ℕ, Bool, ◌||◌, not, if◌then◌else◌, List, [], ◌∷◌, map, reverse, length, is_some, Option, None, Some, Ok}
use Rattle.std.specs.List.{list_all, find}
use Rattle.json_doc.specs.declared.doc.Doc as doc
use Rattle.json_doc.specs.declared.doc.Doc.{Doc}
use Rattle.json_doc.specs.declared.doc.Doc.TheOpen.{Doc-F}
use Rattle.json_doc.specs.declared.doc.Doc.TheViews.{out-Doc}
use Rattle.texts.specs.declared.pairs.Pair.{Pair}
use Rattle.json_doc.specs.Grammar.{put_all}
use Rattle.texts.specs.Keys.{keys}
use Rattle.jmes_eval.specs.Answers.{Answer, due, all_of}
use Rattle.texts.specs.Calls.{◌>>=◌}
use Rattle.jmes_eval.specs.Kinds.{number_of, text_of, items_of, fields_of, is_null}
use Rattle.jmes_eval.specs.Numbers.{count_of}
use Rattle.jmes_eval.specs.Orders.{is_before, is_behind, sorted, first_of, doc_or_null}

-- "length": the characters of a text, the elements of a list, the pairs of an object
abbrev pub length_in : Doc-F Doc → Option ℕ
length_in (Doc-F.Str t) = Some (length t)
length_in (Doc-F.Items ds) = Some (length ds)
length_in (Doc-F.Fields ps) = Some (length ps)
length_in others = None

abbrev pub length_of : Doc → Answer Doc
length_of d = due (length_in (out-Doc d)) >>= count_of

-- "reverse"
abbrev pub reverse_in : Doc-F Doc → Option Doc
reverse_in (Doc-F.Str t) = Some (doc.Str (reverse t))
reverse_in (Doc-F.Items ds) = Some (doc.Items (reverse ds))
reverse_in others = None

abbrev pub reverse_of : Doc → Answer Doc
reverse_of d = due (reverse_in (out-Doc d))

abbrev pub is_number : Doc → Bool
is_number d = is_some (number_of d)

abbrev pub is_text : Doc → Bool
is_text d = is_some (text_of d)

-- all numbers, or all texts
abbrev pub are_alike : List Doc → Bool
are_alike ds = list_all is_number ds || list_all is_text ds

-- the elements of a list of numbers or of texts
abbrev pub alike_items : Doc → Answer (List Doc)
alike_items d = due (items_of d) >>= (λ ds. due (if are_alike ds then Some ds else None))

-- "sort", "min", "max"
abbrev pub sort_of : Doc → Answer Doc
sort_of d = alike_items d >>= (λ ds. Ok (doc.Items (sorted is_before ds)))

abbrev pub min_of : Doc → Answer Doc
min_of d = alike_items d >>= (λ ds. Ok (doc_or_null (first_of (sorted is_before ds))))

abbrev pub max_of : Doc → Answer Doc
max_of d = alike_items d >>= (λ ds. Ok (doc_or_null (first_of (sorted is_behind ds))))

-- "to_array": a list as it is, any other value as a list of one
abbrev pub array_in : Option (List Doc) → Doc → Doc
array_in (Some ds) d = doc.Items ds
array_in None d = doc.Items (d ∷ [])

abbrev pub to_array_of : Doc → Doc
to_array_of d = array_in (items_of d) d

-- "not_null": the first value that isn't null
abbrev pub not_null_of : List Doc → Doc
not_null_of ds = doc_or_null (find (λ d. not (is_null d)) ds)

-- "keys", "values": in the object's order
abbrev pub keys_of : Doc → Answer Doc
keys_of d = due (fields_of d) >>= (λ ps. Ok (doc.Items (map doc.Str (keys ps))))

abbrev pub values_in : List (Pair Doc) → List Doc
values_in ps = map (λ p. p.value) ps

abbrev pub values_of : Doc → Answer Doc
values_of d = due (fields_of d) >>= (λ ps. Ok (doc.Items (values_in ps)))

abbrev pub all_put : List (Pair Doc) → List (List (Pair Doc)) → List (Pair Doc)
all_put made [] = made
all_put made (ps ∷ pss) = all_put (put_all made ps) pss

-- "merge": the pairs of one object after another; later values win, first places stay
abbrev pub merge_of : List Doc → Answer Doc
merge_of ds = due (all_of fields_of ds) >>= (λ pss. Ok (doc.Fields (all_put [] pss)))
