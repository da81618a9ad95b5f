-- Functions of any number of values, none of which is an expref.
use Rattle.std.proofs.Common.{◌≡◌, Bool, true, false, not, List, [], ◌∷◌, Option, None, Some, Ok, Err, refl, sym, ap}
use Rattle.std.specs.Prelude.{if◌then◌else◌, is_some}
use Rattle.std.specs.List.{find}
use Rattle.std.proofs.lemmas.Bool.{false≢true}
use Rattle.json_doc.specs.declared.doc.Doc as doc
use Rattle.json_doc.specs.declared.doc.Doc.{Doc}
use Rattle.texts.specs.declared.pairs.Pair.{Pair}
use Rattle.json_doc.specs.Grammar.{put_all}
use Rattle.jmes_syntax.specs.declared.function.Function.{Function}
use Rattle.jmes_syntax.specs.declared.function.Function.TheVariants as function
use Rattle.jmes_syntax.specs.declared.function.Function.TheVariants.{Merge, NotNull}
use Rattle.jmes_eval.specs.declared.query_fault.QueryFault.TheVariants.{TypeFault}
use Rattle.jmes_eval.specs.Answers.{Answer, due, all_of, in_front}
use Rattle.texts.specs.Calls.{◌>>=◌}
use Rattle.jmes_eval.specs.Kinds.{fields_of, is_null}
use Rattle.jmes_eval.specs.Lists.{all_put, not_null_of}
use Rattle.jmes_eval.specs.Many.{first_value, merged_after}
use Rattle.jmes_eval.specs.Meaning.{many_of}
use Rattle.jmes_eval.specs.Orders.{doc_or_null}

abbrev values : List (Option Doc) → Option (List Doc)
values xs = all_of (λ x. x) xs

-- "not_null"
null_test : (b : Bool) (d : Doc) (rest : Doc) (o : Option Doc) → rest ≡ doc_or_null o → (if b then rest else d) ≡ doc_or_null (if not b then Some d else o)
null_test true d rest o e = e
null_test false d rest o e = refl

abbrev IsFirst : List (Option Doc) → Option (List Doc) → Type 0
IsFirst xs None = Unit {0}
IsFirst xs (Some ds) = first_value xs ≡ not_null_of ds

first-more : (d : Doc) (xs : List (Option Doc)) (o : Option (List Doc)) → IsFirst xs o → IsFirst (Some d ∷ xs) (in_front (Some d) o)
first-more d xs None h = tt
first-more d xs (Some ds) h = null_test (is_null d) d (first_value xs) (find (λ e. not (is_null e)) ds) h

first-is : (xs : List (Option Doc)) → IsFirst xs (values xs)
first-is [] = refl
first-is (None ∷ xs) = tt
first-is (Some d ∷ xs) = first-more d xs (values xs) (first-is xs)

first-answer : (xs : List (Option Doc)) (o : Option (List Doc)) → is_some o ≡ true → IsFirst xs o → (due o >>= (λ ds. Ok (not_null_of ds))) ≡ Ok (first_value xs)
first-answer xs None e h = absurd (false≢true e)
first-answer xs (Some ds) e h = ap Ok (sym h)

pub many-NotNull : (xs : List (Option Doc)) → is_some (values xs) ≡ true → many_of NotNull xs ≡ Ok (first_value xs)
many-NotNull xs e = first-answer xs (values xs) e (first-is xs)

-- "merge"
abbrev merge_from : List (Pair Doc) → List Doc → Answer Doc
merge_from made ds = due (all_of fields_of ds) >>= (λ pss. Ok (doc.Fields (all_put made pss)))

abbrev IsMerged : List (Pair Doc) → List (Option Doc) → Option (List Doc) → Type 0
IsMerged made xs None = Unit {0}
IsMerged made xs (Some ds) = merged_after made xs ≡ merge_from made ds

merge-step : (made : List (Pair Doc)) (o : Option (List (Pair Doc))) (p : Option (List (List (Pair Doc)))) (rest : List (Pair Doc) → Answer Doc)
    → ((m : List (Pair Doc)) → rest m ≡ (due p >>= (λ pss. Ok (doc.Fields (all_put m pss)))))
    → (due o >>= (λ ps. rest (put_all made ps))) ≡ (due (in_front o p) >>= (λ pss. Ok (doc.Fields (all_put made pss))))
merge-step made None p rest h = refl
merge-step made (Some ps) None rest h = h (put_all made ps)
merge-step made (Some ps) (Some pss) rest h = h (put_all made ps)

merge-more : (d : Doc) (xs : List (Option Doc)) (o : Option (List Doc)) → ((m : List (Pair Doc)) → IsMerged m xs o) → (made : List (Pair Doc)) → IsMerged made (Some d ∷ xs) (in_front (Some d) o)
merge-more d xs None h made = tt
merge-more d xs (Some ds) h made = merge-step made (fields_of d) (all_of fields_of ds) (λ m. merged_after m xs) h

merge-is : (xs : List (Option Doc)) (made : List (Pair Doc)) → IsMerged made xs (values xs)
merge-is [] made = refl
merge-is (None ∷ xs) made = tt
merge-is (Some d ∷ xs) made = merge-more d xs (values xs) (merge-is xs) made

merge-answer : (xs : List (Option Doc)) (o : Option (List Doc)) → is_some o ≡ true → IsMerged [] xs o → (due o >>= merge_from []) ≡ merged_after [] xs
merge-answer xs None e h = absurd (false≢true e)
merge-answer xs (Some ds) e h = sym h

pub many-Merge : (xs : List (Option Doc)) → is_some (values xs) ≡ true → many_of Merge xs ≡ merged_after [] xs
many-Merge xs e = merge-answer xs (values xs) e (merge-is xs [])

-- any other function
abbrev no_value : Answer Doc
no_value = Err TypeFault

refused : (o : Option (List Doc)) → (due o >>= (λ ds. Err TypeFault)) ≡ no_value
refused None = refl
refused (Some ds) = refl

pub many-other : (g : Function) (xs : List (Option Doc)) → (g ≡ Merge → ⊥) → (g ≡ NotNull → ⊥) → many_of g xs ≡ Err TypeFault
many-other Merge xs other other' = absurd (other refl)
many-other NotNull xs other other' = absurd (other' refl)
many-other function.Abs xs other other' = refused (values xs)
many-other function.Ceil xs other other' = refused (values xs)
many-other function.Contains xs other other' = refused (values xs)
many-other function.EndsWith xs other other' = refused (values xs)
many-other function.Floor xs other other' = refused (values xs)
many-other function.Join xs other other' = refused (values xs)
many-other function.Keys xs other other' = refused (values xs)
many-other function.Length xs other other' = refused (values xs)
many-other function.Map xs other other' = refused (values xs)
many-other function.Max xs other other' = refused (values xs)
many-other function.MaxBy xs other other' = refused (values xs)
many-other function.Min xs other other' = refused (values xs)
many-other function.MinBy xs other other' = refused (values xs)
many-other function.Reverse xs other other' = refused (values xs)
many-other function.Sort xs other other' = refused (values xs)
many-other function.SortBy xs other other' = refused (values xs)
many-other function.StartsWith xs other other' = refused (values xs)
many-other function.Sum xs other other' = refused (values xs)
many-other function.ToArray xs other other' = refused (values xs)
many-other function.ToNumber xs other other' = refused (values xs)
many-other function.ToString xs other other' = refused (values xs)
many-other function.Type xs other other' = refused (values xs)
many-other function.Values xs other other' = refused (values xs)
