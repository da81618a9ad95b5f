-- What the rows of a file keep: tokens and results, and numbers in their limits.
use Rattle.std.proofs.Common.{◌≡◌, T, ℕ, ◌<◌, ◌≤◌, ◌==◌, nat_le, ◌&&◌, if◌then◌else◌, Bool, true, false, ℤ, pos, negsuc, List, [], ◌∷◌, length, Option, None, Some, IfSome, Result, Ok, codes, refl, sym, subst, arith, eqb-true, leb→le}
use Rattle.std.specs.List.{All, AllByRecursion}
use Rattle.std.proofs.lemmas.List.Elements.{All-from_recursion}
use Rattle.json_doc.specs.DecimalValue.{whole}
use Rattle.json_doc.specs.declared.doc.Doc.{Doc}
use Rattle.json_doc.specs.declared.doc.Doc.TheOpen.{Doc-F}
use Rattle.json_doc.specs.declared.doc.Doc.TheViews.{out-Doc}
use Rattle.texts.specs.declared.pairs.Pair.{Pair}
use Rattle.texts.specs.Keys.{value_at}
use Rattle.model_files.specs.declared.fault.ModelFault.{ModelFault}
use Rattle.model_files.specs.declared.fault.ModelFault.TheVariants.{WrongKind}
use Rattle.model_files.specs.declared.fault.Place.TheVariants.{At}
use Rattle.model_files.specs.declared.paginators.NamedRow.{NamedRow}
use Rattle.model_files.specs.declared.paginators.PagerRow.{PagerRow}
use Rattle.model_files.specs.declared.waiters.Acceptor.{Acceptor}
use Rattle.model_files.specs.declared.waiters.WaiterRow.{WaiterRow}
use Rattle.model_files.specs.Faults.{inside, demand, or_fault, each}
use Rattle.texts.specs.Calls.{◌>>=◌}
use Rattle.model_files.specs.Names.{command_name}
use Rattle.model_files.specs.Reading.{Fields, fields_of, texts_of, needed, maybe_at, maybe_text, text_at, texts_at}
use Rattle.model_files.specs.Paginators as pages
use Rattle.model_files.specs.Paginators.{some_of, queries_in, queries_of, queries_at, maybe_queries, row_if, row_with, row_before, rows_of, paginators_of, IsPagerRow}
use Rattle.model_files.specs.Waiters as waits
use Rattle.model_files.specs.Waiters.{in_range, whole_in, whole_between, number_at, delay_of, tries_of, acceptors_of, waiters_of, IsWaiterRow}
use Rattle.model_files.proofs.Steps.{same_ok, bind_ok, inside_ok, demand_ok, or_fault_ok, each_all}

one_more : {A : Type 0} (x : A) (xs : List A) → 0 < length (x ∷ xs)
one_more x xs = omega arith

some_of_ok : (ts texts : List (List ℕ)) → some_of ts ≡ Ok texts → 0 < length texts
some_of_ok [] texts e = absurd (cc)
some_of_ok (t ∷ ts) texts e = subst (λ xs. 0 < length xs) (same_ok (t ∷ ts) texts e) (one_more t ts)

queries_some : (v : Doc-F Doc) (doc : Doc) (texts : List (List ℕ)) → queries_in v doc ≡ Ok texts → 0 < length texts
queries_some (Doc-F.Str t) doc texts e = subst (λ xs. 0 < length xs) (same_ok (t ∷ []) texts e) (one_more t [])
queries_some Doc-F.Null doc texts e = bind_ok (texts_of doc) some_of texts e (λ ts read is. some_of_ok ts texts is)
queries_some (Doc-F.Flag b) doc texts e = bind_ok (texts_of doc) some_of texts e (λ ts read is. some_of_ok ts texts is)
queries_some (Doc-F.Number n) doc texts e = bind_ok (texts_of doc) some_of texts e (λ ts read is. some_of_ok ts texts is)
queries_some (Doc-F.Items ds) doc texts e = bind_ok (texts_of doc) some_of texts e (λ ts read is. some_of_ok ts texts is)
queries_some (Doc-F.Fields ps) doc texts e = bind_ok (texts_of doc) some_of texts e (λ ts read is. some_of_ok ts texts is)

queries_ok : (doc : Doc) (texts : List (List ℕ)) → queries_of doc ≡ Ok texts → 0 < length texts
unfolding queries_of
queries_ok doc texts e = queries_some (out-Doc doc) doc texts e

queries_at_ok : (key : List ℕ) (fields : Fields) (texts : List (List ℕ)) → queries_at key fields ≡ Ok texts → 0 < length texts
unfolding queries_at
queries_at_ok key fields texts e =
    bind_ok (needed key fields) (λ doc. inside key (queries_of doc)) texts e (λ doc found read. queries_ok doc texts (inside_ok key (queries_of doc) texts read))

maybe_queries_at : (key : List ℕ) (o : Option Doc) (texts : Option (List (List ℕ))) → maybe_at queries_of key o ≡ Ok texts → IfSome texts (λ ts. 0 < length ts)
maybe_queries_at key None texts e = subst (λ o. IfSome o (λ ts. 0 < length ts)) (same_ok None texts e) tt
maybe_queries_at key (Some doc) texts e =
    bind_ok (inside key (queries_of doc)) (λ x. Ok (Some x)) texts e (λ x read is.
    subst (λ o. IfSome o (λ ts. 0 < length ts)) (same_ok (Some x) texts is) (queries_ok doc x (inside_ok key (queries_of doc) x read)))

maybe_queries_ok : (key : List ℕ) (fields : Fields) (texts : Option (List (List ℕ))) → maybe_queries key fields ≡ Ok texts → IfSome texts (λ ts. 0 < length ts)
unfolding maybe_queries
maybe_queries_ok key fields texts e = maybe_queries_at key (value_at key fields) texts e

row_whole : (inputs outputs : List (List ℕ)) (limit more : Option (List ℕ)) (fixed : List (List ℕ)) (results : Option (List (List ℕ)))
    → 0 < length inputs → length outputs ≡ length inputs → IfSome results (λ ts. 0 < length ts) → IfSome (row_if inputs outputs limit more fixed results) IsPagerRow
row_whole inputs outputs limit more fixed None some as_many found = tt
row_whole inputs outputs limit more fixed (Some results) some as_many found = record { inputs = some; outputs = as_many; results = found }

row_with_ok : (inputs outputs : List (List ℕ)) (fields : Fields) (row : Option PagerRow) → 0 < length inputs → length outputs ≡ length inputs → row_with inputs outputs fields ≡ Ok row → IfSome row IsPagerRow
unfolding row_with
row_with_ok inputs outputs fields row some as_many e =
    let with_fixed : Option (List (List ℕ)) → Option (List ℕ) → Option (List ℕ) → Result (Option PagerRow) ModelFault =
    λ results limit more. texts_at (codes "non_aggregate_keys") fields >>= (λ fixed. Ok (row_if inputs outputs limit more fixed results)) in
    let with_more : Option (List (List ℕ)) → Option (List ℕ) → Result (Option PagerRow) ModelFault = λ results limit. maybe_text (codes "more_results") fields >>= with_fixed results limit in
    bind_ok (maybe_queries (codes "result_key") fields) (λ results. maybe_text (codes "limit_key") fields >>= with_more results) row e (λ results found e1.
    bind_ok (maybe_text (codes "limit_key") fields) (with_more results) row e1 (λ limit a e2.
    bind_ok (maybe_text (codes "more_results") fields) (with_fixed results limit) row e2 (λ more b e3.
    bind_ok (texts_at (codes "non_aggregate_keys") fields) (λ fixed. Ok (row_if inputs outputs limit more fixed results)) row e3 (λ fixed c is.
    subst (λ o. IfSome o IsPagerRow) (same_ok (row_if inputs outputs limit more fixed results) row is)
    (row_whole inputs outputs limit more fixed results some as_many (maybe_queries_ok (codes "result_key") fields results found))))))

row_ok : (doc : Doc) (row : Option PagerRow) → pages.row_of doc ≡ Ok row → IfSome row IsPagerRow
unfolding pages.row_of
row_ok doc row e =
    let with_both : Fields → List (List ℕ) → List (List ℕ) → Result (Option PagerRow) ModelFault =
    λ fields inputs outputs. demand (length inputs == length outputs) (WrongKind (At (codes "output_token"))) (row_with inputs outputs fields) in
    let with_inputs : Fields → List (List ℕ) → Result (Option PagerRow) ModelFault = λ fields inputs. queries_at (codes "output_token") fields >>= with_both fields inputs in
    bind_ok (fields_of doc) (λ fields. queries_at (codes "input_token") fields >>= with_inputs fields) row e (λ fields a e1.
    bind_ok (queries_at (codes "input_token") fields) (with_inputs fields) row e1 (λ inputs read e2.
    bind_ok (queries_at (codes "output_token") fields) (with_both fields inputs) row e2 (λ outputs b e3.
    let holds = demand_ok (length inputs == length outputs) (WrongKind (At (codes "output_token"))) (row_with inputs outputs fields) row e3 in
    row_with_ok inputs outputs fields row (queries_at_ok (codes "input_token") fields inputs read) (sym (eqb-true (length inputs) (length outputs) holds.0)) holds.1)))

row_put : (key : List ℕ) (row : Option PagerRow) (others : List NamedRow) → IfSome row IsPagerRow → AllByRecursion (λ n. IsPagerRow n.row) others → AllByRecursion (λ n. IsPagerRow n.row) (row_before key row others)
row_put key None others one rest = rest
row_put key (Some row) others one rest = (one, rest)

rows_ok : (ps : Fields) (rows : List NamedRow) → rows_of ps ≡ Ok rows → AllByRecursion (λ n. IsPagerRow n.row) rows
rows_ok [] rows e = subst (AllByRecursion (λ n. IsPagerRow n.row)) (same_ok [] rows e) tt
rows_ok (p ∷ ps) rows e =
    bind_ok (inside p.key (pages.row_of p.value)) (λ row. rows_of ps >>= (λ others. Ok (row_before p.key row others))) rows e (λ row first then_rest.
    bind_ok (rows_of ps) (λ others. Ok (row_before p.key row others)) rows then_rest (λ others rest all.
    subst (AllByRecursion (λ n. IsPagerRow n.row)) (same_ok (row_before p.key row others) rows all)
    (row_put p.key row others (row_ok p.value row (inside_ok p.key (pages.row_of p.value) row first)) (rows_ok ps others rest))))

-- the rows of paginators that were read are whole
pub pager_rows_whole : (ps : Fields) (rows : List NamedRow) → rows_of ps ≡ Ok rows → All (λ n. IsPagerRow n.row) rows
pager_rows_whole ps rows e = All-from_recursion (λ n. IsPagerRow n.row) rows (rows_ok ps rows e)

if_some : (b : Bool) (m k : ℕ) → (if b then Some m else None) ≡ Some k → (b ≡ true) × (m ≡ k)
if_some true m k e = (refl, cc)
if_some false m k e = absurd (cc)

both : (a b : Bool) → (a && b) ≡ true → (a ≡ true) × (b ≡ true)
both true b e = (refl, e)
both false b e = absurd (cc)

is_within : (least most : ℕ) (o : Option ℤ) (k : ℕ) → in_range least most o ≡ Some k → (least ≤ k) × (k ≤ most)
is_within least most (Some (pos n)) k e =
    let found = if_some (nat_le least n && nat_le n most) n k e in
    let limits = both (nat_le least n) (nat_le n most) found.0 in
    let low : least ≤ n = leb→le least n (subst T (sym limits.0) tt) in
    let high : n ≤ most = leb→le n most (subst T (sym limits.1) tt) in
    (omega (arith, low, found.1), omega (arith, high, found.1))
is_within least most (Some (negsuc n)) k e = absurd (cc)
is_within least most None k e = absurd (cc)

within_in : (least most : ℕ) (v : Doc-F Doc) (k : ℕ) → whole_in least most v ≡ Some k → (least ≤ k) × (k ≤ most)
within_in least most (Doc-F.Number n) k e = is_within least most (whole n) k e
within_in least most (Doc-F.Str t) k e = absurd (cc)
within_in least most Doc-F.Null k e = absurd (cc)
within_in least most (Doc-F.Flag b) k e = absurd (cc)
within_in least most (Doc-F.Items ds) k e = absurd (cc)
within_in least most (Doc-F.Fields ps) k e = absurd (cc)

number_ok : (key : List ℕ) (least most : ℕ) (fields : Fields) (k : ℕ) → number_at key least most fields ≡ Ok k → (least ≤ k) × (k ≤ most)
unfolding number_at whole_between
number_ok key least most fields k e =
    bind_ok (needed key fields) (λ doc. or_fault (WrongKind (At key)) (whole_between least most doc)) k e (λ doc found is.
    within_in least most (out-Doc doc) k (or_fault_ok (WrongKind (At key)) (whole_between least most doc) k is))

delay_ok : (fields : Fields) (k : ℕ) → delay_of fields ≡ Ok k → k ≤ 86400
unfolding delay_of
delay_ok fields k e = (number_ok (codes "delay") 0 86400 fields k e).1

tries_ok : (fields : Fields) (k : ℕ) → tries_of fields ≡ Ok k → (1 ≤ k) × (k ≤ 100000)
unfolding tries_of
tries_ok fields k e = number_ok (codes "maxAttempts") 1 100000 fields k e

limits_ok : (p : Pair Doc) (row : WaiterRow) → waits.row_of p ≡ Ok row → IsWaiterRow row
unfolding waits.row_of
limits_ok p row e =
    let made : List ℕ → ℕ → ℕ → List Acceptor → WaiterRow =
    λ operation delay tries acceptors. record { name = p.key; command = command_name p.key; operation = operation; delay = delay; tries = tries; acceptors = acceptors } in
    let with_tries : Fields → List ℕ → ℕ → ℕ → Result WaiterRow ModelFault = λ fields operation delay tries. acceptors_of fields >>= (λ acceptors. Ok (made operation delay tries acceptors)) in
    let with_delay : Fields → List ℕ → ℕ → Result WaiterRow ModelFault = λ fields operation delay. tries_of fields >>= with_tries fields operation delay in
    let with_operation : Fields → List ℕ → Result WaiterRow ModelFault = λ fields operation. delay_of fields >>= with_delay fields operation in
    bind_ok (fields_of p.value) (λ fields. text_at (codes "operation") fields >>= with_operation fields) row e (λ fields a e1.
    bind_ok (text_at (codes "operation") fields) (with_operation fields) row e1 (λ operation b e2.
    bind_ok (delay_of fields) (with_delay fields operation) row e2 (λ delay is_delay e3.
    bind_ok (tries_of fields) (with_tries fields operation delay) row e3 (λ tries is_tries e4.
    bind_ok (acceptors_of fields) (λ acceptors. Ok (made operation delay tries acceptors)) row e4 (λ acceptors c is.
    let few = tries_ok fields tries is_tries in
    subst IsWaiterRow (same_ok (made operation delay tries acceptors) row is) (record { delay = delay_ok fields delay is_delay; least_tries = few.0; most_tries = few.1 }))))))

-- the numbers of waiters that were read are in their limits
pub waiter_rows_limited : (ps : Fields) (rows : List WaiterRow) → each waits.row_of ps ≡ Ok rows → All IsWaiterRow rows
waiter_rows_limited ps rows e = All-from_recursion IsWaiterRow rows (each_all waits.row_of IsWaiterRow limits_ok ps rows e)
