-- Reading the rows of paginators in turn, from the left, up to the first fault.
use Rattle.std.proofs.Common.{◌≡◌, ℕ, ◌+◌, ◌<◌, ◌≤◌, List, [], ◌++◌, length, get_or, drop, Option, None, Some, Result, Ok, Err, refl, append-nil, sym, ap, ◌∙◌}
use Rattle.std.proofs.lemmas.List.{at_drop_more, at_drop_all}
use Rattle.json_doc.specs.declared.doc.Doc.{Doc}
use Rattle.texts.specs.declared.pairs.Pair.{Pair}
use Rattle.model_files.specs.declared.fault.ModelFault.{ModelFault}
use Rattle.model_files.specs.declared.paginators.NamedRow.{NamedRow}
use Rattle.model_files.specs.declared.paginators.PagerRow.{PagerRow}
use Rattle.model_files.specs.Faults.{moved, inside, IsFault}
use Rattle.texts.specs.Calls.{◌>>=◌}
use Rattle.model_files.specs.Paginators.{row_of, row_before, rows_of}
use Rattle.model_files.proofs.Each.{Fails, with_front, one_more, fails_moved, fails_first, fails_in_front, fails_same}

same_rows : (due : Result (List NamedRow) ModelFault) → due >>= (λ others. Ok others) ≡ due
same_rows (Err fault) = refl
same_rows (Ok rows) = refl

maybe_more : (made : List NamedRow) (key : List ℕ) (row : Option PagerRow) (due : Result (List NamedRow) ModelFault)
    → with_front made (due >>= (λ others. Ok (row_before key row others))) ≡ with_front (made ++ row_before key row []) due
maybe_more made key None due = ap (with_front made) (same_rows due) ∙ ap (λ rows. with_front rows due) (sym (append-nil made))
maybe_more made key (Some row) due = one_more made (record { operation = key; row = row }) due

rows_at : (ps : List (Pair Doc)) (i : ℕ) (p : Pair Doc) → i < length ps → p ≡ get_or ps i p
    → rows_of (drop i ps) ≡ inside p.key (row_of p.value) >>= (λ row. rows_of (drop (i + 1) ps) >>= (λ others. Ok (row_before p.key row others)))
rows_at ps i p within is =
    at_drop_more rows_of ps i p within
    ∙ ap (λ q. inside q.key (row_of q.value) >>= (λ row. rows_of (drop (i + 1) ps) >>= (λ others. Ok (row_before q.key row others)))) (sym is)

-- a row, where there is one, is put behind those before
pub rows_go : (ps : List (Pair Doc)) (i : ℕ) (p : Pair Doc) (row : Option PagerRow) (made : List NamedRow) (all : Result (List NamedRow) ModelFault)
    → i < length ps → p ≡ get_or ps i p → row_of p.value ≡ Ok row → with_front made (rows_of (drop i ps)) ≡ all
    → with_front (made ++ row_before p.key row []) (rows_of (drop (i + 1) ps)) ≡ all
rows_go ps i p row made all within is gives before =
    sym (maybe_more made p.key row (rows_of (drop (i + 1) ps)))
    ∙ ap (λ r. with_front made (inside p.key r >>= (λ x. rows_of (drop (i + 1) ps) >>= (λ others. Ok (row_before p.key x others))))) (sym gives)
    ∙ ap (with_front made) (sym (rows_at ps i p within is)) ∙ before

-- the fault of one row is that of all
pub rows_fail : (ps : List (Pair Doc)) (i : ℕ) (p : Pair Doc) (inner outer : ModelFault) (made : List NamedRow) (all : Result (List NamedRow) ModelFault)
    → i < length ps → p ≡ get_or ps i p → Fails inner (row_of p.value) → IsFault outer (moved p.key inner)
    → with_front made (rows_of (drop i ps)) ≡ all → Fails outer all
rows_fail ps i p inner outer made all within is fails due before =
    fails_same outer (with_front made (rows_of (drop i ps))) all before
    (fails_in_front made outer (rows_of (drop i ps))
    (fails_same outer (inside p.key (row_of p.value) >>= (λ row. rows_of (drop (i + 1) ps) >>= (λ others. Ok (row_before p.key row others)))) (rows_of (drop i ps)) (sym (rows_at ps i p within is))
    (fails_first outer (inside p.key (row_of p.value)) (λ row. rows_of (drop (i + 1) ps) >>= (λ others. Ok (row_before p.key row others))) (fails_moved p.key inner outer (row_of p.value) fails due))))

-- past the last row, what was read is all
pub rows_done : (ps : List (Pair Doc)) (i : ℕ) (made : List NamedRow) (all : Result (List NamedRow) ModelFault) → length ps ≤ i → with_front made (rows_of (drop i ps)) ≡ all → all ≡ Ok made
rows_done ps i made all past before =
    sym before ∙ ap (with_front made) (at_drop_all rows_of ps i past) ∙ ap Ok (append-nil made)
