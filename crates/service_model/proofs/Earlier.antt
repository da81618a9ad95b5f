-- Reading operations in turn, each behind the command names of those before.
use Rattle.std.proofs.Common.{◌≡◌, ℕ, ◌+◌, ◌<◌, ◌≤◌, nat_eq, Bool, List, [], ◌∷◌, ◌++◌, length, get_or, drop, Result, Ok, append-nil, sym, ap, ◌∙◌}
use Rattle.std.specs.Cmp.Lexicographic.{pointwise}
use Rattle.std.proofs.lemmas.List.{at_drop_more, at_drop_all}
use Rattle.indexmap.specs.IndexSet.{insert_key}
use Rattle.json_doc.specs.declared.doc.Doc.{Doc}
use Rattle.texts.specs.declared.pairs.Pair.{Pair}
use Rattle.model_files.specs.declared.fault.ModelFault.{ModelFault}
use Rattle.model_files.specs.Faults.{moved, inside, IsFault}
use Rattle.texts.specs.Calls.{◌>>=◌}
use Rattle.model_files.specs.Reading.{Fields}
use Rattle.model_files.proofs.Each.{Fails, with_front, one_more, fails_moved, fails_first, fails_in_front, fails_same}
use Rattle.service_model.specs.declared.operations.Row.{Row}
use Rattle.service_model.specs.Numbering.{Names}
use Rattle.service_model.specs.Operations.{operation_of, operations_of, with_name}

module _ (names : Names) (shapes : Fields) (signs : Bool) where
  at_one : (earlier : List (List ℕ)) (ps : List (Pair Doc)) (i : ℕ) (p : Pair Doc) → i < length ps → p ≡ get_or ps i p
      → operations_of names shapes signs earlier (drop i ps)
      ≡ inside p.key (operation_of names shapes signs earlier p.value) >>= (λ row. operations_of names shapes signs (with_name earlier row.command) (drop (i + 1) ps) >>= (λ others. Ok (row ∷ others)))
  at_one earlier ps i p within is =
      at_drop_more (operations_of names shapes signs earlier) ps i p within
      ∙ ap (λ q. inside q.key (operation_of names shapes signs earlier q.value) >>= (λ row. operations_of names shapes signs (with_name earlier row.command) (drop (i + 1) ps) >>= (λ others. Ok (row ∷ others)))) (sym is)

  -- one operation is put behind those before, and its command name among theirs
  pub rows_go : (earlier after : List (List ℕ)) (ps : List (Pair Doc)) (i : ℕ) (p : Pair Doc) (row : Row) (made : List Row) (all : Result (List Row) ModelFault)
      → i < length ps → p ≡ get_or ps i p → operation_of names shapes signs earlier p.value ≡ Ok row → after ≡ insert_key (pointwise nat_eq) earlier row.command
      → with_front made (operations_of names shapes signs earlier (drop i ps)) ≡ all
      → with_front (made ++ row ∷ []) (operations_of names shapes signs after (drop (i + 1) ps)) ≡ all
  rows_go earlier after ps i p row made all within is gives inserted before =
      ap (λ e. with_front (made ++ row ∷ []) (operations_of names shapes signs e (drop (i + 1) ps))) inserted
      ∙ sym (one_more made row (operations_of names shapes signs (with_name earlier row.command) (drop (i + 1) ps)))
      ∙ ap (λ r. with_front made (inside p.key r >>= (λ x. operations_of names shapes signs (with_name earlier x.command) (drop (i + 1) ps) >>= (λ others. Ok (x ∷ others))))) (sym gives)
      ∙ ap (with_front made) (sym (at_one earlier ps i p within is)) ∙ before

  -- the fault of one operation is that of all
  pub rows_fail : (earlier : List (List ℕ)) (ps : List (Pair Doc)) (i : ℕ) (p : Pair Doc) (inner outer : ModelFault) (made : List Row) (all : Result (List Row) ModelFault)
      → i < length ps → p ≡ get_or ps i p → Fails inner (operation_of names shapes signs earlier p.value) → IsFault outer (moved p.key inner)
      → with_front made (operations_of names shapes signs earlier (drop i ps)) ≡ all → Fails outer all
  rows_fail earlier ps i p inner outer made all within is fails due before =
      fails_same outer (with_front made (operations_of names shapes signs earlier (drop i ps))) all before
      (fails_in_front made outer (operations_of names shapes signs earlier (drop i ps))
      (fails_same outer (inside p.key (operation_of names shapes signs earlier p.value) >>= (λ row. operations_of names shapes signs (with_name earlier row.command) (drop (i + 1) ps) >>= (λ others. Ok (row ∷ others)))) (operations_of names shapes signs earlier (drop i ps)) (sym (at_one earlier ps i p within is))
      (fails_first outer (inside p.key (operation_of names shapes signs earlier p.value)) (λ row. operations_of names shapes signs (with_name earlier row.command) (drop (i + 1) ps) >>= (λ others. Ok (row ∷ others))) (fails_moved p.key inner outer (operation_of names shapes signs earlier p.value) fails due))))

  -- past the last operation, what was read is all
  pub rows_done : (earlier : List (List ℕ)) (ps : List (Pair Doc)) (i : ℕ) (made : List Row) (all : Result (List Row) ModelFault) → length ps ≤ i
      → with_front made (operations_of names shapes signs earlier (drop i ps)) ≡ all → all ≡ Ok made
  rows_done earlier ps i made all past before =
      sym before ∙ ap (with_front made) (at_drop_all (operations_of names shapes signs earlier) ps i past) ∙ ap Ok (append-nil made)
