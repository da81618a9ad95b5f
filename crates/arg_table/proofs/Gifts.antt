-- What groups give, one after another.
use Rattle.std.proofs.Common.{◌≡◌, ℕ, ◌+◌, ◌<◌, Bool, List, [], ◌∷◌, ◌++◌, length, get_or, drop, refl, sym, ap, ◌∙◌, append_assoc}
use Rattle.std.specs.Prelude.{Result, Ok, Err}
use Rattle.std.proofs.lemmas.List.{at_drop_more}
use Rattle.arg_table.specs.declared.fault.UsageFault.{UsageFault}
use Rattle.arg_table.specs.declared.given.Given.{Given}
use Rattle.arg_table.specs.declared.table.ArgTable.{ArgTable}
use Rattle.arg_table.specs.declared.words.Group.{Group}
use Rattle.texts.specs.Calls.{◌>>=◌}
use Rattle.arg_table.specs.Given.{given_as, given_in}
use Rattle.arg_table.specs.Tables.{meaning_of}

abbrev pub put_before : List Given → Result (List Given) UsageFault → Result (List Given) UsageFault
put_before front (Ok gs) = Ok (front ++ gs)
put_before front (Err e) = Err e

put_twice : (xs ys : List Given) (r : Result (List Given) UsageFault) → put_before xs (put_before ys r) ≡ put_before (xs ++ ys) r
put_twice xs ys (Ok gs) = ap Ok (sym (append_assoc xs ys gs))
put_twice xs ys (Err e) = refl

module _ (table : ArgTable) (waits : Bool) (groups : List Group) (i : ℕ) (g : Group) (within : i < length groups) (is : g ≡ get_or groups i g) where
  given_here : given_in table waits (drop i groups) ≡ given_in table waits (g ∷ drop (i + 1) groups)
  given_here = at_drop_more (given_in table waits) groups i g within ∙ ap (λ h. given_in table waits (h ∷ drop (i + 1) groups)) (sym is)

  -- a group gives something
  pub gifts_go : (old new : List Given) (x : Given) → given_in table waits groups ≡ put_before old (given_in table waits (drop i groups))
      → given_as g (meaning_of table waits g.option) ≡ Ok x → new ≡ old ++ x ∷ [] → given_in table waits groups ≡ put_before new (given_in table waits (drop (i + 1) groups))
  gifts_go old new x so_far gives pushed =
      so_far ∙ ap (put_before old) (given_here ∙ ap (λ r. r >>= (λ first. given_in table waits (drop (i + 1) groups) >>= (λ others. Ok (first ∷ others)))) gives ∙ put_one (given_in table waits (drop (i + 1) groups)))
      ∙ put_twice old (x ∷ []) (given_in table waits (drop (i + 1) groups)) ∙ ap (λ gs. put_before gs (given_in table waits (drop (i + 1) groups))) (sym pushed)
    where
      put_one : (r : Result (List Given) UsageFault) → (r >>= (λ others. Ok (x ∷ others))) ≡ put_before (x ∷ []) r
      put_one (Ok gs) = refl
      put_one (Err e) = refl
