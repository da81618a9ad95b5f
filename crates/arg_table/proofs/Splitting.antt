-- A command's line beside the table of its operation, one step after another.
use Rattle.std.proofs.Common.{◌≡◌, refl, sym, ap, ◌∙◌}
use Rattle.std.specs.Prelude.{ℕ, Bool, true, false, if◌then◌else◌, List, [], ◌∷◌, Option, None, Result, Ok, Err, option_map}
use Rattle.std.specs.Str.{chars}
use Rattle.arg_table.specs.declared.command.CommandHead.{CommandHead}
use Rattle.arg_table.specs.declared.fault.UsageFault.{UsageFault}
use Rattle.arg_table.specs.declared.given.Given.{Given}
use Rattle.arg_table.specs.declared.given.Given.TheVariants.{Argument, InputJson, StartingToken, MaxItems, PageSize}
use Rattle.arg_table.specs.declared.lines.Line.{Line}
use Rattle.arg_table.specs.declared.table.ArgTable.{ArgTable}
use Rattle.texts.specs.Calls.{◌>>=◌, Unless}
use Rattle.arg_table.specs.Given.{given_in}
use Rattle.arg_table.specs.Lines.{line_of, line_from, first_paging, has_conflict, conflict_of, missing_of, no_conflict, no_missing}

-- a reason for what has the first reason is one for the second
pub for_reason : {Q R : Type 0} (is_free : Bool) → (Q → R) → Unless is_free Q → Unless is_free R
for_reason true f given = given
for_reason false f given = f given

-- the names of options for pages are ASCII
pub paging_chars : (givens : List Given) → option_map chars (first_paging givens) ≡ first_paging givens
unfolding chars
paging_chars [] = refl
paging_chars (Argument arg ∷ gs) = paging_chars gs
paging_chars (InputJson text ∷ gs) = paging_chars gs
paging_chars (StartingToken text ∷ gs) = refl
paging_chars (MaxItems count ∷ gs) = refl
paging_chars (PageSize count ∷ gs) = refl

-- the code tells of the conflict that is due
pub conflict_told : (table : ArgTable) (paginate : Bool) (givens : List Given) (line : Line) (option : Option (List ℕ)) → option ≡ first_paging givens
    → line ≡ line_from givens → no_conflict (conflict_of table paginate givens (line_from givens)) ≡ no_conflict (if has_conflict table paginate line then option_map chars option else None)
conflict_told table paginate givens line option named made =
    ap (λ l. no_conflict (if has_conflict table paginate l then first_paging givens else None)) (sym made)
    ∙ ap (λ o. no_conflict (if has_conflict table paginate line then o else None)) (sym (ap (option_map chars) named ∙ paging_chars givens))

module _ (table : ArgTable) (head : CommandHead) where
  abbrev if_whole : List Given → Unit {0} → Result Line UsageFault
  if_whole givens whole = Ok (line_from givens)

  abbrev if_apart : List Given → Unit {0} → Result Line UsageFault
  if_apart givens apart = no_missing (missing_of table (line_from givens)) >>= if_whole givens

  abbrev if_given : List Given → Result Line UsageFault
  if_given givens = no_conflict (conflict_of table head.paginate givens (line_from givens)) >>= if_apart givens

  line_runs : line_of table head ≡ (given_in table head.wait head.tail >>= if_given)
  unfolding line_of
  line_runs = refl

  module _ (givens : List Given) (one : given_in table head.wait head.tail ≡ Ok givens) where
    all_given : line_of table head ≡ if_given givens
    all_given = line_runs ∙ ap (λ r. r >>= if_given) one

    pub not_apart : (e : UsageFault) → no_conflict (conflict_of table head.paginate givens (line_from givens)) ≡ Err e → line_of table head ≡ Err e
    not_apart e fails = all_given ∙ ap (λ r. r >>= if_apart givens) fails

    module _ (two : no_conflict (conflict_of table head.paginate givens (line_from givens)) ≡ Ok tt) where
      all_apart : line_of table head ≡ if_apart givens tt
      all_apart = all_given ∙ ap (λ r. r >>= if_apart givens) two

      pub whole_line : no_missing (missing_of table (line_from givens)) ≡ Ok tt → line_of table head ≡ Ok (line_from givens)
      whole_line three = all_apart ∙ ap (λ r. r >>= if_whole givens) three
