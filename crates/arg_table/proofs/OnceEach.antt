-- The members of a line's arguments stand once.
use Rattle.std.proofs.Common.{◌≡◌, ℕ, Bool, true, false, nat_eq, if◌then◌else◌, List, [], ◌∷◌, refl, sym, ap, subst, ◌∙◌}
use Rattle.std.specs.Prelude.{◌||◌, Result, Ok, Err, fold}
use Rattle.std.specs.List.{list_any}
use Rattle.std.proofs.lemmas.Bool.{true≢false, eqb-true, eq-eqb, ne_eqb}
use Rattle.arg_table.specs.declared.command.CommandHead.{CommandHead}
use Rattle.arg_table.specs.declared.fault.UsageFault.{UsageFault}
use Rattle.arg_table.specs.declared.given.Given.{Given}
use Rattle.arg_table.specs.declared.given.Given.TheVariants.{Argument, InputJson, StartingToken, MaxItems, PageSize}
use Rattle.arg_table.specs.declared.lines.Arg.{Arg}
use Rattle.arg_table.specs.declared.lines.Line.{Line}
use Rattle.arg_table.specs.declared.table.ArgTable.{ArgTable}
use Rattle.texts.specs.Calls.{◌>>=◌}
use Rattle.arg_table.specs.Given.{given_in}
use Rattle.arg_table.specs.Laws.{AreDistinct}
use Rattle.arg_table.specs.Lines.{put_arg, empty_line, with_given, line_from, line_of, members_of, conflict_of, missing_of, no_conflict, no_missing}

neither : (a b : Bool) → (a || b) ≡ false → (a ≡ false) × (b ≡ false)
neither true b is = absurd (true≢false is)
neither false b is = (refl, is)

not_in_put : (m : ℕ) (args : List Arg) (arg : Arg) → nat_eq m arg.member ≡ false → list_any (nat_eq m) (members_of args) ≡ false
    → list_any (nat_eq m) (members_of (put_arg args arg)) ≡ false
not_in_put m [] arg apart absent = ap (λ b. b || false) apart
not_in_put m (a ∷ args) arg apart absent = by (nat_eq arg.member a.member) (neither (nat_eq m a.member) (list_any (nat_eq m) (members_of args)) absent)
    (not_in_put m args arg apart)
  where
    by : (b : Bool) → (nat_eq m a.member ≡ false) × (list_any (nat_eq m) (members_of args) ≡ false)
        → (list_any (nat_eq m) (members_of args) ≡ false → list_any (nat_eq m) (members_of (put_arg args arg)) ≡ false)
        → list_any (nat_eq m) (members_of (if b then arg ∷ args else a ∷ put_arg args arg)) ≡ false
    by true none rest = ap (λ b. b || list_any (nat_eq m) (members_of args)) apart ∙ none.1
    by false none rest = ap (λ b. b || list_any (nat_eq m) (members_of (put_arg args arg))) none.0 ∙ rest none.1

put_distinct : (args : List Arg) (arg : Arg) → AreDistinct (members_of args) → AreDistinct (members_of (put_arg args arg))
put_distinct [] arg once = (refl, tt)
put_distinct (a ∷ args) arg once = by (nat_eq arg.member a.member) refl (put_distinct args arg once.1)
  where
    by : (b : Bool) → nat_eq arg.member a.member ≡ b → AreDistinct (members_of (put_arg args arg))
        → AreDistinct (members_of (if b then arg ∷ args else a ∷ put_arg args arg))
    by true is rest = (ap (λ m. list_any (nat_eq m) (members_of args)) (eqb-true arg.member a.member is) ∙ once.0, once.1)
    by false is rest =
        (not_in_put a.member args arg (ne_eqb a.member arg.member (λ same. true≢false (sym (eq-eqb arg.member a.member (sym same)) ∙ is))) once.0, rest)

with_distinct : (line : Line) (given : Given) → AreDistinct (members_of line.args) → AreDistinct (members_of (with_given line given).args)
with_distinct line (Argument arg) once = put_distinct line.args arg once
with_distinct line (InputJson text) once = once
with_distinct line (StartingToken text) once = once
with_distinct line (MaxItems count) once = once
with_distinct line (PageSize count) once = once

from_distinct : (givens : List Given) (line : Line) → AreDistinct (members_of line.args) → AreDistinct (members_of (fold with_given line givens).args)
from_distinct [] line once = once
from_distinct (g ∷ gs) line once = from_distinct gs (with_given line g) (with_distinct line g once)

then_ok : {A B : Type 0} (P : B → Type 0) (r : Result A UsageFault) (f : A → Result B UsageFault) (y : B) → ((x : A) → f x ≡ Ok y → P y) → (r >>= f) ≡ Ok y → P y
then_ok P (Ok x) f y next is = next x is
then_ok P (Err e) f y next is = absurd (cc)

pub line_distinct : (table : ArgTable) (head : CommandHead) (line : Line) → line_of table head ≡ Ok line → AreDistinct (members_of line.args)
unfolding line_of
line_distinct table head line is =
    let P : Line → Type 0 = λ l. AreDistinct (members_of l.args) in
    then_ok P (given_in table head.wait head.tail) _ line
    (λ givens. then_ok P (no_conflict (conflict_of table head.paginate givens (line_from givens))) _ line
    (λ apart. then_ok P (no_missing (missing_of table (line_from givens))) _ line
    (λ whole made. let same : line_from givens ≡ line = cc in subst P same (from_distinct givens empty_line tt)))) is
