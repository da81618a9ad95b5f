-- Indexes, slices and list wildcards (JMESPath specification, "Grammar": bracket-specifier,
-- slice-expression), behind `[`.
use Rattle.std.specs.Prelude.{◌==◌, Bool, false, ◌||◌, if◌then◌else◌, List, length, Option, None, Some, is_some, Ok, Err}
use Rattle.jmes_syntax.specs.declared.expr.Expr.{Expr}
use Rattle.jmes_syntax.specs.declared.expr.Step.{Step}
use Rattle.jmes_syntax.specs.declared.expr.Step.TheVariants as step
use Rattle.jmes_syntax.specs.declared.stop.Stop.TheVariants.{Syntax}
use Rattle.jmes_syntax.specs.declared.token.Mark.{Mark}
use Rattle.jmes_syntax.specs.declared.token.Mark.TheVariants as mark
use Rattle.jmes_syntax.specs.declared.token.Token.{Token}
use Rattle.jmes_syntax.specs.declared.whole.Whole.{Whole}
use Rattle.jmes_syntax.specs.Reading.{Read}
use Rattle.texts.specs.Calls.{◌>>=◌}
use Rattle.jmes_syntax.specs.Tokens.{behind, past, number_at}

-- a value before the bracket that closes
abbrev pub closed : {A : Type 0} → Mark → A → List Token → Read A
closed m x ts = past m ts >>= (λ us. Ok (x, us))

-- a step that isn't written is 1
abbrev pub step_of : Option Whole → Whole
step_of None = record { is_negative = false; magnitude = 1 }
step_of (Some n) = n

abbrev pub slice : Option Whole → Option Whole → Whole → Step Expr
slice start stop by = step.Slice (record { start = start; stop = stop; step = by })

-- a slice behind its second colon; a step of 0 is none
abbrev pub step_at : Option Whole → Option Whole → List Token → Read (Step Expr)
step_at start stop ts = let by = number_at ts in
    if (step_of by.0).magnitude == 0 then Err (Syntax (length ts)) else closed mark.CloseBracket (slice start stop (step_of by.0)) by.1

abbrev pub stop_at : Option Whole → Option Whole → List Token → Option (List Token) → Read (Step Expr)
stop_at start stop ts None = closed mark.CloseBracket (slice start stop (step_of None)) ts
stop_at start stop ts (Some us) = step_at start stop us

-- a slice behind its first colon
abbrev pub slice_at : Option Whole → List Token → Read (Step Expr)
slice_at start ts = let stop = number_at ts in stop_at start stop.0 stop.1 (behind mark.Colon stop.1)

-- a number and no colon
abbrev pub only_number : List Token → Option Whole → List Token → Read (Step Expr)
only_number ts None us = Err (Syntax (length ts))
only_number ts (Some n) us = closed mark.CloseBracket (step.Index n) us

abbrev pub start_at : List Token → Option Whole → List Token → Option (List Token) → Read (Step Expr)
start_at ts start us None = only_number ts start us
start_at ts start us (Some vs) = slice_at start vs

abbrev pub star_at : List Token → Option (List Token) → Read (Step Expr)
star_at ts (Some us) = closed mark.CloseBracket step.Elements us
star_at ts None = let start = number_at ts in start_at ts start.0 start.1 (behind mark.Colon start.1)

-- `*`, a number or a slice, and the closing bracket
abbrev pub index_at : List Token → Read (Step Expr)
index_at ts = star_at ts (behind mark.Star ts)

abbrev pub star_closes : List Token → Option (List Token) → Bool
star_closes ts (Some us) = is_some (behind mark.CloseBracket us)
star_closes ts None = is_some (number_at ts).0 || is_some (behind mark.Colon ts)

-- where a chain begins, `[*]`, a number or a colon behind `[` tell these from a list
abbrev pub begins_index : List Token → Bool
begins_index ts = star_closes ts (behind mark.Star ts)

abbrev pub where_index : Option (List Token) → Option (List Token)
where_index None = None
where_index (Some us) = if begins_index us then Some us else None

-- what is behind `[`, where an index begins with it
abbrev pub behind_index : List Token → Option (List Token)
behind_index ts = where_index (behind mark.OpenBracket ts)
