use Rattle.std.proofs.Common.{ℕ, ◌+◌, ◌-◌, ◌*◌, List, [], length}
use Rattle.texts.specs.declared.pairs.Pair.{Pair}
use Rattle.jmes_syntax.specs.declared.expr.Argument.{Argument}
use Rattle.jmes_syntax.specs.declared.expr.Chain.{Chain}
use Rattle.jmes_syntax.specs.declared.expr.Compared.{Compared}
use Rattle.jmes_syntax.specs.declared.expr.Expr.{Expr}
use Rattle.jmes_syntax.specs.declared.reader.Level.{Level}
use Rattle.jmes_syntax.specs.declared.reader.Level.TheVariants as level
use Rattle.jmes_syntax.specs.Reading.{Read}
use Rattle.jmes_syntax.specs.Scan.{Sides, Comparisons, Links, ChainAt, MoreItems, MoreMembers, MoreArguments}
use Rattle.jmes_syntax.proofs.reader.+read.Given as goal

-- how far a level is above the comparisons
abbrev pub height : Level → ℕ
height level.And = 7
height level.Or = 9
height level.Pipe = 11

abbrev pub decreases-read_joined : goal.decreases-read_joined
decreases-read_joined l = 20 * (101 - l.depth) + height l.level + 1

abbrev pub decreases-read_side : goal.decreases-read_side
decreases-read_side l = 20 * (101 - l.depth) + height l.level

abbrev pub decreases-read_comparison : goal.decreases-read_comparison
decreases-read_comparison l = 20 * (101 - l.depth) + 6

abbrev pub decreases-read_compared : goal.decreases-read_compared
decreases-read_compared l = 20 * (101 - l.depth) + 5

abbrev pub decreases-read_operand : goal.decreases-read_operand
decreases-read_operand l = 20 * (101 - l.depth) + 4

abbrev pub decreases-read_chain : goal.decreases-read_chain
decreases-read_chain l = 20 * (101 - l.depth) + 3

abbrev pub decreases-read_first : goal.decreases-read_first
decreases-read_first l = 20 * (101 - l.depth) + 2

abbrev pub decreases-read_link : goal.decreases-read_link
decreases-read_link l = 20 * (101 - l.depth) + 2

abbrev pub decreases-read_part : goal.decreases-read_part
decreases-read_part l = 20 * (101 - l.depth) + 1

abbrev pub decreases-read_named : goal.decreases-read_named
decreases-read_named l = 20 * (101 - l.depth)

abbrev pub decreases-read_enclosed : goal.decreases-read_enclosed
decreases-read_enclosed l = 20 * (101 - l.depth)

abbrev pub decreases-read_items : goal.decreases-read_items
decreases-read_items l = 20 * (101 - l.depth)

abbrev pub decreases-read_members : goal.decreases-read_members
decreases-read_members l = 20 * (101 - l.depth)

abbrev pub decreases-read_arguments : goal.decreases-read_arguments
decreases-read_arguments l = 20 * (101 - l.depth) + 14

abbrev pub decreases-read_argument : goal.decreases-read_argument
decreases-read_argument l = 20 * (101 - l.depth) + 13

-- what comes behind the sides so far comes of the whole
abbrev pub invariant-read_joined-loop-sides : goal.invariant-read_joined-loop-sides
invariant-read_joined-loop-sides l =
    (o : Read (List Expr)) → Sides l.fn.level l.fn.depth l.sides l.rest o → Sides l.fn.level l.fn.depth [] l.fn.tokens o

abbrev pub decreases-read_joined-loop-sides : goal.decreases-read_joined-loop-sides
decreases-read_joined-loop-sides l = length l.rest

-- what comes behind the comparisons so far comes of the whole
abbrev pub invariant-read_compared-loop-comparator : goal.invariant-read_compared-loop-comparator
invariant-read_compared-loop-comparator l =
    (o : Read (List (Compared Expr))) → Comparisons l.fn.depth l.all l.rest o → Comparisons l.fn.depth [] l.fn.tokens o

abbrev pub decreases-read_compared-loop-comparator : goal.decreases-read_compared-loop-comparator
decreases-read_compared-loop-comparator l = length l.rest

-- what comes behind the chain so far comes of the whole
abbrev pub invariant-read_chain-loop-chain : goal.invariant-read_chain-loop-chain
invariant-read_chain-loop-chain l =
    (o : Read (Chain Expr)) → Links l.fn.depth l.chain l.rest o → ChainAt l.fn.depth l.fn.tokens o

abbrev pub decreases-read_chain-loop-chain : goal.decreases-read_chain-loop-chain
decreases-read_chain-loop-chain l = length l.rest

-- what comes behind the items so far comes of the whole
abbrev pub invariant-read_items-loop-items : goal.invariant-read_items-loop-items
invariant-read_items-loop-items l =
    (o : Read (List Expr)) → MoreItems (l.fn.depth + 1) l.items l.rest o → MoreItems (l.fn.depth + 1) [] l.fn.tokens o

abbrev pub decreases-read_items-loop-items : goal.decreases-read_items-loop-items
decreases-read_items-loop-items l = length l.rest

-- what comes behind the members so far comes of the whole
abbrev pub invariant-read_members-loop-members : goal.invariant-read_members-loop-members
invariant-read_members-loop-members l =
    (o : Read (List (Pair Expr))) → MoreMembers (l.fn.depth + 1) l.members l.rest o → MoreMembers (l.fn.depth + 1) [] l.fn.tokens o

abbrev pub decreases-read_members-loop-members : goal.decreases-read_members-loop-members
decreases-read_members-loop-members l = length l.rest

-- what comes behind the arguments so far comes of the whole
abbrev pub invariant-read_arguments-loop-arguments : goal.invariant-read_arguments-loop-arguments
invariant-read_arguments-loop-arguments l =
    (o : Read (List (Argument Expr))) → MoreArguments l.fn.depth l.arguments l.rest o → MoreArguments l.fn.depth [] l.fn.tokens o

abbrev pub decreases-read_arguments-loop-arguments : goal.decreases-read_arguments-loop-arguments
decreases-read_arguments-loop-arguments l = length l.rest
