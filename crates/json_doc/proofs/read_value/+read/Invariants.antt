use Rattle.std.proofs.Common.{◌+◌, ◌-◌, ◌*◌, List, [], length}
use Rattle.json_doc.specs.declared.doc.Doc.{Doc}
use Rattle.texts.specs.declared.pairs.Pair.{Pair}
use Rattle.json_doc.specs.Gathered.{kept}
use Rattle.json_doc.specs.Reading.{Read}
use Rattle.json_doc.specs.Scan.{Elements, Members}
use Rattle.json_doc.proofs.read_value.+read.Given as goal

abbrev pub decreases-read_value : goal.decreases-read_value
decreases-read_value l = 2 * (101 - l.depth)

abbrev pub decreases-read_array : goal.decreases-read_array
decreases-read_array l = 2 * (101 - l.depth) + 1

abbrev pub decreases-read_object : goal.decreases-read_object
decreases-read_object l = 2 * (101 - l.depth) + 1

-- what comes behind the items so far comes of the whole
abbrev pub invariant-read_array-loop-items : goal.invariant-read_array-loop-items
invariant-read_array-loop-items l =
    (o : Read (List Doc)) → Elements l.fn.depth l.items l.rest o → Elements l.fn.depth [] l.fn.bytes o

abbrev pub decreases-read_array-loop-items : goal.decreases-read_array-loop-items
decreases-read_array-loop-items l = length l.rest

-- what comes behind the fields so far comes of the whole
abbrev pub invariant-read_object-loop-fields : goal.invariant-read_object-loop-fields
invariant-read_object-loop-fields l =
    (o : Read (List (Pair Doc))) → Members l.fn.depth (kept l.fields) l.rest o → Members l.fn.depth [] l.fn.bytes o

abbrev pub decreases-read_object-loop-fields : goal.decreases-read_object-loop-fields
decreases-read_object-loop-fields l = length l.rest
