-- `aws.parseArn`: "Computes an ARN object given an input string, or returns no value if the string is not a
-- valid ARN."
use Rattle.std.specs.Prelude.{ℕ, ◌&&◌, Bool, true, false, if◌then◌else◌, List, [], ◌∷◌, map, codes, bytes_eq}
use Rattle.json_doc.specs.declared.doc.Doc.{Doc}
use Rattle.json_doc.specs.declared.doc.Doc.TheVariants as doc
use Rattle.texts.specs.declared.pairs.Pair.{Pair}
use Rattle.texts.specs.Cut.{cut, cut_times, is_among}

abbrev pub pair_of : List ℕ → Doc → Pair Doc
pair_of key value = record { key = key; value = value }

-- the words of a resource between colons and slashes
abbrev pub words_of : List ℕ → Doc
words_of resource = doc.Items (map doc.Str (cut (is_among (codes ":/")) resource))

abbrev pub is_there : List ℕ → Bool
is_there [] = false
is_there (c ∷ cs) = true

-- an ARN's partition, service, region, account and resource
abbrev pub arn_with : List ℕ → List ℕ → List ℕ → List ℕ → List ℕ → Doc
arn_with partition service region account resource = doc.Fields
    (pair_of (codes "partition") (doc.Str partition)
    ∷ pair_of (codes "service") (doc.Str service)
    ∷ pair_of (codes "region") (doc.Str region)
    ∷ pair_of (codes "accountId") (doc.Str account)
    ∷ pair_of (codes "resourceId") (words_of resource) ∷ [])

-- `arn` and five more parts, of which the partition, the service and the resource aren't empty
abbrev pub arn_in : List (List ℕ) → Doc
arn_in (arn ∷ partition ∷ service ∷ region ∷ account ∷ resource ∷ []) =
    if bytes_eq arn (codes "arn") && is_there partition && is_there service && is_there resource
    then arn_with partition service region account resource else doc.Null
arn_in others = doc.Null

-- the object of an ARN, whose last part is the rest, or null
abbrev pub arn_of : List ℕ → Doc
arn_of text = arn_in (cut_times 58 5 text)
