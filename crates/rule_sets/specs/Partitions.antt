-- `aws.partition`: "Computes a partition object for a given region." The partition is the first that lists the
-- region, else the first whose pattern fits it, else the one with the id `aws`.
use Rattle.std.specs.Prelude.{ℕ, Bool, if◌then◌else◌, List, [], ◌∷◌, map, Option, None, Some, option_map, unwrap_or, Result, codes, bytes_eq}
use Rattle.std.specs.List.{list_any}
use Rattle.std.specs.Option.{option_or}
use Rattle.json_doc.specs.declared.doc.Doc.{Doc}
use Rattle.json_doc.specs.declared.doc.Doc.TheVariants as doc
use Rattle.texts.specs.Keys.{put}
use Rattle.rule_sets.specs.declared.fault.RuleFault.{RuleFault}
use Rattle.rule_sets.specs.declared.partitions.Partition.{Partition}
use Rattle.rule_sets.specs.BadPartitions.{judged_partitions}
use Rattle.rule_sets.specs.Faults.{read_unless}
use Rattle.rule_terms.specs.Patterns.{pattern_of, fits}
use Rattle.rule_terms.specs.Seen.{text_at, items_at, fields_at, keys_at}

-- what a partition says, with its id as its name
abbrev pub outputs_of : List ℕ → Doc → Doc
outputs_of id partition = doc.Fields (put (fields_at (codes "outputs") partition) (codes "name") (doc.Str id))

abbrev pub partition_of : Doc → Partition
partition_of partition = record {
  id = text_at (codes "id") partition;
  pattern = unwrap_or (pattern_of (text_at (codes "regionRegex") partition)) [];
  regions = keys_at (codes "regions") partition;
  outputs = outputs_of (text_at (codes "id") partition) partition;
}

-- what the file says, or its first bad place
abbrev pub partitions_of : Doc → Result (List Partition) RuleFault
partitions_of file = read_unless (judged_partitions file) (map partition_of (items_at (codes "partitions") file))

abbrev pub lists : List ℕ → Partition → Bool
lists region partition = list_any (λ listed. bytes_eq listed region) partition.regions

-- the first partition that lists a region
abbrev pub first_listing : List ℕ → List Partition → Option Partition
first_listing region [] = None
first_listing region (p ∷ ps) = if lists region p then Some p else first_listing region ps

-- the first partition whose pattern a region fits
abbrev pub first_fitting : List ℕ → List Partition → Option Partition
first_fitting region [] = None
first_fitting region (p ∷ ps) = if fits p.pattern region then Some p else first_fitting region ps

abbrev pub first_named : List ℕ → List Partition → Option Partition
first_named id [] = None
first_named id (p ∷ ps) = if bytes_eq p.id id then Some p else first_named id ps

-- the partition of a region
abbrev pub partition_for : List ℕ → List Partition → Option Partition
partition_for region partitions =
    option_or (first_listing region partitions) (option_or (first_fitting region partitions) (first_named (codes "aws") partitions))

-- what the partition of a region says
abbrev pub outputs_for : List ℕ → List Partition → Option Doc
outputs_for region partitions = option_map (λ p. p.outputs) (partition_for region partitions)
