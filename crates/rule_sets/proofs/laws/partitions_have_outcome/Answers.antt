use Rattle.std.specs.Prelude.{map, codes}
use Rattle.rule_terms.specs.Seen.{items_at}
use Rattle.rule_sets.specs.BadPartitions.{judged_partitions}
use Rattle.rule_sets.specs.Partitions.{partition_of}
use Rattle.rule_sets.proofs.Outcomes.{read_outcome}
use Rattle.rule_sets.proofs.PlacedPartitions.{placed-partitions}
use Rattle.rule_sets.proofs.laws.partitions_have_outcome.Goals as goal

pub returns : goal.returns
returns c = λ doc. read_outcome (judged_partitions doc) (map partition_of (items_at (codes "partitions") doc)) (placed-partitions doc)
