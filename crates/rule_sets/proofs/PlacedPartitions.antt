-- What is due of partitions is never want of memory.
use Rattle.std.proofs.Common.{ℕ, List}
use Rattle.std.specs.Prelude.{◌||◌, if◌then◌else◌, bytes_eq, codes, is_some}
use Rattle.json_doc.specs.declared.doc.Doc.{Doc}
use Rattle.model_files.specs.Reading.{fields_of, items_of}
use Rattle.rule_terms.specs.Patterns.{pattern_of}
use Rattle.rule_sets.specs.BadPlaces.{each_field, each_item, fine, has_key}
use Rattle.rule_sets.specs.BadPartitions.{is_text_output, judged_file_part, judged_list, judged_output, judged_outputs, judged_partition, judged_partition_part, judged_partitions, judged_pattern}
use Rattle.rule_sets.specs.BadRules.{any_fields, any_flag, any_text}
use Rattle.rule_sets.proofs.Placed.{IsPlaced, placed-each_field, placed-each_item, placed-fields, placed-first, placed-if, placed-items, placed-key, placed-then, placed-three, placed-two}
use Rattle.rule_sets.proofs.PlacedRules.{placed-any_flag, placed-any_text, placed-judged_text}

placed-output : (key : List ℕ) (d : Doc) → IsPlaced (judged_output key d)
placed-output key d =
    placed-if (bytes_eq key (codes "supportsFIPS") || bytes_eq key (codes "supportsDualStack")) (any_flag d) (if is_text_output key then (any_text d) else fine) (placed-any_flag d) (placed-if (is_text_output key) (any_text d) fine (placed-any_text d) tt)

placed-outputs : (d : Doc) → IsPlaced (judged_outputs d)
placed-outputs d = placed-then (fields_of d) (each_field judged_output) (placed-fields d) (λ fields. placed-each_field judged_output fields placed-output)

placed-partition_part : (key : List ℕ) (d : Doc) → IsPlaced (judged_partition_part key d)
placed-partition_part key d =
    placed-if (bytes_eq key (codes "id")) (any_text d) (if bytes_eq key (codes "regionRegex") then (judged_pattern d) else (if bytes_eq key (codes "regions") then (any_fields d) else (if bytes_eq key (codes "outputs") then (judged_outputs d) else fine))) (placed-any_text d) (placed-if (bytes_eq key (codes "regionRegex")) (judged_pattern d) (if bytes_eq key (codes "regions") then (any_fields d) else (if bytes_eq key (codes "outputs") then (judged_outputs d) else fine)) (placed-judged_text (λ text. is_some (pattern_of text)) d) (placed-if (bytes_eq key (codes "regions")) (any_fields d) (if bytes_eq key (codes "outputs") then (judged_outputs d) else fine) (placed-then (fields_of d) (λ fields. fine) (placed-fields d) (λ fields. tt)) (placed-if (bytes_eq key (codes "outputs")) (judged_outputs d) fine (placed-outputs d) tt)))

placed-partition : (d : Doc) → IsPlaced (judged_partition d)
placed-partition d =
    placed-then (fields_of d) _ (placed-fields d)
    (λ fields.
    placed-first (has_key (codes "id") fields) _ (placed-key (codes "id") fields)
    (placed-three (has_key (codes "regionRegex") fields) (has_key (codes "outputs") fields) (each_field judged_partition_part fields)
    (placed-key (codes "regionRegex") fields) (placed-key (codes "outputs") fields) (placed-each_field judged_partition_part fields placed-partition_part)))

placed-list : (d : Doc) → IsPlaced (judged_list d)
placed-list d =
    placed-then (items_of d) (each_item judged_partition 0) (placed-items d) (λ partitions. placed-each_item judged_partition 0 partitions placed-partition)

placed-file_part : (key : List ℕ) (d : Doc) → IsPlaced (judged_file_part key d)
placed-file_part key d = placed-if (bytes_eq key (codes "partitions")) (judged_list d) fine (placed-list d) tt

pub placed-partitions : (d : Doc) → IsPlaced (judged_partitions d)
placed-partitions d =
    placed-then (fields_of d) _ (placed-fields d)
    (λ fields.
    placed-two (has_key (codes "partitions") fields) (each_field judged_file_part fields) (placed-key (codes "partitions") fields)
    (placed-each_field judged_file_part fields placed-file_part))
