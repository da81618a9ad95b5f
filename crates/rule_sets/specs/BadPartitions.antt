-- The first bad place of partitions.
use Rattle.std.specs.Prelude.{ℕ, ◌||◌, Bool, if◌then◌else◌, List, [], ◌∷◌, is_some, codes, bytes_eq}
use Rattle.json_doc.specs.declared.doc.Doc.{Doc}
use Rattle.texts.specs.Calls.{◌>>=◌}
use Rattle.model_files.specs.Reading.{fields_of, items_of}
use Rattle.rule_sets.specs.BadPlaces.{Judged, fine, first_bad, has_key, each_field, each_item}
use Rattle.rule_sets.specs.BadRules.{any_text, any_flag, any_fields, judged_text}
use Rattle.rule_terms.specs.Patterns.{pattern_of}

abbrev pub is_text_output : List ℕ → Bool
is_text_output key =
    bytes_eq key (codes "name") || bytes_eq key (codes "dnsSuffix")
    || bytes_eq key (codes "dualStackDnsSuffix") || bytes_eq key (codes "implicitGlobalRegion")

-- what a partition says of its endpoints
abbrev pub judged_output : List ℕ → Doc → Judged
judged_output key doc =
    if bytes_eq key (codes "supportsFIPS") || bytes_eq key (codes "supportsDualStack") then any_flag doc else
    if is_text_output key then any_text doc else fine

abbrev pub judged_outputs : Doc → Judged
judged_outputs doc = do
  fields ← fields_of doc
  each_field judged_output fields

abbrev pub judged_pattern : Doc → Judged
judged_pattern doc = judged_text (λ text. is_some (pattern_of text)) doc

abbrev pub judged_partition_part : List ℕ → Doc → Judged
judged_partition_part key doc =
    if bytes_eq key (codes "id") then any_text doc else
    if bytes_eq key (codes "regionRegex") then judged_pattern doc else
    if bytes_eq key (codes "regions") then any_fields doc else
    if bytes_eq key (codes "outputs") then judged_outputs doc else fine

abbrev pub judged_partition : Doc → Judged
judged_partition doc = do
  fields ← fields_of doc
  first_bad
      (has_key (codes "id") fields
      ∷ has_key (codes "regionRegex") fields
      ∷ has_key (codes "outputs") fields
      ∷ each_field judged_partition_part fields ∷ [])

abbrev pub judged_list : Doc → Judged
judged_list doc = do
  partitions ← items_of doc
  each_item judged_partition 0 partitions

abbrev pub judged_file_part : List ℕ → Doc → Judged
judged_file_part key doc = if bytes_eq key (codes "partitions") then judged_list doc else fine

-- the first bad place of partitions
abbrev pub judged_partitions : Doc → Judged
judged_partitions doc = do
  fields ← fields_of doc
  first_bad (has_key (codes "partitions") fields ∷ each_field judged_file_part fields ∷ [])
