-- The scalars of a document, and those that stand in lines.
use Rattle.std.specs.Prelude.{ℕ, List, option_to_list}
use Rattle.std.specs.List.{flat_map}
use Rattle.json_doc.specs.declared.doc.Doc.{Doc}
use Rattle.json_doc.specs.declared.doc.Doc.TheOpen.{Doc-F}
use Rattle.json_doc.specs.declared.doc.Doc.TheFolds.{fold-Doc}
use Rattle.out_format.specs.Cells.{values}
use Rattle.out_format.specs.Layers.{scalar_text}
use Rattle.out_format.specs.Text.{Line}

abbrev pub scalars_step : Doc-F (List (List ℕ)) → List (List ℕ)
scalars_step (Doc-F.Items tss) = flat_map (λ ts. ts) tss
scalars_step (Doc-F.Fields ps) = flat_map (λ p. p.value) ps
scalars_step scalar = option_to_list (scalar_text scalar)

-- the texts of all scalars in a document, in its order
abbrev pub scalars_of : Doc → List (List ℕ)
scalars_of = fold-Doc (List (List ℕ)) scalars_step

-- the texts of scalars in these lines
abbrev pub line_values : List Line → List (List ℕ)
line_values lines = flat_map values lines
