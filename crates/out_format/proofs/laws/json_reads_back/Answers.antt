use Rattle.std.proofs.Common.{[], ◌∷◌, refl}
use Rattle.out_format.proofs.laws.json_reads_back.Goals as goal

-- the line end behind the text is a blank
pub returns : goal.returns
returns c = λ doc proper deep some. rw some (c.texts_read_back.ensures.blanks_behind doc (10 ∷ []) proper deep (10 ∷ [], (refl, tt), refl))
