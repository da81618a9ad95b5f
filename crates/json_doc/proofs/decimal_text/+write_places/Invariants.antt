use Rattle.json_doc.proofs.decimal_text.+write_places.Given as goal

abbrev pub decreases-write_places : goal.decreases-write_places
decreases-write_places l = l.count
