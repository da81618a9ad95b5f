-- Runs of plain bytes: each stands for itself in every layout.
use Rattle.std.proofs.Common.{◌≡◌, ◌<◌, ◌≤◌, ℕ, true, List, [], ◌∷◌, ◌++◌, length, take, drop, get_or, ⊎_elim, arith, refl, sym, ap, ◌∙◌}
use Rattle.std.specs.List.{All, AllByRecursion, flat_map, prefix_len}
use Rattle.std.specs.Str.{chars, IsUtf8, IsAscii, IsCharBoundary}
use Rattle.std.proofs.lemmas.Bool.{cases_lt}
use Rattle.std.proofs.lemmas.Bool.Decides.{nat_tests}
use Rattle.std.proofs.lemmas.List.{get_or-take, length-take-le, get_or_past, append_assoc, append-nil, nil_from_length, take-append-drop}
use Rattle.std.proofs.lemmas.List.Concat.{flat_map-append}
use Rattle.std.proofs.lemmas.List.Elements.{All-from_get_or, recursion_from_All}
use Rattle.std.proofs.lemmas.List.Sums.{prefix_len_passes, prefix_len-le-length}
use Rattle.std.proofs.lemmas.Str.{IsUtf8-from_ascii, IsUtf8-drop, IsCharBoundary-from_take, chars-IsAscii, chars-append, chars-nil, chars_past_char}
use Rattle.std.specs.Prelude.{encode_utf8}
use Rattle.json_doc.specs.declared.layout.Layout.{Layout}
use Rattle.json_doc.specs.declared.layout.Layout.TheVariants.{Compact, Indented}
use Rattle.json_doc.specs.Escapes.{escaped}
use Rattle.json_doc.specs.Plain.{is_plain}

escaped-plain : (layout : Layout) (b : ℕ) → is_plain b ≡ true → escaped layout b ≡ b ∷ []
escaped-plain Compact b h = grind (arith, nat_tests)
escaped-plain Indented b h = grind (arith, nat_tests)

plain_ascii : (b : ℕ) → is_plain b ≡ true → b < 128
plain_ascii b h = grind (arith, nat_tests)

-- plain bytes stand as they are
bare_run : (layout : Layout) (bs : List ℕ) → AllByRecursion (λ b. is_plain b ≡ true) bs → flat_map (escaped layout) bs ≡ bs
bare_run layout [] h = refl
bare_run layout (b ∷ bs) h = rw (escaped-plain layout b h.0, bare_run layout bs h.1)

module _ (bs : List ℕ) where
  abbrev run_len : ℕ
  run_len = prefix_len is_plain bs

  run_plain : (k : ℕ) → k < run_len → get_or (take run_len bs) k 0 ≡ get_or bs k 0
  run_plain k h = get_or-take run_len bs k 0 h

  length-run : length (take run_len bs) ≡ run_len
  length-run = length-take-le run_len bs (prefix_len-le-length is_plain bs)

  run-All : All (λ b. is_plain b ≡ true) (take run_len bs)
  run-All = All-from_get_or (λ b. is_plain b ≡ true) (take run_len bs) 0
      (λ k h. let below : k < run_len = omega (arith, length-run) in rw (run_plain k below) (prefix_len_passes is_plain bs k 0 below))

  pub IsAscii-run : IsAscii (take run_len bs)
  IsAscii-run i = ⊎_elim
      (λ (below : i < run_len). rw (run_plain i below) (plain_ascii _ (prefix_len_passes is_plain bs i 0 below)))
      (λ (past : run_len ≤ i). let e = get_or_past (take run_len bs) i 0 (omega (arith, length-run)) in omega (arith, e))
      (cases_lt i run_len)

  pub IsCharBoundary-run : IsUtf8 bs → IsCharBoundary bs run_len
  IsCharBoundary-run u = IsCharBoundary-from_take bs run_len u (prefix_len-le-length is_plain bs) (IsUtf8-from_ascii (take run_len bs) IsAscii-run)

  -- the run stands as it is, and what follows it by its characters
  pub escaped-run : (layout : Layout) → IsUtf8 bs → flat_map (escaped layout) (chars bs) ≡ chars (take run_len bs) ++ flat_map (escaped layout) (chars (drop run_len bs))
  escaped-run layout u =
      let run = take run_len bs in
      let more = drop run_len bs in
      let split = ap chars (sym (take-append-drop run_len bs)) ∙ chars-append run more (IsUtf8-from_ascii run IsAscii-run) in
      let same = chars-IsAscii run IsAscii-run in
      let bare = bare_run layout run (recursion_from_All (λ b. is_plain b ≡ true) run run-All) in
      rw (split, flat_map-append, same, bare)

  -- a run is written, and then the character behind it
  pub escaped-turn : (layout : Layout) (run more others out out' out'' : List ℕ) (c : ℕ) → IsUtf8 bs
      → run ≡ take run_len bs → more ≡ drop run_len bs → more ≡ encode_utf8 c ++ others
      → out' ≡ out ++ chars run → out'' ≡ out' ++ escaped layout c
      → out'' ++ flat_map (escaped layout) (chars others) ≡ out ++ flat_map (escaped layout) (chars bs)
  escaped-turn layout run more others out out' out'' c u front back begins e e' =
      let after = IsUtf8-drop bs run_len u (IsCharBoundary-run u) in
      let tail = ap (flat_map (escaped layout)) (chars_past_char (drop run_len bs) others c after (sym back ∙ begins)) in
      rw (e', e, front, escaped-run layout u, tail) (simp append_assoc)

  -- a run is written, and nothing follows it
  pub escaped-last : (layout : Layout) (run more out out' : List ℕ) → IsUtf8 bs
      → run ≡ take run_len bs → more ≡ drop run_len bs → length more ≡ 0 → out' ≡ out ++ chars run
      → out' ≡ out ++ flat_map (escaped layout) (chars bs)
  escaped-last layout run more out out' u front back none e =
      let nil = nil_from_length (drop run_len bs) (ap length (sym back) ∙ none) in
      let tail = ap (λ xs. flat_map (escaped layout) (chars xs)) nil ∙ ap (flat_map (escaped layout)) chars-nil in
      rw (e, front, escaped-run layout u, tail, append-nil)

pub between_quotes : (out inner : List ℕ) → out ++ 34 ∷ [] ++ inner ++ 34 ∷ [] ≡ out ++ (34 ∷ inner ++ 34 ∷ [])
between_quotes out inner = simp append_assoc
