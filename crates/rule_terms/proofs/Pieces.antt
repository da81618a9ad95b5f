-- The pieces of a template, one character after another.
use Rattle.std.proofs.Common.{◌≡◌, ◌≢◌, ℕ, suc, Bool, true, false, List, [], ◌∷◌, ◌++◌, map, length, refl, sym, ap, ◌∙◌, append_assoc, append-nil, subst, None, Some}
use Rattle.std.specs.Prelude.{nat_eq, option_map, IsTrue, ◌↔◌, ◌||◌, ◌&&◌}
use Rattle.std.specs.Str.{NonePass}
use Rattle.std.proofs.lemmas.Bool.{cond-false, ne_eqb, false≢true}
use Rattle.rule_terms.specs.declared.template.Piece.{Piece}
use Rattle.rule_terms.specs.declared.template.Piece.TheVariants.{Char, Named}
use Rattle.rule_terms.specs.declared.template.Stand.{Stand}
use Rattle.rule_terms.specs.declared.template.Stand.TheVariants.{Plain, Opened, Closed}
use Rattle.rule_terms.specs.Templates.{is_brace, is_doubled, before_close, opened_piece, first_piece, pieces_past, pieces_of, left_open, held, GoesOn}

no_brace : (c : ℕ) → c ≢ 123 → c ≢ 125 → is_brace c ≡ false
no_brace c first second = ap (λ b. b || nat_eq c 125) (ne_eqb c 123 first) ∙ ne_eqb c 125 second

neither : (a b : Bool) → (a || b) ≡ false → (a ≡ false) × (b ≡ false)
neither true b is = absurd (false≢true (sym is))
neither false b is = (refl, is)

no_double : (c : ℕ) (cs : List ℕ) → is_brace c ≡ false → is_doubled c cs ≡ false
no_double c [] plain_c = refl
no_double c (d ∷ ds) plain_c = ap (λ b. b && nat_eq d c) plain_c

first_plain : (c : ℕ) (cs : List ℕ) → is_brace c ≡ false → first_piece c cs ≡ (Char c, 0)
first_plain c cs plain_c =
    cond-false (is_doubled c cs) (Char c, 1) _ (no_double c cs plain_c)
    ∙ cond-false (nat_eq c 123) (opened_piece (before_close cs)) (Char c, 0) (neither (nat_eq c 123) (nat_eq c 125) plain_c).0

-- another character stands for itself
plain : (c : ℕ) (cs : List ℕ) → is_brace c ≡ false → pieces_of (c ∷ cs) ≡ Char c ∷ pieces_of cs
plain c cs plain_c = ap (λ (first : Piece × ℕ). first.0 ∷ pieces_past first.1 cs) (first_plain c cs plain_c)

plain_words : (words rest : List ℕ) → NonePass is_brace words → pieces_of (words ++ rest) ≡ map Char words ++ pieces_of rest
plain_words [] rest none = refl
plain_words (w ∷ ws) rest none = plain w (ws ++ rest) none.0 ∙ ap (λ ps. Char w ∷ ps) (plain_words ws rest none.1)

past_words : (words : List ℕ) (d : ℕ) (rest : List ℕ) → pieces_past (suc (length words)) (words ++ d ∷ rest) ≡ pieces_of rest
past_words [] d rest = refl
past_words (w ∷ ws) d rest = past_words ws d rest

before_next : (w : ℕ) (ws : List ℕ) → is_brace w ≡ false → before_close (w ∷ ws) ≡ option_map (λ (words : List ℕ). w ∷ words) (before_close ws)
before_next w ws plain_c =
    let two : (nat_eq w 123 ≡ false) × (nat_eq w 125 ≡ false) = neither (nat_eq w 123) (nat_eq w 125) plain_c in
    cond-false (nat_eq w 125) (Some []) _ two.1 ∙ cond-false (nat_eq w 123) None (option_map (λ (words : List ℕ). w ∷ words) (before_close ws)) two.0

closes : (words rest : List ℕ) → NonePass is_brace words → before_close (words ++ 125 ∷ rest) ≡ Some words
closes [] rest none = refl
closes (w ∷ ws) rest none = before_next w (ws ++ 125 ∷ rest) none.0 ∙ ap (option_map (λ (words : List ℕ). w ∷ words)) (closes ws rest none.1)

opens : (words rest : List ℕ) → NonePass is_brace words → before_close (words ++ 123 ∷ rest) ≡ None
opens [] rest none = refl
opens (w ∷ ws) rest none = before_next w (ws ++ 123 ∷ rest) none.0 ∙ ap (option_map (λ (words : List ℕ). w ∷ words)) (opens ws rest none.1)

ends : (words : List ℕ) → NonePass is_brace words → before_close words ≡ None
ends [] none = refl
ends (w ∷ ws) none = before_next w ws none.0 ∙ ap (option_map (λ (words : List ℕ). w ∷ words)) (ends ws none.1)

first_opened : (w : ℕ) (ws : List ℕ) → is_brace w ≡ false → first_piece 123 (w ∷ ws) ≡ opened_piece (before_close (w ∷ ws))
first_opened w ws plain_c = cond-false (nat_eq w 123) (Char 123, 1) (opened_piece (before_close (w ∷ ws))) (neither (nat_eq w 123) (nat_eq w 125) plain_c).0

-- words between braces are a name
named : (w : ℕ) (ws rest : List ℕ) → NonePass is_brace (w ∷ ws) → pieces_of (123 ∷ (w ∷ ws) ++ 125 ∷ rest) ≡ Named (w ∷ ws) ∷ pieces_of rest
named w ws rest none =
    ap (λ (first : Piece × ℕ). first.0 ∷ pieces_past first.1 ((w ∷ ws) ++ 125 ∷ rest))
    (first_opened w (ws ++ 125 ∷ rest) none.0 ∙ ap opened_piece (closes (w ∷ ws) rest none))
    ∙ ap (λ ps. Named (w ∷ ws) ∷ ps) (past_words (w ∷ ws) 125 rest)

-- an opening brace before another isn't closed
left : (w : ℕ) (ws rest : List ℕ) → NonePass is_brace (w ∷ ws) → pieces_of (123 ∷ (w ∷ ws) ++ 123 ∷ rest) ≡ left_open (w ∷ ws) ++ pieces_of (123 ∷ rest)
left w ws rest none =
    ap (λ (first : Piece × ℕ). first.0 ∷ pieces_past first.1 ((w ∷ ws) ++ 123 ∷ rest))
    (first_opened w (ws ++ 123 ∷ rest) none.0 ∙ ap opened_piece (opens (w ∷ ws) rest none))
    ∙ ap (λ ps. Char 123 ∷ ps) (plain_words (w ∷ ws) (123 ∷ rest) none)

pub left_at_end : (words : List ℕ) → NonePass is_brace words → left_open words ≡ pieces_of (123 ∷ words)
left_at_end [] none = refl
left_at_end (w ∷ ws) none = sym
    (ap (λ (first : Piece × ℕ). first.0 ∷ pieces_past first.1 (w ∷ ws)) (first_opened w ws none.0 ∙ ap opened_piece (ends (w ∷ ws) none))
    ∙ ap (λ ps. Char 123 ∷ ps) (ap pieces_of (sym (append-nil (w ∷ ws))) ∙ plain_words (w ∷ ws) [] none ∙ append-nil (map Char (w ∷ ws))))

-- a closing brace before another character closes nothing
lone : (c : ℕ) (cs : List ℕ) → c ≢ 125 → pieces_of (125 ∷ c ∷ cs) ≡ Char 125 ∷ pieces_of (c ∷ cs)
lone c cs other = ap (λ (first : Piece × ℕ). first.0 ∷ pieces_past first.1 (c ∷ cs)) (cond-false (nat_eq c 125) (Char 125, 1) (Char 125, 0) (ne_eqb c 125 other))

-- What each character does.

pub plain_goes : (old new : List Piece) (c : ℕ) → c ≢ 123 → c ≢ 125 → new ≡ old ++ Char c ∷ [] → GoesOn old (c ∷ []) new Plain
plain_goes old new c first second is = (
  λ rest.
      ap (λ ps. ps ++ pieces_of rest) is ∙ append_assoc old (Char c ∷ []) (pieces_of rest) ∙ ap (λ ps. old ++ ps) (sym (plain c rest (no_brace c first second))),
  tt,
)

pub doubled_goes : (old new : List Piece) (c : ℕ) → c ≡ 123 → new ≡ old ++ Char 123 ∷ [] → GoesOn old (123 ∷ c ∷ []) new Plain
doubled_goes old new c same is = (
  λ rest.
      ap (λ ps. ps ++ pieces_of rest) is ∙ append_assoc old (Char 123 ∷ []) (pieces_of rest) ∙ ap (λ d. old ++ pieces_of (123 ∷ d ∷ rest)) (sym same),
  tt,
)

pub empty_goes : (old new : List Piece) (c : ℕ) → c ≡ 125 → new ≡ old ++ Char 123 ∷ [] → GoesOn old (123 ∷ c ∷ []) new Closed
empty_goes old new c same is = (
  λ rest.
      ap (λ ps. ps ++ pieces_of (125 ∷ rest)) is ∙ append_assoc old (Char 123 ∷ []) (pieces_of (125 ∷ rest)) ∙ ap (λ d. old ++ pieces_of (123 ∷ d ∷ rest)) (sym same),
  tt,
)

pub begun_goes : (old : List Piece) (words : List ℕ) (c : ℕ) → c ≢ 123 → c ≢ 125 → words ≡ c ∷ [] → GoesOn old (123 ∷ c ∷ []) old (Opened words)
begun_goes old words c first second is = (λ rest. ap (λ ws. old ++ pieces_of (123 ∷ ws ++ rest)) is, subst (NonePass is_brace) (sym is) (no_brace c first second, tt))

pub none_goes : (old new : List Piece) (words : List ℕ) (c : ℕ) (next : Stand) → words ≡ [] → GoesOn old (123 ∷ c ∷ []) new next → GoesOn old (123 ∷ words ++ c ∷ []) new next
none_goes old new words c next none goes = subst (λ ws. GoesOn old (123 ∷ ws ++ c ∷ []) new next) (sym none) goes

pub left_goes : (old new : List Piece) (words none : List ℕ) (c : ℕ) → NonePass is_brace words → words ≢ [] → c ≡ 123 → new ≡ old ++ left_open words → none ≡ []
    → GoesOn old (123 ∷ words ++ c ∷ []) new (Opened none)
left_goes old new [] none c bare some same is empty = absurd (some refl)
left_goes old new (w ∷ ws) none c bare some same is empty = (
  λ rest.
      ap (λ ps. ps ++ pieces_of (123 ∷ none ++ rest)) is ∙ append_assoc old (left_open (w ∷ ws)) (pieces_of (123 ∷ none ++ rest))
      ∙ ap (λ xs. old ++ (left_open (w ∷ ws) ++ pieces_of (123 ∷ xs ++ rest))) empty
      ∙ ap (λ ps. old ++ ps) (sym (left w ws rest bare))
      ∙ ap (λ d. old ++ pieces_of (123 ∷ (w ∷ ws) ++ d ∷ rest)) (sym same)
      ∙ ap (λ cs. old ++ pieces_of (123 ∷ cs)) (sym (append_assoc (w ∷ ws) (c ∷ []) rest)),
  subst (NonePass is_brace) (sym empty) tt,
)

pub named_goes : (old new : List Piece) (words : List ℕ) (c : ℕ) → NonePass is_brace words → words ≢ [] → c ≡ 125 → new ≡ old ++ Named words ∷ []
    → GoesOn old (123 ∷ words ++ c ∷ []) new Plain
named_goes old new [] c bare some same is = absurd (some refl)
named_goes old new (w ∷ ws) c bare some same is = (
  λ rest.
      ap (λ ps. ps ++ pieces_of rest) is ∙ append_assoc old (Named (w ∷ ws) ∷ []) (pieces_of rest)
      ∙ ap (λ ps. old ++ ps) (sym (named w ws rest bare))
      ∙ ap (λ d. old ++ pieces_of (123 ∷ (w ∷ ws) ++ d ∷ rest)) (sym same)
      ∙ ap (λ cs. old ++ pieces_of (123 ∷ cs)) (sym (append_assoc (w ∷ ws) (c ∷ []) rest)),
  tt,
)

one_more : (words : List ℕ) (c : ℕ) → NonePass is_brace words → is_brace c ≡ false → NonePass is_brace (words ++ c ∷ [])
one_more [] c none plain_c = (plain_c, tt)
one_more (w ∷ ws) c none plain_c = (none.0, one_more ws c none.1 plain_c)

pub more_goes : (old : List Piece) (words more : List ℕ) (c : ℕ) → NonePass is_brace words → c ≢ 123 → c ≢ 125 → more ≡ words ++ c ∷ []
    → GoesOn old (123 ∷ words ++ c ∷ []) old (Opened more)
more_goes old words more c bare first second is = (
  λ rest. ap (λ ws. old ++ pieces_of (123 ∷ ws ++ rest)) is,
  subst (NonePass is_brace) (sym is) (one_more words c bare (no_brace c first second)),
)

pub closed_goes : (old new : List Piece) (c : ℕ) → c ≡ 125 → new ≡ old ++ Char 125 ∷ [] → GoesOn old (125 ∷ c ∷ []) new Plain
closed_goes old new c same is = (
  λ rest.
      ap (λ ps. ps ++ pieces_of rest) is ∙ append_assoc old (Char 125 ∷ []) (pieces_of rest) ∙ ap (λ d. old ++ pieces_of (125 ∷ d ∷ rest)) (sym same),
  tt,
)

pub lone_goes : (old mid new : List Piece) (c : ℕ) (next : Stand) → c ≢ 125 → mid ≡ old ++ Char 125 ∷ [] → GoesOn mid (c ∷ []) new next → GoesOn old (125 ∷ c ∷ []) new next
lone_goes old mid new c next other is goes = (
  λ rest.
      goes.0 rest ∙ ap (λ ps. ps ++ pieces_of (c ∷ rest)) is ∙ append_assoc old (Char 125 ∷ []) (pieces_of (c ∷ rest)) ∙ ap (λ ps. old ++ ps) (sym (lone c rest other)),
  goes.1,
)

-- one character further
pub goes_further : (old new : List Piece) (stand next : Stand) (c : ℕ) (left rest : List ℕ) (all : List Piece) → GoesOn old (held stand ++ c ∷ []) new next → left ≡ c ∷ rest
    → old ++ pieces_of (held stand ++ left) ≡ all → new ++ pieces_of (held next ++ rest) ≡ all
goes_further old new stand next c left rest all goes is before =
    goes.0 rest ∙ ap (λ cs. old ++ pieces_of cs) (append_assoc (held stand) (c ∷ []) rest) ∙ ap (λ cs. old ++ pieces_of (held stand ++ cs)) (sym is) ∙ before

pub some_words : (r : Bool) (words : List ℕ) → (IsTrue r ↔ (words ≡ [])) → r ≡ false → words ≢ []
some_words true words both is = absurd (false≢true (sym is))
some_words false words both is = λ none. false≢true (both.1 none)
