-- The groups behind a command, with what was found before.
use Rattle.std.proofs.Common.{◌≡◌, ℕ, List, [], ◌∷◌, ◌++◌, Option, Some, refl, sym, ap, ◌∙◌, append_assoc, append-nil}
use Rattle.std.specs.Prelude.{Result, Ok, Err}
use Rattle.arg_table.specs.declared.fault.UsageFault.{UsageFault}
use Rattle.arg_table.specs.declared.settings.Setting.{Setting}
use Rattle.arg_table.specs.declared.words.Group.{Group}
use Rattle.arg_table.specs.declared.words.OptionWord.{OptionWord}
use Rattle.texts.specs.Calls.{◌>>=◌}
use Rattle.arg_table.specs.Heads.{Tail, tail_taken, tail_in, tail_of}
use Rattle.arg_table.specs.Settings.{Taken, setting_taken}
use Rattle.arg_table.specs.Inside.{group_at, tail_after}
use Rattle.arg_table.specs.Words.{before, cut, option_of}

after_twice : (ss ts : List Setting) (gs hs : List Group) (r : Result Tail UsageFault) → tail_after ss gs (tail_after ts hs r) ≡ tail_after (ss ++ ts) (gs ++ hs) r
after_twice ss ts gs hs (Ok t) =
    ap (λ xs. Ok (record { settings = xs; groups = gs ++ (hs ++ t.groups) })) (sym (append_assoc ss ts t.settings))
    ∙ ap (λ xs. Ok (record { settings = (ss ++ ts) ++ t.settings; groups = xs })) (sym (append_assoc gs hs t.groups))
after_twice ss ts gs hs (Err e) = refl

abbrev with_part : Tail → Tail → Result Tail UsageFault
with_part part t = Ok (record { settings = part.settings ++ t.settings; groups = part.groups ++ t.groups })

abbrev after_taken : Group → List Group → Option (Result (Taken Setting) UsageFault) → Result Tail UsageFault
after_taken g gs taken = tail_taken g taken >>= (λ p. tail_in p.left gs >>= with_part p.taken)

tail_option : (w : List ℕ) (o : OptionWord) (behind : List (List ℕ)) (taken : Option (Result (Taken Setting) UsageFault)) → option_of w ≡ Some o
    → setting_taken (group_at o behind) ≡ taken → tail_of (cut (w ∷ behind)) ≡ after_taken (group_at o behind) (cut behind).groups taken
tail_option w o behind taken is takes =
    ap (λ p. tail_of (before w p (cut behind))) is ∙ ap (after_taken (group_at o behind) (cut behind).groups) takes

put_one : (part : Tail) (r : Result Tail UsageFault) → (r >>= with_part part) ≡ tail_after part.settings part.groups r
put_one part (Ok t) = refl
put_one part (Err e) = refl

-- a setting is found
pub tail_setting : (now after : List Setting) (groups : List Group) (w : List ℕ) (o : OptionWord) (behind left : List (List ℕ)) (s : Setting) → option_of w ≡ Some o
    → setting_taken (group_at o behind) ≡ Some (Ok (record { taken = s; left = (cut left).plain })) → (cut left).groups ≡ (cut behind).groups
    → after ≡ now ++ s ∷ [] → tail_after now groups (tail_of (cut (w ∷ behind))) ≡ tail_after after groups (tail_of (cut left))
tail_setting now after groups w o behind left s is takes same pushed =
    ap (tail_after now groups) (tail_option w o behind (Some (Ok (record { taken = s; left = (cut left).plain }))) is takes
    ∙ ap (λ gs. tail_in (cut left).plain gs >>= with_part (record { settings = s ∷ []; groups = [] })) (sym same)
    ∙ put_one (record { settings = s ∷ []; groups = [] }) (tail_of (cut left)))
    ∙ after_twice now (s ∷ []) groups [] (tail_of (cut left))
    ∙ ap (λ gs. tail_after (now ++ s ∷ []) gs (tail_of (cut left))) (append-nil groups) ∙ ap (λ ss. tail_after ss groups (tail_of (cut left))) (sym pushed)
