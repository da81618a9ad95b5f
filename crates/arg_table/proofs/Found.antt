-- The next word of a command, with the settings that were found before.
use Rattle.std.proofs.Common.{◌≡◌, ℕ, List, [], ◌∷◌, ◌++◌, Option, Some, refl, sym, ap, ◌∙◌, append_assoc}
use Rattle.std.specs.Prelude.{Result, Ok, Err}
use Rattle.arg_table.specs.declared.fault.UsageFault.{UsageFault}
use Rattle.arg_table.specs.declared.settings.Setting.{Setting}
use Rattle.arg_table.specs.declared.words.Group.{Group}
use Rattle.arg_table.specs.declared.words.OptionWord.{OptionWord}
use Rattle.texts.specs.Calls.{◌>>=◌}
use Rattle.arg_table.specs.Heads.{Next, front_taken, next_in, next_word}
use Rattle.arg_table.specs.Settings.{Taken, setting_taken}
use Rattle.arg_table.specs.Inside.{group_at, next_after}
use Rattle.arg_table.specs.Words.{before, cut, option_of}

after_twice : (xs ys : List Setting) (r : Result Next UsageFault) → next_after xs (next_after ys r) ≡ next_after (xs ++ ys) r
after_twice xs ys (Ok n) = ap (λ ss. Ok (record { settings = ss; word = n.word; behind = n.behind })) (sym (append_assoc xs ys n.settings))
after_twice xs ys (Err e) = refl

abbrev with_setting : Setting → Next → Result Next UsageFault
with_setting s n = Ok (record { settings = s ∷ n.settings; word = n.word; behind = n.behind })

abbrev after_taken : List ℕ → List Group → Option (Result (Taken Setting) UsageFault) → Result Next UsageFault
after_taken name gs taken = front_taken name taken >>= (λ t. next_in t.left gs >>= with_setting t.taken)

next_option : (w : List ℕ) (o : OptionWord) (behind : List (List ℕ)) (taken : Option (Result (Taken Setting) UsageFault)) → option_of w ≡ Some o
    → setting_taken (group_at o behind) ≡ taken → next_word (cut (w ∷ behind)) ≡ after_taken o.name (cut behind).groups taken
next_option w o behind taken is takes =
    ap (λ p. next_word (before w p (cut behind))) is ∙ ap (after_taken o.name (cut behind).groups) takes

put_one : (s : Setting) (r : Result Next UsageFault) → (r >>= with_setting s) ≡ next_after (s ∷ []) r
put_one s (Ok n) = refl
put_one s (Err e) = refl

-- a setting is found
pub next_goes : (now after : List Setting) (w : List ℕ) (o : OptionWord) (behind left : List (List ℕ)) (s : Setting) → option_of w ≡ Some o
    → setting_taken (group_at o behind) ≡ Some (Ok (record { taken = s; left = (cut left).plain })) → (cut left).groups ≡ (cut behind).groups
    → after ≡ now ++ s ∷ [] → next_after now (next_word (cut (w ∷ behind))) ≡ next_after after (next_word (cut left))
next_goes now after w o behind left s is takes same pushed =
    ap (next_after now) (next_option w o behind (Some (Ok (record { taken = s; left = (cut left).plain }))) is takes
    ∙ ap (λ gs. next_in (cut left).plain gs >>= with_setting s) (sym same) ∙ put_one s (next_word (cut left)))
    ∙ after_twice now (s ∷ []) (next_word (cut left)) ∙ ap (λ ss. next_after ss (next_word (cut left))) (sym pushed)
