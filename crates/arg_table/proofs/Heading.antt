-- A line as a command, with the settings that are gathered on the way.
use Rattle.std.proofs.Common.{◌≡◌, ℕ, Bool, true, false, if◌then◌else◌, List, [], ◌++◌, refl, sym, ap, ◌∙◌, append_assoc}
use Rattle.std.specs.Prelude.{Result, Ok, Err}
use Rattle.arg_table.specs.declared.command.CommandHead.{CommandHead}
use Rattle.arg_table.specs.declared.fault.UsageFault.{UsageFault}
use Rattle.arg_table.specs.declared.settings.Setting.{Setting}
use Rattle.texts.specs.Calls.{◌>>=◌}
use Rattle.arg_table.specs.Heads.{Next, Tail, next_word, tail_of, is_wait, named_by, head_with, head_of}
use Rattle.arg_table.specs.Inside.{next_after, tail_after}
use Rattle.arg_table.specs.Words.{cut}

abbrev at_waiter : List Setting → Next → Result Next UsageFault
at_waiter settings waiter = Ok (record { settings = settings ++ waiter.settings; word = waiter.word; behind = waiter.behind })

-- settings that were found before stay in front
named_behind : (settings : List Setting) (n : Next) → next_after settings (named_by n) ≡ named_by (record n { settings = settings ++ n.settings })
named_behind settings n = by (is_wait n.word) (next_word n.behind)
  where
    by : (b : Bool) (r : Result Next UsageFault) → next_after settings (if b then r >>= at_waiter n.settings else Ok n)
        ≡ (if b then r >>= at_waiter (settings ++ n.settings) else Ok (record n { settings = settings ++ n.settings }))
    by true (Ok m) = ap (λ ss. Ok (record { settings = ss; word = m.word; behind = m.behind })) (sym (append_assoc settings n.settings m.settings))
    by true (Err e) = refl
    by false r = refl

abbrev after_tail : Next → Next → Next → Tail → Result CommandHead UsageFault
after_tail service operation named tail = Ok (head_with tail.settings service.word named.word (is_wait operation.word) tail.groups)

abbrev after_named : Next → Next → Next → Result CommandHead UsageFault
after_named service operation named = tail_after named.settings [] (tail_of named.behind) >>= after_tail service operation named

abbrev after_operation : Next → Next → Result CommandHead UsageFault
after_operation service operation = named_by operation >>= after_named service operation

abbrev after_service : Next → Result CommandHead UsageFault
after_service service = next_after service.settings (next_word service.behind) >>= after_operation service

abbrev tail_read : Next → Next → Next → Result Tail UsageFault → Result CommandHead UsageFault
tail_read service operation named r =
    r >>= (λ tail. Ok (head_with (service.settings ++ named.settings ++ tail.settings) service.word named.word (is_wait operation.word) tail.groups))

abbrev named_read : Next → Next → Result Next UsageFault → Result CommandHead UsageFault
named_read service operation r = r >>= (λ named. tail_read service operation named (tail_of named.behind))

same_tail : (s o n : Next) (r : Result Tail UsageFault) → tail_read s o n r ≡ (tail_after (s.settings ++ n.settings) [] r >>= after_tail s o n)
same_tail s o n (Ok t) = refl
same_tail s o n (Err e) = refl

same_named : (s o : Next) (r : Result Next UsageFault) → named_read s o r ≡ (next_after s.settings r >>= after_named s o)
same_named s o (Ok n) = same_tail s o n (tail_of n.behind)
same_named s o (Err e) = refl

same_operation : (s : Next) (r : Result Next UsageFault) → (r >>= (λ o. named_read s o (named_by o))) ≡ (next_after s.settings r >>= after_operation s)
same_operation s (Ok o) = same_named s o (named_by o) ∙ ap (λ r. r >>= after_named s o) (named_behind s.settings o)
same_operation s (Err e) = refl

same_service : (r : Result Next UsageFault) → (r >>= (λ s. next_word s.behind >>= (λ o. named_read s o (named_by o)))) ≡ (next_after [] r >>= after_service)
same_service (Ok s) = same_operation s (next_word s.behind)
same_service (Err e) = refl

head_runs : (words : List (List ℕ)) → head_of words ≡ (next_after [] (next_word (cut words)) >>= after_service)
unfolding head_of
head_runs words = same_service (next_word (cut words))

-- the steps of the code, in a row
pub whole_head : (words : List (List ℕ)) (service : Next) → next_after [] (next_word (cut words)) ≡ Ok service
    → (operation : Next) → next_after service.settings (next_word service.behind) ≡ Ok operation → (named : Next) → named_by operation ≡ Ok named
    → (tail : Tail) → tail_after named.settings [] (tail_of named.behind) ≡ Ok tail
    → head_of words ≡ Ok (head_with tail.settings service.word named.word (is_wait operation.word) tail.groups)
whole_head words service one operation two named three tail four =
    head_runs words ∙ ap (λ r. r >>= after_service) one ∙ ap (λ r. r >>= after_operation service) two
    ∙ ap (λ r. r >>= after_named service operation) three ∙ ap (λ r. r >>= after_tail service operation named) four
