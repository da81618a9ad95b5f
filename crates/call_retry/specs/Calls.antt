-- A call: its attempts, one after another, and what they do to the outside.
use Rattle.std.specs.Prelude.{◌≡◌, ◌⊎◌, ℕ, ◌+◌, ◌-◌, ℤ, List, [], ◌∷◌, ◌++◌, flat_map, Option, None, Some, Result, Ok, Err, option_map}
use Rattle.std.specs.Option.{option_to_list}
use Rattle.aws_world.specs.Moments.{Moments, with_more}
use Rattle.aws_world.specs.declared.connection.Connection.{Connection}
use Rattle.aws_world.specs.declared.message.Message.{Message}
use Rattle.http_exchange.specs.Exchanges.{Exchanged, AddsExchanges}
use Rattle.serializer.specs.Messages.{encoded}
use Rattle.serializer.specs.declared.encode_fault.EncodeFault.{EncodeFault}
use Rattle.typed_value.specs.declared.typed.Typed.{Typed}
use Rattle.call_retry.specs.Attempts.{Order, Attempt, IsAttempt, is_head_only, told_after}
use Rattle.call_retry.specs.Classes.{class_at}
use Rattle.call_retry.specs.Retries.{decide, backoff, given_back}
use Rattle.call_retry.specs.declared.call_end.CallEnd.{CallEnd}
use Rattle.call_retry.specs.declared.call_end.CallEnd.TheVariants as end
use Rattle.call_retry.specs.declared.retry.Decision.{Decision}
use Rattle.call_retry.specs.declared.retry.Decision.TheVariants as decision

-- the quota after an end: a good one gives back the cost of the last retry, or 1 where there was none
abbrev pub quota_after : ℕ → ℕ → CallEnd → ℕ
quota_after left back (end.Answer doc status) = given_back left back
quota_after left back others = left

-- no attempt follows
abbrev pub EndsWith : CallEnd → ℕ → List Attempt → CallEnd → ℕ → Type 0
EndsWith due quota rest how now = (rest ≡ []) × (how ≡ due) × (now ≡ quota)

-- How a call goes on after an attempt: it ends; or a retry is due, for which a word was given or none. Without one
-- the call ends, and the quota isn't charged.
abbrev pub GoesOn : Decision → Option ℕ → Type 0 → Type 0 → (ℕ → Type 0) → Type 0
GoesOn decision.End None Ends Fails Again = Ends
GoesOn decision.End (Some word) Ends Fails Again = ⊥
GoesOn (decision.Again cost) None Ends Fails Again = Fails
GoesOn (decision.Again cost) (Some word) Ends Fails Again = Again cost

-- A call from the attempt of this number on, where so much of the quota is left and so much is given back after a
-- good end: its attempts, its end, and the quota then.
abbrev pub CallsFrom : Order → Message → ℕ → ℕ → ℕ → List Attempt → CallEnd → ℕ → Type 0
CallsFrom order message number left back [] how now = ⊥
CallsFrom order message number left back (a ∷ rest) how now =
    (came : CallEnd) × IsAttempt order message a came
    × GoesOn (decide (class_at came) number order.limit left) a.word
    (EndsWith (told_after order.limit number came) (quota_after left back came) rest how now)
    (EndsWith end.DiceFault left rest how now)
    (λ cost. CallsFrom order message (number + 1) (left - cost) cost rest how now)

-- a call of a value that has a message, or has none: then there is no attempt. Memory may run out before the first.
abbrev pub CallOf : Order → ℕ → List Attempt → CallEnd → ℕ → Result Message EncodeFault → Type 0
CallOf order quota attempts how now (Err fault) =
    EndsWith (end.Encode fault) quota attempts how now ⊎ EndsWith end.OutOfMemory quota attempts how now
CallOf order quota attempts how now (Ok message) =
    CallsFrom order message 1 quota 1 attempts how now ⊎ EndsWith end.OutOfMemory quota attempts how now

-- these attempts are a call of the value at this quota, which ends so with the quota that is then left
abbrev pub IsCall : Order → Typed → ℕ → List Attempt → CallEnd → ℕ → Type 0
IsCall order value quota attempts how now =
    CallOf order quota attempts how now (encoded order.table order.op value order.endpoint)

-- the exchanges of attempts
abbrev pub exchanges_of : List Attempt → List Exchanged
exchanges_of attempts = flat_map (λ a. option_to_list a.exchange) attempts

-- the moments that they read
abbrev pub moments_of : List Attempt → List ℤ
moments_of attempts = flat_map (λ a. option_to_list a.moment) attempts

-- the words that they drew
abbrev pub words_of : List Attempt → List ℕ
words_of attempts = flat_map (λ a. option_to_list a.word) attempts

-- the pause after an attempt of this number
abbrev pub pause_after : ℕ → Attempt → List ℕ
pause_after number a = option_to_list (option_map (backoff number) a.word)

-- the pauses after attempts, the first of which has this number
abbrev pub pauses_from : ℕ → List Attempt → List ℕ
pauses_from number [] = []
pauses_from number (a ∷ rest) = pause_after number a ++ pauses_from (number + 1) rest

-- the pauses of a call
abbrev pub pauses_of : List Attempt → List ℕ
pauses_of attempts = pauses_from 1 attempts

-- what a call does to a link: a connection for each exchange
abbrev pub AddsConnections : Order → List Attempt → List Connection → List Connection → Type 0
AddsConnections order attempts before after =
    AddsExchanges order.target (is_head_only order) (exchanges_of attempts) before after

-- to a clock
abbrev pub AddsMoments : List Attempt → Moments → Moments → Type 0
AddsMoments attempts before after = after ≡ with_more (moments_of attempts) (pauses_of attempts) before

-- and to a source of words
abbrev pub AddsWords : List Attempt → List ℕ → List ℕ → Type 0
AddsWords attempts before after = after ≡ before ++ words_of attempts
