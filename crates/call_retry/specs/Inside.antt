-- Words of private contracts alone; no public contract cites them: what a call asks as the code has it, and what
-- one step of it does.
use Rattle.std.specs.Prelude.{◌≡◌, ℕ, ◌-◌, ◌<◌, ℤ, List, Option, Some, None, Result, Ok, Err}
use Rattle.std.specs.Option.{option_copied}
use Rattle.aws_world.specs.declared.message.Message.{Message}
use Rattle.serializer.specs.declared.encode_fault.EncodeFault.{EncodeFault}
use Rattle.serializer.specs.declared.encode_fault.EncodeFault.TheVariants as encode
use Rattle.sigv4.specs.declared.sign_fault.SignFault.{SignFault}
use Rattle.sigv4.specs.declared.sign_fault.SignFault.TheVariants as sign
use Rattle.sigv4.specs.declared.signer.Signer.{Signer}
use Rattle.call_retry.specs.Attempts.{Order, IsRequest, IsUnsent, told_after}
use Rattle.call_retry.specs.Calls.{GoesOn, quota_after}
use Rattle.call_retry.specs.Ends.{IsDiceFault}
use Rattle.call_retry.specs.Classes.{class_at}
use Rattle.call_retry.specs.Retries.{decide}
use Rattle.call_retry.specs.declared.asking.Asking.{Asking}
use Rattle.call_retry.specs.declared.call_end.CallEnd.{CallEnd}
use Rattle.call_retry.specs.declared.call_end.CallEnd.TheVariants as end
use Rattle.call_retry.specs.declared.steps.Step.{Step}
use Rattle.call_retry.specs.declared.steps.Step.TheVariants as step
use Rattle.call_retry.specs.declared.steps.Turn.{Turn}

abbrev pub order_asked : Asking → Order
order_asked asking = record {
  table = asking.model.now;
  op = asking.op.now;
  endpoint = asking.endpoint.now;
  target = asking.target.now;
  signer = option_copied asking.signer;
  limit = asking.limit;
}

-- why no request was made, as an end
abbrev pub unsent_as : SignFault → CallEnd
unsent_as (sign.BadClock now) = end.BadClock now
unsent_as sign.OutOfMemory = end.OutOfMemory

-- why a value has no message, as an end
abbrev pub unencoded_as : EncodeFault → CallEnd
unencoded_as encode.OutOfMemory = end.OutOfMemory
unencoded_as fault = end.Encode fault

-- the request that was made, or why none was
abbrev pub IsMade : Option Signer → Message → Option ℤ → Result (List ℕ) SignFault → Type 0
IsMade signer message moment (Ok request) = IsRequest signer message moment request
IsMade signer message moment (Err fault) = IsUnsent signer moment (unsent_as fault)

-- what follows an attempt that came to this, with the word that was drawn: an end, or a retry
abbrev pub StepsTo : Turn → ℕ → CallEnd → Option ℕ → ℕ → Step → Type 0
StepsTo turn left came word now (step.Ends how) =
    GoesOn (decide (class_at came) turn.number turn.limit left) word
    ((how ≡ told_after turn.limit turn.number came) × (now ≡ quota_after left turn.back came))
    ((how ≡ end.DiceFault) × (now ≡ left)) (λ cost. ⊥)
StepsTo turn left came word now (step.Again back) =
    GoesOn (decide (class_at came) turn.number turn.limit left) word ⊥ ⊥
    (λ cost. (back ≡ cost) × (now ≡ left - cost))

-- where another attempt follows, it is allowed
abbrev pub HasRoom : Turn → Step → Type 0
HasRoom turn (step.Ends how) = Unit {0}
HasRoom turn (step.Again back) = turn.number < turn.limit

-- a retry at this cost, with the word that was drawn, or none
abbrev pub Retries : ℕ → ℕ → Option ℕ → ℕ → Step → Type 0
Retries cost left (Some word) now (step.Again back) = (back ≡ cost) × (now ≡ left - cost)
Retries cost left None now (step.Ends how) = (how ≡ end.DiceFault) × (now ≡ left)
Retries cost left (Some word) now (step.Ends how) = ⊥
Retries cost left None now (step.Again back) = ⊥

-- the call ends for want of a word, and not since the attempt came to that
abbrev pub IsWordLack : CallEnd → Step → Type 0
IsWordLack came made = ¬ IsDiceFault came × (made ≡ step.Ends end.DiceFault)
