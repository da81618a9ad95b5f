-- What holds of all calls.
use Rattle.std.proofs.Common.{◌≡◌, ◌⊎◌, ℕ, ℤ, ◌+◌, ◌-◌, ◌≤◌, ◌<◌, suc, Bool, true, false, List, [], ◌∷◌, ◌++◌, length, Option, None, Some, Result, Ok, Err, All, refl, sym, ap, ◌∙◌, subst, inl, inr, arith, length-append}
use Rattle.std.specs.Prelude.{flat_map, nat_le, nat_lt, option_map, if◌then◌else◌, ◌||◌}
use Rattle.std.specs.Option.{option_to_list}
use Rattle.std.proofs.lemmas.List.Elements.{All-nil, All-cons, All-append}
use Rattle.aws_world.specs.declared.connection.Connection.{Connection}
use Rattle.aws_world.specs.declared.message.Message.{Message}
use Rattle.http_exchange.proofs.Joins.{exchanges_are_counted}
use Rattle.http_exchange.specs.Exchanges.{Exchanged}
use Rattle.http_reply.specs.declared.outcome.Outcome.{Outcome}
use Rattle.http_reply.specs.declared.outcome.Outcome.TheVariants as outcome
use Rattle.json_doc.specs.declared.doc.Doc.{Doc}
use Rattle.resp_parser.proofs.OneAnswer.{one_answer}
use Rattle.resp_parser.specs.Parsed.{IsParsed}
use Rattle.resp_parser.specs.Steps.{Comes}
use Rattle.resp_parser.specs.declared.fault.ReplyFault.{ReplyFault}
use Rattle.resp_parser.specs.declared.fault.ReplyFault.TheVariants as fault
use Rattle.serializer.specs.Messages.{encoded}
use Rattle.serializer.specs.declared.encode_fault.EncodeFault.{EncodeFault}
use Rattle.sigv4.specs.declared.signer.Signer.{Signer}
use Rattle.typed_value.specs.declared.typed.Typed.{Typed}
use Rattle.call_retry.proofs.Decisions.{below_limit}
use Rattle.call_retry.specs.Attempts.{Order, Attempt, IsAttempt, IsRequest, IsUnsent, ComesTo, ComesOf, is_head_only, read_as, told_after}
use Rattle.call_retry.specs.Calls.{GoesOn, EndsWith, CallsFrom, CallOf, IsCall, AddsConnections, exchanges_of, pause_after, pauses_from, pauses_of, quota_after}
use Rattle.call_retry.specs.Classes.{class_at, class_of}
use Rattle.call_retry.specs.Laws.{CallsAreBounded, MessageIsOne, IsRequestOf, PausesAreShort, QuotaStays, IsOneEnd, CallsEndAlike, error_in, IsRead, ClassesAgree}
use Rattle.call_retry.specs.Retries.{decide, backoff, given_back}
use Rattle.call_retry.specs.declared.call_end.CallEnd.{CallEnd}
use Rattle.call_retry.specs.declared.call_end.CallEnd.TheVariants as end
use Rattle.call_retry.specs.declared.class.Class.{Class}
use Rattle.call_retry.specs.declared.class.Class.TheVariants as class
use Rattle.call_retry.specs.declared.retry.Decision.{Decision}
use Rattle.call_retry.specs.declared.retry.Decision.TheVariants as decision

goes_cases : {P : Type 0} (d : Decision) (word : Option ℕ) (E F : Type 0) (N : ℕ → Type 0) → GoesOn d word E F N → (d ≡ decision.End → word ≡ None → E → P)
    → (word ≡ None → F → P) → ((cost : ℕ) → d ≡ decision.Again cost → N cost → P) → P
goes_cases decision.End None E F N goes ends fails again = ends refl refl goes
goes_cases decision.End (Some w) E F N goes ends fails again = absurd goes
goes_cases (decision.Again cost) None E F N goes ends fails again = fails refl goes
goes_cases (decision.Again cost) (Some w) E F N goes ends fails again = again cost refl goes

module _ (order : Order) (message : Message) where
  within : (number left back : ℕ) (attempts : List Attempt) (how : CallEnd) (now : ℕ) → number ≤ order.limit
      → CallsFrom order message number left back attempts how now → length attempts + number ≤ order.limit + 1
  within number left back [] how now low calls = absurd calls
  within number left back (a ∷ rest) how now low calls =
      let came = calls.0 in
      let one : rest ≡ [] → length (a ∷ rest) + number ≤ order.limit + 1 = λ e. (let none : length rest ≡ 0 = ap length e in omega arith) in
      goes_cases (decide (class_at came) number order.limit left) a.word
      (EndsWith (told_after order.limit number came) (quota_after left back came) rest how now)
      (EndsWith end.DiceFault left rest how now)
      (λ cost. CallsFrom order message (number + 1) (left - cost) cost rest how now)
      calls.2 (λ d w e. one e.0) (λ w e. one e.0)
      (λ cost d more.
      let room = below_limit (class_at came) number order.limit left cost d in
      let rest_within = within (number + 1) (left - cost) cost rest how now (omega arith) more in omega arith)

  -- each request of a call
  requests : (number left back : ℕ) (attempts : List Attempt) (how : CallEnd) (now : ℕ)
      → CallsFrom order message number left back attempts how now → All (IsRequestOf order message) (exchanges_of attempts)
  requests number left back [] how now calls = absurd calls
  requests number left back (a ∷ rest) how now calls =
      let came = calls.0 in
      let none : rest ≡ [] → All (IsRequestOf order message) (exchanges_of rest) =
      λ e. subst (λ made. All (IsRequestOf order message) (exchanges_of made)) (sym e) (All-nil (IsRequestOf order message)) in
      All-append (IsRequestOf order message) (option_to_list a.exchange) (exchanges_of rest) (own a.moment a.exchange came calls.1)
      (goes_cases (decide (class_at came) number order.limit left) a.word
      (EndsWith (told_after order.limit number came) (quota_after left back came) rest how now)
      (EndsWith end.DiceFault left rest how now)
      (λ cost. CallsFrom order message (number + 1) (left - cost) cost rest how now)
      calls.2 (λ d w e. none e.0) (λ w e. none e.0)
      (λ cost d more. requests (number + 1) (left - cost) cost rest how now more))
    where
      own : (moment : Option ℤ) (exchange : Option Exchanged) (came : CallEnd) → ComesOf order message moment exchange came
          → All (IsRequestOf order message) (option_to_list exchange)
      own moment None came h = All-nil (IsRequestOf order message)
      own moment (Some x) came h = All-cons (IsRequestOf order message) x [] (moment, h.0) (All-nil (IsRequestOf order message))

  quota_within : (number left back : ℕ) (attempts : List Attempt) (how : CallEnd) (now : ℕ) → left ≤ 500
      → CallsFrom order message number left back attempts how now → now ≤ 500
  quota_within number left back [] how now low calls = absurd calls
  quota_within number left back (a ∷ rest) how now low calls =
      let came = calls.0 in
      goes_cases (decide (class_at came) number order.limit left) a.word
      (EndsWith (told_after order.limit number came) (quota_after left back came) rest how now)
      (EndsWith end.DiceFault left rest how now)
      (λ cost. CallsFrom order message (number + 1) (left - cost) cost rest how now)
      calls.2 (λ d w e. subst (λ n. n ≤ 500) (sym e.2) (after came)) (λ w e. omega (arith, e.2))
      (λ cost d more. quota_within (number + 1) (left - cost) cost rest how now (omega arith) more)
    where
      after : (came : CallEnd) → quota_after left back came ≤ 500
      after (end.Answer doc status) = omega arith
      after (end.Encode e) = low
      after (end.Service e) = low
      after (end.Lost e) = low
      after end.Cut = low
      after end.Malformed = low
      after end.TooLarge = low
      after (end.BadReply path) = low
      after end.Compressed = low
      after (end.BadClock moment) = low
      after end.DiceFault = low
      after end.OutOfMemory = low

few_exchanges : (attempts : List Attempt) → length (exchanges_of attempts) ≤ length attempts
few_exchanges [] = omega arith
few_exchanges (a ∷ rest) =
    let more = few_exchanges rest in
    let all = length-append (option_to_list a.exchange) (exchanges_of rest) in
    let first = one a.exchange in
    omega (arith, more, all, first)
  where
    one : (o : Option Exchanged) → length (option_to_list o) ≤ 1
    one None = omega arith
    one (Some x) = omega arith

pub pauses_are_short : PausesAreShort
pauses_are_short attempts = from 1 attempts
  where
    one : (number : ℕ) (word : Option ℕ) → All (λ pause. pause ≤ 20000) (option_to_list (option_map (backoff number) word))
    one number None = All-nil (λ pause. pause ≤ 20000)
    one number (Some w) = All-cons (λ pause. pause ≤ 20000) (backoff number w) [] (omega arith) (All-nil (λ pause. pause ≤ 20000))

    from : (number : ℕ) (attempts : List Attempt) → All (λ pause. pause ≤ 20000) (pauses_from number attempts)
    from number [] = All-nil (λ pause. pause ≤ 20000)
    from number (a ∷ rest) = All-append (λ pause. pause ≤ 20000) (pause_after number a) (pauses_from (number + 1) rest) (one number a.word) (from (number + 1) rest)

-- a call as its value has a message or none
call_cases : {P : Type 0} (order : Order) (quota : ℕ) (attempts : List Attempt) (how : CallEnd) (now : ℕ) (due : Result Message EncodeFault)
    → CallOf order quota attempts how now due → (attempts ≡ [] → now ≡ quota → P)
    → ((message : Message) → due ≡ Ok message → CallsFrom order message 1 quota 1 attempts how now → P) → P
call_cases order quota attempts how now (Err e) (inl k) none some = none k.0 k.2
call_cases order quota attempts how now (Err e) (inr k) none some = none k.0 k.2
call_cases order quota attempts how now (Ok message) (inl k) none some = some message refl k
call_cases order quota attempts how now (Ok message) (inr k) none some = none k.0 k.2

pub quota_stays : QuotaStays
quota_stays order value quota attempts how now low is =
    call_cases order quota attempts how now (encoded order.table order.op value order.endpoint) is
    (λ e n. omega (arith, n)) (λ message e calls. quota_within order message 1 quota 1 attempts how now low calls)

pub message_is_one : MessageIsOne
message_is_one order value quota attempts how now message due is =
    call_cases order quota attempts how now (encoded order.table order.op value order.endpoint) is
    (λ e n. subst (λ made. All (IsRequestOf order message) (exchanges_of made)) (sym e) (All-nil (IsRequestOf order message)))
    (λ m e calls.
    let same : m ≡ message = cc in
    requests order message 1 quota 1 attempts how now (subst (λ x. CallsFrom order x 1 quota 1 attempts how now) same calls))

pub calls_are_bounded : CallsAreBounded
calls_are_bounded order value quota attempts how now before after low is adds =
    let made = exchanges_are_counted order.target (is_head_only order) (exchanges_of attempts) before after adds in
    let few = few_exchanges attempts in
    let all : length attempts ≤ order.limit =
    call_cases order quota attempts how now (encoded order.table order.op value order.endpoint) is
    (λ e n. (let none : length attempts ≡ 0 = ap length e in omega arith))
    (λ message e calls. (let most = within order message 1 quota 1 attempts how now low calls in omega arith)) in
    (made.0, made.1, omega (arith, made.2, few, all))

-- two of them are one, unless memory ran out
abbrev AreAlike : CallEnd → CallEnd → Type 0
AreAlike c d = (c ≡ end.OutOfMemory) ⊎ ((d ≡ end.OutOfMemory) ⊎ (c ≡ d))

alike : (due c d : CallEnd) → c ≡ due → d ≡ due → AreAlike c d
alike due c d e f = inr (inr (e ∙ sym f))

unsent_alike : (signer : Option Signer) (moment : Option ℤ) (c d : CallEnd) → IsUnsent signer moment c → IsUnsent signer moment d → AreAlike c d
unsent_alike None None c d h k = inl h
unsent_alike None (Some now) c d h k = absurd h
unsent_alike (Some signer) None c d h k = absurd h
unsent_alike (Some signer) (Some now) c d (inl h) k = inl h
unsent_alike (Some signer) (Some now) c d (inr h) (inl k) = inr (inl k)
unsent_alike (Some signer) (Some now) c d (inr h) (inr k) = alike (end.BadClock now) c d h.0 k.0

module _ (May : Result Doc ReplyFault → Type 0) (one : (a b : Result Doc ReplyFault) → May a → May b → a ≡ b) (status : ℕ) where
  reads_alike : (a b : Result Doc ReplyFault) → Comes fault.OutOfMemory May a → Comes fault.OutOfMemory May b → AreAlike (read_as status a) (read_as status b)
  reads_alike (Ok x) (Ok y) h k = inr (inr (ap (read_as status) (one (Ok x) (Ok y) h k)))
  reads_alike (Ok x) (Err f) h (inl k) = inr (inl (ap (λ e. read_as status (Err e)) k))
  reads_alike (Ok x) (Err f) h (inr k) = inr (inr (ap (read_as status) (one (Ok x) (Err f) h k)))
  reads_alike (Err e) b (inl h) k = inl (ap (λ f. read_as status (Err f)) h)
  reads_alike (Err e) (Ok y) (inr h) k = inr (inr (ap (read_as status) (one (Err e) (Ok y) h k)))
  reads_alike (Err e) (Err f) (inr h) (inl k) = inr (inl (ap (λ g. read_as status (Err g)) k))
  reads_alike (Err e) (Err f) (inr h) (inr k) = inr (inr (ap (read_as status) (one (Err e) (Err f) h k)))

comes_alike : (order : Order) (o : Outcome) (c d : CallEnd) → ComesTo order o c → ComesTo order o d → AreAlike c d
comes_alike order (outcome.Whole reply) c d h k =
    let read = reads_alike (IsParsed order.table order.op reply) (one_answer order.table order.op reply) reply.status h.0 k.0 h.1 k.1 in
    subst (λ x. AreAlike x d) (sym h.2) (subst (AreAlike (read_as reply.status h.0)) (sym k.2) read)
comes_alike order (outcome.Lost kind) c d h k = alike (end.Lost kind) c d h k
comes_alike order outcome.Cut c d h k = alike end.Cut c d h k
comes_alike order outcome.Malformed c d h k = alike end.Malformed c d h k
comes_alike order outcome.TooLarge c d h k = alike end.TooLarge c d h k
comes_alike order outcome.OutOfMemory c d h k = inl h

attempts_alike : (order : Order) (message : Message) (moment : Option ℤ) (exchange : Option Exchanged) (c d : CallEnd)
    → ComesOf order message moment exchange c → ComesOf order message moment exchange d → AreAlike c d
attempts_alike order message moment None c d h k = unsent_alike order.signer moment c d h k
attempts_alike order message moment (Some x) c d h k = comes_alike order x.outcome c d h.1 k.1

memory_ends : (word : Option ℕ) (quota : ℕ) (rest : List Attempt) (how : CallEnd) (now : ℕ) (F : Type 0) (N : ℕ → Type 0)
    → GoesOn decision.End word (EndsWith end.OutOfMemory quota rest how now) F N → how ≡ end.OutOfMemory
memory_ends None quota rest how now F N goes = goes.1
memory_ends (Some w) quota rest how now F N goes = absurd goes

both_go : {P : Type 0} (d : Decision) (word : Option ℕ) (E F G H : Type 0) (M N : ℕ → Type 0) → GoesOn d word E F M → GoesOn d word G H N → (E → G → P)
    → (F → H → P) → ((cost : ℕ) → M cost → N cost → P) → P
both_go decision.End None E F G H M N h k ends fails again = ends h k
both_go decision.End (Some w) E F G H M N h k ends fails again = absurd h
both_go (decision.Again cost) None E F G H M N h k ends fails again = fails h k
both_go (decision.Again cost) (Some w) E F G H M N h k ends fails again = again cost h k

one_due : (due how other : CallEnd) (quota now left : ℕ) (rest : List Attempt) → EndsWith due quota rest how now → EndsWith due quota rest other left
    → IsOneEnd how now other left
one_due due how other quota now left rest h k = inr (inr (h.1 ∙ sym k.1, h.2 ∙ sym k.2))

module _ (order : Order) (message : Message) where
  abbrev GoesFrom : ℕ → ℕ → ℕ → Option ℕ → List Attempt → CallEnd → CallEnd → ℕ → Type 0
  GoesFrom number left back word rest came how now =
      GoesOn (decide (class_at came) number order.limit left) word
      (EndsWith (told_after order.limit number came) (quota_after left back came) rest how now)
      (EndsWith end.DiceFault left rest how now)
      (λ cost. CallsFrom order message (number + 1) (left - cost) cost rest how now)

  no_memory : (number left back : ℕ) (word : Option ℕ) (rest : List Attempt) (came how : CallEnd) (now : ℕ) → came ≡ end.OutOfMemory
      → GoesFrom number left back word rest came how now → how ≡ end.OutOfMemory
  no_memory number left back word rest came how now e goes =
      memory_ends word left rest how now (EndsWith end.DiceFault left rest how now) (λ cost. CallsFrom order message (number + 1) (left - cost) cost rest how now)
      (subst (λ c. GoesFrom number left back word rest c how now) e goes)

  calls_alike : (number left back : ℕ) (attempts : List Attempt) (how other : CallEnd) (now least : ℕ)
      → CallsFrom order message number left back attempts how now → CallsFrom order message number left back attempts other least
      → IsOneEnd how now other least
  calls_alike number left back [] how other now least h k = absurd h
  calls_alike number left back (a ∷ rest) how other now least h k =
      elim (attempts_alike order message a.moment a.exchange h.0 k.0 h.1 k.1) [
        | inl e ↦ inl (no_memory number left back a.word rest h.0 how now e h.2)
        | inr (inl e) ↦ inr (inl (no_memory number left back a.word rest k.0 other least e k.2))
        | inr (inr e) ↦ both_go (decide (class_at h.0) number order.limit left) a.word
            (EndsWith (told_after order.limit number h.0) (quota_after left back h.0) rest how now)
            (EndsWith end.DiceFault left rest how now)
            (EndsWith (told_after order.limit number h.0) (quota_after left back h.0) rest other least)
            (EndsWith end.DiceFault left rest other least)
            (λ cost. CallsFrom order message (number + 1) (left - cost) cost rest how now)
            (λ cost. CallsFrom order message (number + 1) (left - cost) cost rest other least)
            h.2 (subst (λ c. GoesFrom number left back a.word rest c other least) (sym e) k.2)
            (one_due (told_after order.limit number h.0) how other (quota_after left back h.0) now least rest)
            (one_due end.DiceFault how other left now least rest)
            (λ cost. calls_alike (number + 1) (left - cost) cost rest how other now least)
      ]

due_alike : (order : Order) (quota : ℕ) (attempts : List Attempt) (how other : CallEnd) (now left : ℕ) (due : Result Message EncodeFault)
    → CallOf order quota attempts how now due → CallOf order quota attempts other left due → IsOneEnd how now other left
due_alike order quota attempts how other now left (Err e) (inl h) (inl k) = one_due (end.Encode e) how other quota now left attempts h k
due_alike order quota attempts how other now left (Err e) (inl h) (inr k) = inr (inl k.1)
due_alike order quota attempts how other now left (Err e) (inr h) k = inl h.1
due_alike order quota attempts how other now left (Ok message) (inl h) (inl k) = calls_alike order message 1 quota 1 attempts how other now left h k
due_alike order quota attempts how other now left (Ok message) (inl h) (inr k) = inr (inl k.1)
due_alike order quota attempts how other now left (Ok message) (inr h) k = inl h.1

pub calls_end_alike : CallsEndAlike
calls_end_alike order value quota attempts how other now left h k =
    due_alike order quota attempts how other now left (encoded order.table order.op value order.endpoint) h k

-- the class goes by what the attempt came to
classed : (o : Outcome) (due came : CallEnd) → came ≡ due → class_at due ≡ class_of o (error_in due) → class_at came ≡ class_of o (error_in came)
classed o due came e same = subst (λ c. class_at c ≡ class_of o (error_in c)) (sym e) same

pub classes_agree : ClassesAgree
classes_agree order (outcome.Whole reply) came (Ok d, h, e) read = classed (outcome.Whole reply) (end.Answer d reply.status) came e refl
classes_agree order (outcome.Whole reply) came (Err (fault.Service s), h, e) read = classed (outcome.Whole reply) (end.Service s) came e refl
classes_agree order (outcome.Whole reply) came (Err (fault.BadBody path), h, e) read = absurd (subst IsRead e read)
classes_agree order (outcome.Whole reply) came (Err fault.Compressed, h, e) read = absurd (subst IsRead e read)
classes_agree order (outcome.Whole reply) came (Err fault.OutOfMemory, h, e) read = absurd (subst IsRead e read)
classes_agree order (outcome.Lost kind) came e read = classed (outcome.Lost kind) (end.Lost kind) came e refl
classes_agree order outcome.Cut came e read = classed outcome.Cut end.Cut came e refl
classes_agree order outcome.Malformed came e read = classed outcome.Malformed end.Malformed came e refl
classes_agree order outcome.TooLarge came e read = classed outcome.TooLarge end.TooLarge came e refl
classes_agree order outcome.OutOfMemory came e read = absurd (subst IsRead e read)
