-- Bytes that are sent, received or written in pieces.
use Rattle.std.proofs.Common.{◌≡◌, ℕ, ◌+◌, List, [], ◌++◌, take, drop, Option, sym, ap, ◌∙◌, subst, append_assoc, append-nil}
use Rattle.std.proofs.Math.Seq.{take-add}
use Rattle.aws_world.specs.Told.{Tells}
use Rattle.aws_world.specs.declared.connection.Connection.{Connection}
use Rattle.aws_world.specs.Connection.{on_last, more_sent, more_received}
use Rattle.aws_world.proofs.Told.{tells_none, tells_appended_both, tells_appended_none}
use Rattle.aws_world.proofs.Last.{on_last_idle, tells_changed_both}

more_sent_none : (c : Connection) → more_sent [] c ≡ c
more_sent_none c = ap (λ bytes. record c { sent = bytes }) (append-nil c.sent)

more_received_none : (c : Connection) → more_received [] c ≡ c
more_received_none c = ap (λ bytes. record c { received = bytes }) (append-nil c.received)

-- two pieces sent are one
pub more_sent_both : (xs ys : List ℕ) (c : Connection) → more_sent ys (more_sent xs c) ≡ more_sent (xs ++ ys) c
more_sent_both xs ys c = ap (λ bytes. record c { sent = bytes }) (append_assoc c.sent xs ys)

-- two pieces received are one
pub more_received_both : (xs ys : List ℕ) (c : Connection) → more_received ys (more_received xs c) ≡ more_received (xs ++ ys) c
more_received_both xs ys c = ap (λ bytes. record c { received = bytes }) (append_assoc c.received xs ys)

-- the part up to a place, and then a piece of the rest
next_piece : (bytes rest : List ℕ) (at count : ℕ) → rest ≡ drop at bytes → take at bytes ++ take count rest ≡ take (at + count) bytes
next_piece bytes rest at count e = ap (λ r. take at bytes ++ take count r) e ∙ sym (take-add at count bytes)

-- nothing sent so far
pub tells_sent_none : (told : Option (List Connection)) → Tells told told (λ before after. after ≡ on_last (more_sent []) before)
tells_sent_none told =
    tells_none (λ x z. z ≡ on_last (more_sent []) x) told (λ x. sym (on_last_idle (more_sent []) x more_sent_none))

-- sent up to a place, and then a piece of the rest
pub tells_sent_more : (bytes rest : List ℕ) (at count : ℕ) (first mid last : Option (List Connection)) → rest ≡ drop at bytes
    → Tells first mid (λ before after. after ≡ on_last (more_sent (take at bytes)) before)
    → Tells mid last (λ before after. after ≡ on_last (more_sent (take count rest)) before)
    → Tells first last (λ before after. after ≡ on_last (more_sent (take (at + count) bytes)) before)
tells_sent_more bytes rest at count first mid last e p q =
    tells_changed_both (more_sent (take at bytes)) (more_sent (take count rest)) (more_sent (take (at + count) bytes)) first mid last p q (λ c. more_sent_both (take at bytes) (take count rest) c ∙ ap (λ xs. more_sent xs c) (next_piece bytes rest at count e))

-- nothing received so far
pub tells_received_none : (told : Option (List Connection)) → Tells told told (λ before after. after ≡ on_last (more_received []) before)
tells_received_none told =
    tells_none (λ x z. z ≡ on_last (more_received []) x) told (λ x. sym (on_last_idle (more_received []) x more_received_none))

-- received some bytes, and then a piece
pub tells_received_more : (bytes piece : List ℕ) (first mid last : Option (List Connection))
    → Tells first mid (λ before after. after ≡ on_last (more_received bytes) before)
    → Tells mid last (λ before after. after ≡ on_last (more_received piece) before)
    → Tells first last (λ before after. after ≡ on_last (more_received (bytes ++ piece)) before)
tells_received_more bytes piece first mid last p q =
    tells_changed_both (more_received bytes) (more_received piece) (more_received (bytes ++ piece)) first mid last p q (more_received_both bytes piece)

-- nothing written so far
pub tells_written_none : (told : Option (List ℕ)) → Tells told told (λ before after. after ≡ before ++ [])
tells_written_none told = tells_appended_none told

-- written up to a place, and then a piece of the rest
pub tells_written_more : (bytes rest : List ℕ) (at count : ℕ) (first mid last : Option (List ℕ)) → rest ≡ drop at bytes
    → Tells first mid (λ before after. after ≡ before ++ take at bytes)
    → Tells mid last (λ before after. after ≡ before ++ take count rest)
    → Tells first last (λ before after. after ≡ before ++ take (at + count) bytes)
tells_written_more bytes rest at count first mid last e p q =
    subst (λ written. Tells first last (λ before after. after ≡ before ++ written)) (next_piece bytes rest at count e)
    (tells_appended_both (take at bytes) (take count rest) first mid last p q)
