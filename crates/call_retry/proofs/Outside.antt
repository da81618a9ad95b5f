-- What attempts do to the outside, one attempt further.
use Rattle.std.proofs.Common.{◌≡◌, ℕ, ◌+◌, suc, ℤ, List, [], ◌∷◌, ◌++◌, length, Option, refl, sym, ap, ◌∙◌, subst, append_assoc, append-nil, add-zero, arith}
use Rattle.std.specs.Prelude.{flat_map, option_map}
use Rattle.std.specs.Option.{option_to_list}
use Rattle.std.proofs.lemmas.Grind.{flat_map-append}
use Rattle.aws_world.proofs.Moments.{tells_moments_none}
use Rattle.aws_world.proofs.Told.{tells_both, tells_weaker, tells_none}
use Rattle.aws_world.specs.Moments.{Moments, with_more}
use Rattle.aws_world.specs.Told.{Tells}
use Rattle.aws_world.specs.declared.connection.Connection.{Connection}
use Rattle.http_exchange.proofs.Joins.{tells_exchanges_both}
use Rattle.http_exchange.specs.Exchanges.{AddsExchanges}
use Rattle.call_retry.specs.Attempts.{Order, Attempt, is_head_only}
use Rattle.call_retry.specs.Calls.{AddsConnections, AddsMoments, AddsWords, exchanges_of, moments_of, words_of, pause_after, pauses_from, pauses_of}
use Rattle.call_retry.specs.Retries.{backoff}

-- what all give, and what one more gives
pub one_more : {X A : Type 0} (f : X → List A) (xs : List X) (x : X) → flat_map f (xs ++ x ∷ []) ≡ flat_map f xs ++ f x
one_more f xs x = flat_map-append f xs (x ∷ []) ∙ ap (λ ys. flat_map f xs ++ ys) (append-nil (f x))

pub one_pause_more : (number : ℕ) (xs : List Attempt) (a : Attempt)
    → pauses_from number (xs ++ a ∷ []) ≡ pauses_from number xs ++ pause_after (number + length xs) a
one_pause_more number [] a =
    append-nil (pause_after number a) ∙ ap (λ n. pause_after n a) (sym (add-zero number))
one_pause_more number (x ∷ xs) a =
    let next : (number + 1) + length xs ≡ number + suc (length xs) = omega arith in
    ap (λ ps. pause_after number x ++ ps) (one_pause_more (number + 1) xs a ∙ ap (λ n. pauses_from (number + 1) xs ++ pause_after n a) next)
    ∙ sym (append_assoc (pause_after number x) (pauses_from (number + 1) xs) (pause_after (number + suc (length xs)) a))

pub tells_connections_more : (order : Order) (xs : List Attempt) (a : Attempt) (first mid last : Option (List Connection))
    → Tells first mid (AddsConnections order xs) → Tells mid last (AddsExchanges order.target (is_head_only order) (option_to_list a.exchange))
    → Tells first last (AddsConnections order (xs ++ a ∷ []))
tells_connections_more order xs a first mid last p q =
    subst (λ exchanges. Tells first last (AddsExchanges order.target (is_head_only order) exchanges)) (sym (one_more (λ (x : Attempt). option_to_list x.exchange) xs a))
    (tells_exchanges_both order.target (is_head_only order) (exchanges_of xs) (option_to_list a.exchange) first mid last p q)

-- more moments and pauses, twice
more_twice : (ms ns : List ℤ) (ps qs : List ℕ) (x : Moments) → with_more ns qs (with_more ms ps x) ≡ with_more (ms ++ ns) (ps ++ qs) x
more_twice ms ns ps qs x =
    λ i. record { given = append_assoc x.given ms ns i; pauses = append_assoc x.pauses ps qs i }

pub tells_more_twice : (ms ns : List ℤ) (ps qs : List ℕ) (first mid last : Option Moments) → Tells first mid (λ before after. after ≡ with_more ms ps before)
    → Tells mid last (λ before after. after ≡ with_more ns qs before) → Tells first last (λ before after. after ≡ with_more (ms ++ ns) (ps ++ qs) before)
tells_more_twice ms ns ps qs first mid last p q =
    tells_both (λ x y. y ≡ with_more ms ps x) (λ y z. z ≡ with_more ns qs y) (λ x z. z ≡ with_more (ms ++ ns) (ps ++ qs) x) first mid last p q
    (λ x y z e f. f ∙ ap (with_more ns qs) e ∙ more_twice ms ns ps qs x)

pub tells_moments_more : (xs : List Attempt) (a : Attempt) (number : ℕ) (first mid next last : Option Moments) → 1 + length xs ≡ number
    → Tells first mid (AddsMoments xs) → Tells mid next (λ before after. after ≡ with_more (option_to_list a.moment) [] before)
    → Tells next last (λ before after. after ≡ with_more [] (option_to_list (option_map (backoff number) a.word)) before)
    → Tells first last (AddsMoments (xs ++ a ∷ []))
tells_moments_more xs a number first mid next last count p q r =
    let ms = moments_of xs in
    let ps = pauses_of xs in
    let m = option_to_list a.moment in
    let pause = pause_after number a in
    let all = tells_more_twice (ms ++ m) [] (ps ++ []) pause first next last (tells_more_twice ms m ps [] first mid next p q) r in
    let moments : (ms ++ m) ++ [] ≡ moments_of (xs ++ a ∷ []) = append-nil (ms ++ m) ∙ sym (one_more (λ (x : Attempt). option_to_list x.moment) xs a) in
    let pauses : (ps ++ []) ++ pause ≡ pauses_of (xs ++ a ∷ []) =
    ap (λ qs. qs ++ pause) (append-nil ps) ∙ ap (λ n. ps ++ pause_after n a) (sym count) ∙ sym (one_pause_more 1 xs a) in
    tells_weaker (λ x z. z ≡ with_more ((ms ++ m) ++ []) ((ps ++ []) ++ pause) x) (AddsMoments (xs ++ a ∷ [])) first last all
    (λ x z e. e ∙ (λ i. with_more (moments i) (pauses i) x))

pub tells_words_more : (xs : List Attempt) (a : Attempt) (first mid last : Option (List ℕ)) → Tells first mid (AddsWords xs)
    → Tells mid last (λ before after. after ≡ before ++ option_to_list a.word) → Tells first last (AddsWords (xs ++ a ∷ []))
tells_words_more xs a first mid last p q =
    let word = option_to_list a.word in
    tells_both (AddsWords xs) (λ y z. z ≡ y ++ word) (AddsWords (xs ++ a ∷ [])) first mid last p q
    (λ x y z e f. f ∙ ap (λ w. w ++ word) e ∙ append_assoc x (words_of xs) word ∙ ap (λ ws. x ++ ws) (sym (one_more (λ (b : Attempt). option_to_list b.word) xs a)))

-- before the first attempt
pub tells_no_connection : (order : Order) (told : Option (List Connection)) → Tells told told (AddsConnections order [])
tells_no_connection order told = tells_none (AddsConnections order []) told (λ x. refl)

pub tells_no_moment : (told : Option Moments) → Tells told told (AddsMoments [])
tells_no_moment told = tells_moments_none told

pub tells_no_word : (told : Option (List ℕ)) → Tells told told (AddsWords [])
tells_no_word told = tells_none (AddsWords []) told (λ x. sym (append-nil x))
