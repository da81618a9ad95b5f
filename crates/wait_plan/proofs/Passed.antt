-- Acceptors that didn't match are passed over.
use Rattle.std.proofs.Common.{◌≡◌, ℕ, ◌+◌, ◌<◌, List, ◌∷◌, length, get_or, drop, Bool, true, false, refl, ap, ◌∙◌}
use Rattle.std.proofs.lemmas.List.{drop_more}
use Rattle.model_files.specs.declared.waiters.State.{State}
use Rattle.model_files.specs.declared.waiters.State.TheVariants.{Success}
use Rattle.wait_plan.specs.Matches.{first_match}

first_match_more : (s : State) (ss : List State) (m : Bool) (ms : List Bool) → m ≡ false → first_match (s ∷ ss) (m ∷ ms) ≡ first_match ss ms
first_match_more s ss true ms is = absurd cc
first_match_more s ss false ms is = refl

pub passed : (states : List State) (matched : List Bool) (at : ℕ) → at < length states → at < length matched → get_or matched at false ≡ false
    → first_match (drop at states) (drop at matched) ≡ first_match (drop (at + 1) states) (drop (at + 1) matched)
passed states matched at within there is =
    ap (λ ss. first_match ss (drop at matched)) (drop_more states at Success within)
    ∙ ap (λ ms. first_match (get_or states at Success ∷ drop (at + 1) states) ms) (drop_more matched at false there)
    ∙ first_match_more (get_or states at Success) (drop (at + 1) states) (get_or matched at false) (drop (at + 1) matched) is
