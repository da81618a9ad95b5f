-- What settings say together, one after another.
use Rattle.std.proofs.Common.{◌≡◌, ℕ, Bool, true, false, ◌&&◌, List, [], ◌∷◌, ◌++◌, refl, sym, ap, ◌∙◌, append-nil}
use Rattle.std.specs.List.{list_all}
use Rattle.std.proofs.lemmas.List.Folds.{list_all-append}
use Rattle.std.proofs.Math.Bool.{and-true, and-false}
use Rattle.arg_table.specs.declared.command.CommandHead.{CommandHead}
use Rattle.arg_table.specs.declared.settings.Setting.{Setting}
use Rattle.arg_table.specs.declared.settings.Setting.TheVariants.{Value, NoSignRequest, NoPaginate}
use Rattle.arg_table.specs.declared.words.Group.{Group}
use Rattle.arg_table.specs.Heads.{head_with}
use Rattle.arg_table.specs.Settings.{pairs_in, keeps_signature, keeps_paging}

pairs_in-append : (ss ts : List Setting) → pairs_in (ss ++ ts) ≡ pairs_in ss ++ pairs_in ts
pairs_in-append [] ts = refl
pairs_in-append (Value name value ∷ ss) ts = ap (λ ps. (name, value) ∷ ps) (pairs_in-append ss ts)
pairs_in-append (NoSignRequest ∷ ss) ts = pairs_in-append ss ts
pairs_in-append (NoPaginate ∷ ss) ts = pairs_in-append ss ts

kept : (p : Setting → Bool) (ss : List Setting) (s : Setting) → p s ≡ true → list_all p ss ≡ list_all p (ss ++ s ∷ [])
kept p ss s passes =
    sym (list_all-append p ss (s ∷ []) ∙ ap (λ b. list_all p ss && (b && true)) passes ∙ and-true (list_all p ss))

lost : (p : Setting → Bool) (ss : List Setting) (s : Setting) → p s ≡ false → false ≡ list_all p (ss ++ s ∷ [])
lost p ss s fails =
    sym (list_all-append p ss (s ∷ []) ∙ ap (λ b. list_all p ss && (b && true)) fails ∙ and-false (list_all p ss))

no_pair : (ss : List Setting) (s : Setting) → pairs_in (s ∷ []) ≡ [] → pairs_in ss ≡ pairs_in (ss ++ s ∷ [])
no_pair ss s none = sym (pairs_in-append ss (s ∷ []) ∙ ap (λ ps. pairs_in ss ++ ps) none ∙ append-nil (pairs_in ss))

abbrev head_made : List ℕ → List ℕ → Bool → List Group → List (List ℕ × List ℕ) → Bool → Bool → CommandHead
head_made service operation wait tail pairs sign paginate = record {
  pairs = pairs;
  sign = sign;
  paginate = paginate;
  service = service;
  operation = operation;
  wait = wait;
  tail = tail;
}

-- one setting more
module _ (ss : List Setting) (service operation : List ℕ) (wait : Bool) (tail : List Group) (made : CommandHead)
    (so_far : made ≡ head_with ss service operation wait tail) where
  same_head : (pairs : List (List ℕ × List ℕ)) (sign paginate : Bool) (s : Setting) → pairs ≡ pairs_in (ss ++ s ∷ []) → sign ≡ list_all keeps_signature (ss ++ s ∷ [])
      → paginate ≡ list_all keeps_paging (ss ++ s ∷ []) → record made { pairs = pairs; sign = sign; paginate = paginate } ≡ head_with (ss ++ s ∷ []) service operation wait tail
  same_head pairs sign paginate s one two three =
      ap (λ m. head_made m.service m.operation m.wait m.tail pairs sign paginate) so_far
      ∙ ap (λ ps. head_made service operation wait tail ps sign paginate) one
      ∙ ap (λ b. head_made service operation wait tail (pairs_in (ss ++ s ∷ [])) b paginate) two
      ∙ ap (head_made service operation wait tail (pairs_in (ss ++ s ∷ [])) (list_all keeps_signature (ss ++ s ∷ []))) three

  pub with_value : (s : Setting) (name value : List ℕ) (pairs : List (List ℕ × List ℕ)) → s ≡ Value name value → pairs ≡ made.pairs ++ (name, value) ∷ []
      → record made { pairs = pairs } ≡ head_with (ss ++ s ∷ []) service operation wait tail
  with_value s name value pairs is pushed =
      same_head pairs made.sign made.paginate (Value name value)
      (pushed ∙ ap (λ m. m.pairs ++ (name, value) ∷ []) so_far ∙ sym (pairs_in-append ss (Value name value ∷ [])))
      (ap (λ m. m.sign) so_far ∙ kept keeps_signature ss (Value name value) refl)
      (ap (λ m. m.paginate) so_far ∙ kept keeps_paging ss (Value name value) refl)
      ∙ ap (λ t. head_with (ss ++ t ∷ []) service operation wait tail) (sym is)

  pub without_signature : (s : Setting) → s ≡ NoSignRequest → record made { sign = false } ≡ head_with (ss ++ s ∷ []) service operation wait tail
  without_signature s is =
      same_head made.pairs false made.paginate NoSignRequest
      (ap (λ m. m.pairs) so_far ∙ no_pair ss NoSignRequest refl)
      (lost keeps_signature ss NoSignRequest refl)
      (ap (λ m. m.paginate) so_far ∙ kept keeps_paging ss NoSignRequest refl)
      ∙ ap (λ t. head_with (ss ++ t ∷ []) service operation wait tail) (sym is)

  pub without_paging : (s : Setting) → s ≡ NoPaginate → record made { paginate = false } ≡ head_with (ss ++ s ∷ []) service operation wait tail
  without_paging s is =
      same_head made.pairs made.sign false NoPaginate
      (ap (λ m. m.pairs) so_far ∙ no_pair ss NoPaginate refl)
      (ap (λ m. m.sign) so_far ∙ kept keeps_signature ss NoPaginate refl)
      (lost keeps_paging ss NoPaginate refl)
      ∙ ap (λ t. head_with (ss ++ t ∷ []) service operation wait tail) (sym is)
