-- The faults of texts that are no JSON.
use Rattle.std.proofs.Common.{◌≡◌, ℕ, List, ◌⊎◌, inl, inr, Err, refl, sym, subst, ◌∙◌}
use Rattle.std.specs.Prelude.{encode_utf8_all}
use Rattle.json_doc.specs.declared.read_fault.ReadFault.{ReadFault}
use Rattle.json_doc.specs.declared.read_fault.ReadFault.TheVariants.{OutOfMemory as no_memory}
use Rattle.json_doc.specs.Faults.{HasFault}
use Rattle.texts.specs.Calls.{Unless}
use Rattle.shape_values.specs.declared.fault.ArgFault.{ArgFault}
use Rattle.shape_values.specs.declared.fault.ValueKind.TheVariants.{Json}
use Rattle.shape_values.specs.Faults.{is_memory, here}
use Rattle.shape_values.specs.TextValues.{IsDocument, offset_of}

-- the fault of a text is that of its bytes
pub refused : (text bytes : List ℕ) (f g : ReadFault) (e : ArgFault) → bytes ≡ encode_utf8_all text → f ≡ g → (f ≡ no_memory) ⊎ HasFault bytes f → (g ≡ no_memory → ⊥)
    → e ≡ here (Json (offset_of g)) → Unless (is_memory e) (IsDocument text (Err e))
refused text bytes f g e same is (inl none) some due = absurd (some (sym is ∙ none))
refused text bytes f g e same is (inr has) some due =
    let fault = subst (HasFault (encode_utf8_all text)) is (subst (λ bs. HasFault bs f) same has) in
    subst (λ x. Unless (is_memory x) (IsDocument text (Err x))) (sym due) (Err (offset_of g), (g, fault, refl), refl)
