-- A message has one signed form at a moment.
use Rattle.std.specs.Prelude.{◌≡◌, ℤ}
use Rattle.aws_world.specs.declared.message.Message.{Message}
use Rattle.sigv4.specs.declared.signer.Signer.{Signer}
use Rattle.sigv4.specs.Signature.{IsSigned}

abbrev pub HasOneSignedForm : Type 0
HasOneSignedForm =
    (message : Message) (signer : Signer) (now : ℤ) (a b : Message)
    → IsSigned message signer now a → IsSigned message signer now b → a ≡ b
