-- One thing at most is due of words, environment and files.
use Rattle.std.proofs.Common.{◌≡◌, ℕ, List, Option, None, Some, Result, sym, ap, ◌∙◌}
use Rattle.aws_main.specs.declared.asking.Asked.{Asked}
use Rattle.aws_main.specs.declared.causes.Unread.{Unread}
use Rattle.aws_main.specs.declared.planning.Planned.{Planned}
use Rattle.aws_main.specs.Due.{due_of, IsDueFor, IsDue}
use Rattle.aws_main.specs.Words.{asked_of}
use Rattle.model_store.specs.Folders.{Held, folders_of}
use Rattle.model_store.proofs.OneDue.{one_model_due}

one_due_for : (asked : Option Asked) (env files : Held) (a b : Result Planned Unread) → IsDueFor asked env (Some files) a → IsDueFor asked env (Some files) b → a ≡ b
one_due_for None env files a b p q = p ∙ sym q
one_due_for (Some asked) env files a b p q = p.2 ∙ ap (due_of asked) (one_model_due files (folders_of env) asked.service p.0 q.0 p.1 q.1) ∙ sym q.2

pub one_due : (words : List (List ℕ)) (env files : Held) (a b : Result Planned Unread) → IsDue words env (Some files) a → IsDue words env (Some files) b → a ≡ b
one_due words env files a b p q = one_due_for (asked_of words) env files a b p q
