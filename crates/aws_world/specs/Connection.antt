-- The connections that a link has made, and how the last of them grows.
use Rattle.std.specs.Prelude.{ℕ, true, false, None, Some, List, [], ◌∷◌, ◌++◌}
use Rattle.aws_world.specs.declared.link.LinkFault.{LinkFault}
use Rattle.aws_world.specs.declared.connection.Connection.{Connection}

-- a connection that was just made
abbrev pub fresh : List ℕ → ℕ → Connection
fresh to_host to_port = record {
  host = to_host;
  port = to_port;
  sent = [];
  received = [];
  ended = false;
  fault = None;
}

-- a connection that was refused
abbrev pub refused : LinkFault → List ℕ → ℕ → Connection
refused why to_host to_port = record {
  host = to_host;
  port = to_port;
  sent = [];
  received = [];
  ended = false;
  fault = Some why;
}

-- the list with a change of its last item
abbrev pub on_last : {A : Type 0} → (A → A) → List A → List A
on_last step [] = []
on_last step (x ∷ []) = step x ∷ []
on_last step (x ∷ (y ∷ ys)) = x ∷ on_last step (y ∷ ys)

abbrev pub more_sent : List ℕ → Connection → Connection
more_sent bytes c = record c { sent = c.sent ++ bytes }

abbrev pub more_received : List ℕ → Connection → Connection
more_received bytes c = record c { received = c.received ++ bytes }

abbrev pub peer_ended : Connection → Connection
peer_ended c = record c { ended = true }

abbrev pub faulted : LinkFault → Connection → Connection
faulted why c = record c { fault = Some why }
