-- What a link of scripts holds and goes by.
use Rattle.std.specs.Prelude.{ℕ, Bool, Option, List}
use Rattle.aws_world.specs.declared.talk.Script.{Script}
use Rattle.aws_world.specs.declared.talk.Talk.{Talk}
use Rattle.aws_world.specs.declared.script_link.ScriptLink.{ScriptLink}
use Rattle.aws_world.specs.declared.connection.Connection.{Connection}
use Rattle.aws_world.specs.ConnectionLog.{told_of}

abbrev pub connections_told : ScriptLink → Option (List Connection)
connections_told link = told_of link.log

-- the scripts of the connections still to be made
abbrev pub scripts_left : ScriptLink → List Script
scripts_left link = link.scripts.items

abbrev pub piece_of : ScriptLink → ℕ
piece_of link = link.piece

-- the live connection, if there is one
abbrev pub talk_of : ScriptLink → Option Talk
talk_of link = link.talk

abbrev pub is_heard : ScriptLink → Bool
is_heard link = link.heard

abbrev pub faults_of : ScriptLink → ℕ
faults_of link = link.faults
