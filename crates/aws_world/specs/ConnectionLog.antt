-- The connections that a log keeps. The log is a part of the link of scripts, whose own contracts alone cite it.
use Rattle.std.specs.Prelude.{if◌then◌else◌, Option, Some, None, List}
use Rattle.aws_world.specs.declared.link.LinkFault.{LinkFault}
use Rattle.aws_world.specs.declared.connection_log.ConnectionLog.{ConnectionLog}
use Rattle.aws_world.specs.declared.connection.Connection.{Connection}

abbrev pub with_fault : Option LinkFault → Connection → Connection
with_fault why c = record c { fault = why }

-- the connections, where the log tells them
abbrev pub told_of : ConnectionLog → Option (List Connection)
told_of log = if log.tells then Some log.kept.items else None
