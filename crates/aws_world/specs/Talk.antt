-- What a script makes of a connection. A connection in the making is a part of the link of scripts, whose own
-- contracts alone cite it.
use Rattle.std.specs.Prelude.{ℕ, ◌-◌, ◌==◌, if◌then◌else◌, Option, Some, None, Result, Ok, Err, List, [], ◌∷◌, length, drop, min}
use Rattle.aws_world.specs.declared.link.LinkFault.{LinkFault}
use Rattle.aws_world.specs.declared.link.LinkFault.TheVariants.{Connect}
use Rattle.aws_world.specs.declared.talk.Script.{Script}
use Rattle.aws_world.specs.declared.talk.Talk.{Talk}

-- the start of a script
abbrev pub start_of : Script → Talk
start_of script = record {
  stop_send = script.stop_send;
  reply = script.reply;
  given = 0;
  after = script.after;
}

-- what a script begins, where it doesn't refuse
abbrev pub begun_by : Script → Option LinkFault → Result Talk LinkFault
begun_by script None = Ok (start_of script)
begun_by script (Some fault) = Err fault

-- what the next script begins; where the scripts have run out, nothing can be connected to
abbrev pub next_talk : List Script → Result Talk LinkFault
next_talk [] = Err Connect
next_talk (script ∷ scripts) = begun_by script script.refuse

-- how many of so many bytes are taken
abbrev pub sending : Option (ℕ × LinkFault) → ℕ → Result ℕ LinkFault
sending None offered = Ok offered
sending (Some stop) offered = if stop.0 == 0 then Err stop.1 else Ok (min stop.0 offered)

-- so many fewer bytes are still taken
abbrev pub less_taken : ℕ → Option (ℕ × LinkFault) → Option (ℕ × LinkFault)
less_taken count None = None
less_taken count (Some stop) = Some (stop.0 - count, stop.1)

-- the part of the reply that wasn't given yet
abbrev pub reply_left : Talk → List ℕ
reply_left talk = drop talk.given talk.reply

-- what follows the reply: the end, which is no bytes, or a fault
abbrev pub after_reply : Option LinkFault → Result ℕ LinkFault
after_reply None = Ok 0
after_reply (Some fault) = Err fault

-- how many bytes are received, of at most so many
abbrev pub receiving : ℕ → Talk → Result ℕ LinkFault
receiving most talk = if length (reply_left talk) == 0 then after_reply talk.after else Ok (min most (length (reply_left talk)))
