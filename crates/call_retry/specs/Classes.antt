-- What an outcome means for a retry: botocore's `retryhandler.py` and its table `_retry.json`.
use Rattle.std.specs.Prelude.{ℕ, Bool, ◌||◌, ◌==◌, if◌then◌else◌, List, Option, None, Some, bytes_eq, codes}
use Rattle.aws_world.specs.declared.link.LinkFault.{LinkFault}
use Rattle.aws_world.specs.declared.link.LinkFault.TheVariants.{Timeout}
use Rattle.http_reply.specs.declared.outcome.Outcome.{Outcome}
use Rattle.http_reply.specs.declared.outcome.Outcome.TheVariants as outcome
use Rattle.resp_parser.specs.declared.fault.ServiceError.{ServiceError}
use Rattle.call_retry.specs.declared.class.Class.{Class}
use Rattle.call_retry.specs.declared.class.Class.TheVariants.{Good, Final, Again}
use Rattle.call_retry.specs.declared.call_end.CallEnd.{CallEnd}
use Rattle.call_retry.specs.declared.call_end.CallEnd.TheVariants as end

-- the service failed, and may answer later
abbrev pub is_retried_status : ℕ → Bool
is_retried_status status = status == 500 || status == 502 || status == 503 || status == 504

-- the request came too late, or while another was worked on
abbrev pub is_conflict : List ℕ → Bool
is_conflict code =
    bytes_eq code (codes "RequestTimeout") || bytes_eq code (codes "RequestTimeoutException")
    || bytes_eq code (codes "PriorRequestNotComplete") || bytes_eq code (codes "TransactionInProgressException")

-- requests come too fast
abbrev pub is_throttling : List ℕ → Bool
is_throttling code =
    bytes_eq code (codes "Throttling") || bytes_eq code (codes "ThrottlingException")
    || bytes_eq code (codes "ThrottledException") || bytes_eq code (codes "RequestThrottledException")
    || bytes_eq code (codes "RequestThrottled") || bytes_eq code (codes "EC2ThrottledException")
    || bytes_eq code (codes "TooManyRequestsException") || bytes_eq code (codes "SlowDown")

-- a limit was passed
abbrev pub is_over_limit : List ℕ → Bool
is_over_limit code =
    bytes_eq code (codes "ProvisionedThroughputExceededException") || bytes_eq code (codes "RequestLimitExceeded")
    || bytes_eq code (codes "BandwidthLimitExceeded") || bytes_eq code (codes "LimitExceededException")

abbrev pub is_retried_code : List ℕ → Bool
is_retried_code code = is_conflict code || is_throttling code || is_over_limit code

-- an error of the service
abbrev pub class_of_error : ServiceError → Class
class_of_error e = if is_retried_status e.status || is_retried_code e.code then Again 5 else Final

-- a connection that was lost: silence costs more
abbrev pub class_of_loss : LinkFault → Class
class_of_loss Timeout = Again 10
class_of_loss others = Again 5

-- a whole reply
abbrev pub class_of_reply : Option ServiceError → Class
class_of_reply None = Good
class_of_reply (Some e) = class_of_error e

-- an outcome, with the error that its reply tells of
abbrev pub class_of : Outcome → Option ServiceError → Class
class_of (outcome.Whole reply) error = class_of_reply error
class_of (outcome.Lost fault) error = class_of_loss fault
class_of outcome.Cut error = Again 5
class_of others error = Final

-- what an attempt comes to, read as a whole: a reply that gives no document, and no error of the service, is final
abbrev pub class_at : CallEnd → Class
class_at (end.Answer doc status) = Good
class_at (end.Service e) = class_of_error e
class_at (end.Lost fault) = class_of_loss fault
class_at end.Cut = Again 5
class_at others = Final
