-- The return codes of this gateway's profile (RFC 3435, 2.4).
use Rattle.std.specs.Prelude.{ℕ, ◌==◌, codes, List, find, Option}
use Rattle.mg_bytes.specs.declared.return_code.TheConstants.{RETURN_CODES}
use Rattle.mg_bytes.specs.declared.return_code.ReturnCode.{ReturnCode}
use Rattle.mg_bytes.specs.declared.return_code.ReturnCode.TheVariants.{ResponseAcknowledgement, Executed, ConnectionDeleted, AlreadyOffHook, AlreadyOnHook, Restarting, NoEndpointAvailable, UnknownEndpoint, InsufficientResources, WildcardTooComplicated, UnsupportedCommand, UnsupportedHandling, RemoteDescriptionError, ProtocolError, UnrecognizedExtension, UnsupportedEvent, UnsupportedSignal, IncorrectConnection, UnknownCall, UnsupportedMode, UnknownPackage, NoDigitMap, Redirected, NoSuchEventOrSignal, IllegalActions, MissingRemoteDescription, IncompatibleVersion, ResponseTooLarge, CodecNegotiationFailure, UnsupportedPacketTime, EventParameterError, UnsupportedParameter, TooManyConnections, UnsupportedConnectionOptions}

-- its number
abbrev pub number_of : ReturnCode → ℕ
number_of ResponseAcknowledgement = 0
number_of Executed = 200
number_of ConnectionDeleted = 250
number_of AlreadyOffHook = 401
number_of AlreadyOnHook = 402
number_of Restarting = 405
number_of NoEndpointAvailable = 410
number_of UnknownEndpoint = 500
number_of InsufficientResources = 502
number_of WildcardTooComplicated = 503
number_of UnsupportedCommand = 504
number_of UnsupportedHandling = 508
number_of RemoteDescriptionError = 509
number_of ProtocolError = 510
number_of UnrecognizedExtension = 511
number_of UnsupportedEvent = 512
number_of UnsupportedSignal = 513
number_of IncorrectConnection = 515
number_of UnknownCall = 516
number_of UnsupportedMode = 517
number_of UnknownPackage = 518
number_of NoDigitMap = 519
number_of Redirected = 521
number_of NoSuchEventOrSignal = 522
number_of IllegalActions = 523
number_of MissingRemoteDescription = 527
number_of IncompatibleVersion = 528
number_of ResponseTooLarge = 533
number_of CodecNegotiationFailure = 534
number_of UnsupportedPacketTime = 535
number_of EventParameterError = 538
number_of UnsupportedParameter = 539
number_of TooManyConnections = 540
number_of UnsupportedConnectionOptions = 541

-- what the standard says of it, as a phrase
unfoldable pub words_of : ReturnCode → List ℕ
words_of ResponseAcknowledgement = codes "response acknowledgement"
words_of Executed = codes "executed normally"
words_of ConnectionDeleted = codes "connection deleted"
words_of AlreadyOffHook = codes "the phone is already off hook"
words_of AlreadyOnHook = codes "the phone is already on hook"
words_of Restarting = codes "the endpoint is restarting"
words_of NoEndpointAvailable = codes "no endpoint available"
words_of UnknownEndpoint = codes "the endpoint is unknown"
words_of InsufficientResources = codes "insufficient resources"
words_of WildcardTooComplicated = codes "wildcard too complicated"
words_of UnsupportedCommand = codes "unknown or unsupported command"
words_of UnsupportedHandling = codes "unknown or unsupported quarantine handling"
words_of RemoteDescriptionError = codes "error in remote connection descriptor"
words_of ProtocolError = codes "protocol error"
words_of UnrecognizedExtension = codes "unrecognized extension"
words_of UnsupportedEvent = codes "not equipped to detect a requested event"
words_of UnsupportedSignal = codes "not equipped to generate a requested signal"
words_of IncorrectConnection = codes "incorrect connection-id"
words_of UnknownCall = codes "unknown or incorrect call-id"
words_of UnsupportedMode = codes "unsupported or invalid mode"
words_of UnknownPackage = codes "unsupported or unknown package"
words_of NoDigitMap = codes "no digit map"
words_of Redirected = codes "redirected to another call agent"
words_of NoSuchEventOrSignal = codes "no such event or signal"
words_of IllegalActions = codes "unknown action or illegal combination of actions"
words_of MissingRemoteDescription = codes "missing remote connection descriptor"
words_of IncompatibleVersion = codes "incompatible protocol version"
words_of ResponseTooLarge = codes "response too large"
words_of CodecNegotiationFailure = codes "codec negotiation failure"
words_of UnsupportedPacketTime = codes "packetization period not supported"
words_of EventParameterError = codes "event or signal parameter error"
words_of UnsupportedParameter = codes "invalid or unsupported command parameter"
words_of TooManyConnections = codes "per endpoint connection limit exceeded"
words_of UnsupportedConnectionOptions = codes "invalid or unsupported local connection options"

-- the code with a number, if there is one
unfoldable pub code_with : ℕ → Option ReturnCode
code_with number = find (λ code. number_of code == number) RETURN_CODES
