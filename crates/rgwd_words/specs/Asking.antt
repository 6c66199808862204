-- What stands behind the words of the command line, and what they ask for by that.
use Rattle.std.specs.Prelude.{◌≡◌, ℕ, codes, is_some, List, Option, None, Some, Ok, option_map}
use Rattle.std.specs.Result.{result_ok}
use Rattle.std.specs.declared.net.socket_addr.SocketAddrV4.{SocketAddrV4}
use Rattle.impairment.specs.Parts.{spoiling_of}
use Rattle.impairment.specs.declared.spoiling.Spoiling.{Spoiling}
use Rattle.clap.specs.Matches.{first_value, one_text}
use Rattle.clap.specs.declared.parser.matches.Found.{Found}
use Rattle.live_system.specs.Values.{IsBehind, IsMoment, IsRead, SaysFlag}
use Rattle.live_system.specs.Addresses.{IsAddress}
use Rattle.traces.specs.Words.{first_in, spread_in}
use Rattle.rgwd_words.specs.declared.words.Settings.{Settings}
use Rattle.rgwd_words.specs.declared.words.Sockets.{Sockets}
use Rattle.rgwd_words.specs.Parting.{parting_of}

-- the sockets are here where no word says another place: no other machine reaches them
abbrev pub usual_listen : List ℕ
usual_listen = codes "127.0.0.1:2427"

abbrev pub usual_phones : List ℕ
usual_phones = codes "127.0.0.1:2428"

-- the address that a text behind a word says, or this one where nothing stands there
abbrev pub IsAt : List ℕ → Option (List ℕ) → SocketAddrV4 → Type 0
IsAt usual None address = IsAddress usual address
IsAt usual (Some text) address = IsAddress text address

-- how a network spoils datagrams, as a text says it, if it does
abbrev pub spoiling_read : List ℕ → Option Spoiling
spoiling_read text = result_ok (spoiling_of text)

-- which sockets words ask for, and who is heard there: whom they say, and other machines' telephones where they say so
pub record AsksSockets (found : Found) (sockets : Sockets) : Type 0 where
  pub listen : IsAt usual_listen (first_value found (codes "listen")) sockets.listen
  pub phones : IsAt usual_phones (first_value found (codes "phones")) sockets.phones
  pub agents : first_value found (codes "agents") ≡ option_map (λ text. text.now) sockets.agents
  pub is_open : SaysFlag (one_text found (codes "phones-open")) sockets.phones_open
  pub site : IsBehind (first_value found (codes "http")) sockets.http
  pub hosts : first_value found (codes "http-host") ≡ option_map (λ text. text.now) sockets.http_hosts

-- what words ask for
pub record Asks (found : Found) (settings : Settings) : Type 0 where
  pub config : first_value found (codes "config") ≡ Some settings.config.now
  pub check : SaysFlag (one_text found (codes "check")) settings.check
  pub sockets : AsksSockets found settings.sockets
  pub trace : SaysFlag (one_text found (codes "trace")) settings.trace
  pub log : SaysFlag (one_text found (codes "log")) settings.log
  pub capture : first_value found (codes "capture") ≡ option_map (λ name. name.now) settings.capture
  pub parted : parting_of (is_some (first_value found (codes "capture"))) (first_value found (codes "capture-size"))
      (first_value found (codes "capture-files")) ≡ Ok settings.parting
  pub spoilt : IsRead spoiling_read (first_value found (codes "network")) settings.network
  pub begins : IsRead first_in (first_value found (codes "first")) settings.first
  pub waits : IsRead spread_in (first_value found (codes "spread")) settings.spread
  pub ends : IsMoment (one_text found (codes "stop-after")) settings.stop_after
