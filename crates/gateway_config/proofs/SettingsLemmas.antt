-- Settings of which one key is the first that is lacking, and whole ones.
use Rattle.std.proofs.Common.{◌≡◌, ℕ, List, Option, Some, None, refl, sym}
use Rattle.std.specs.Prelude.{codes}
use Rattle.std.specs.declared.net.ipv4_addr.Ipv4Addr.{Ipv4Addr}
use Rattle.toml.specs.Data.{Members}
use Rattle.rgw_scripts.specs.Configuration.{Settings, text_at, number_at, address_at, names_at, settings_of}

pub lacks_domain : (keys : Members) → None ≡ text_at (codes "domain") keys → None ≡ settings_of keys
unfolding settings_of
lacks_domain keys none = rw (sym none) refl

pub lacks_lines : (keys : Members) (domain : List ℕ) → Some domain ≡ text_at (codes "domain") keys → None ≡ number_at (codes "lines") keys → None ≡ settings_of keys
unfolding settings_of
lacks_lines keys domain is_0 none = rw (sym is_0, sym none) refl

pub lacks_agent : (keys : Members) (domain : List ℕ) (lines : ℕ) → Some domain ≡ text_at (codes "domain") keys → Some lines ≡ number_at (codes "lines") keys → None ≡ text_at (codes "agent") keys → None ≡ settings_of keys
unfolding settings_of
lacks_agent keys domain lines is_0 is_1 none = rw (sym is_0, sym is_1, sym none) refl

pub lacks_restart_wait : (keys : Members) (domain : List ℕ) (lines : ℕ) (agent : List ℕ) → Some domain ≡ text_at (codes "domain") keys → Some lines ≡ number_at (codes "lines") keys → Some agent ≡ text_at (codes "agent") keys → None ≡ number_at (codes "restart_wait") keys → None ≡ settings_of keys
unfolding settings_of
lacks_restart_wait keys domain lines agent is_0 is_1 is_2 none = rw (sym is_0, sym is_1, sym is_2, sym none) refl

pub lacks_disconnected_wait : (keys : Members) (domain : List ℕ) (lines : ℕ) (agent : List ℕ) (restart_wait : ℕ) → Some domain ≡ text_at (codes "domain") keys → Some lines ≡ number_at (codes "lines") keys → Some agent ≡ text_at (codes "agent") keys → Some restart_wait ≡ number_at (codes "restart_wait") keys → None ≡ number_at (codes "disconnected_wait") keys → None ≡ settings_of keys
unfolding settings_of
lacks_disconnected_wait keys domain lines agent restart_wait is_0 is_1 is_2 is_3 none = rw (sym is_0, sym is_1, sym is_2, sym is_3, sym none) refl

pub lacks_media_address : (keys : Members) (domain : List ℕ) (lines : ℕ) (agent : List ℕ) (restart_wait : ℕ) (disconnected_wait : ℕ) → Some domain ≡ text_at (codes "domain") keys → Some lines ≡ number_at (codes "lines") keys → Some agent ≡ text_at (codes "agent") keys → Some restart_wait ≡ number_at (codes "restart_wait") keys → Some disconnected_wait ≡ number_at (codes "disconnected_wait") keys → None ≡ address_at (codes "media_address") keys → None ≡ settings_of keys
unfolding settings_of
lacks_media_address keys domain lines agent restart_wait disconnected_wait is_0 is_1 is_2 is_3 is_4 none = rw (sym is_0, sym is_1, sym is_2, sym is_3, sym is_4, sym none) refl

pub lacks_media_base : (keys : Members) (domain : List ℕ) (lines : ℕ) (agent : List ℕ) (restart_wait : ℕ) (disconnected_wait : ℕ) (media_address : Ipv4Addr) → Some domain ≡ text_at (codes "domain") keys → Some lines ≡ number_at (codes "lines") keys → Some agent ≡ text_at (codes "agent") keys → Some restart_wait ≡ number_at (codes "restart_wait") keys → Some disconnected_wait ≡ number_at (codes "disconnected_wait") keys → Some media_address ≡ address_at (codes "media_address") keys → None ≡ number_at (codes "media_base") keys → None ≡ settings_of keys
unfolding settings_of
lacks_media_base keys domain lines agent restart_wait disconnected_wait media_address is_0 is_1 is_2 is_3 is_4 is_5 none = rw (sym is_0, sym is_1, sym is_2, sym is_3, sym is_4, sym is_5, sym none) refl

pub lacks_hosts : (keys : Members) (domain : List ℕ) (lines : ℕ) (agent : List ℕ) (restart_wait : ℕ) (disconnected_wait : ℕ) (media_address : Ipv4Addr) (media_base : ℕ) → Some domain ≡ text_at (codes "domain") keys → Some lines ≡ number_at (codes "lines") keys → Some agent ≡ text_at (codes "agent") keys → Some restart_wait ≡ number_at (codes "restart_wait") keys → Some disconnected_wait ≡ number_at (codes "disconnected_wait") keys → Some media_address ≡ address_at (codes "media_address") keys → Some media_base ≡ number_at (codes "media_base") keys → None ≡ names_at keys → None ≡ settings_of keys
unfolding settings_of
lacks_hosts keys domain lines agent restart_wait disconnected_wait media_address media_base is_0 is_1 is_2 is_3 is_4 is_5 is_6 none = rw (sym is_0, sym is_1, sym is_2, sym is_3, sym is_4, sym is_5, sym is_6, sym none) refl

pub has_all : (keys : Members) (domain : List ℕ) (lines : ℕ) (agent : List ℕ) (restart_wait : ℕ) (disconnected_wait : ℕ) (media_address : Ipv4Addr) (media_base : ℕ) (hosts : Members) → Some domain ≡ text_at (codes "domain") keys → Some lines ≡ number_at (codes "lines") keys → Some agent ≡ text_at (codes "agent") keys → Some restart_wait ≡ number_at (codes "restart_wait") keys → Some disconnected_wait ≡ number_at (codes "disconnected_wait") keys → Some media_address ≡ address_at (codes "media_address") keys → Some media_base ≡ number_at (codes "media_base") keys → Some hosts ≡ names_at keys → Some (record { domain = domain; lines = lines; agent = agent; restart_wait = restart_wait; disconnected_wait = disconnected_wait; media_address = media_address; media_base = media_base; hosts = hosts }) ≡ settings_of keys
unfolding settings_of
has_all keys domain lines agent restart_wait disconnected_wait media_address media_base hosts is_0 is_1 is_2 is_3 is_4 is_5 is_6 is_7 = rw (sym is_0, sym is_1, sym is_2, sym is_3, sym is_4, sym is_5, sym is_6, sym is_7) refl
