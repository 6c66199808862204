-- The fields that what is read goes with: no browser keeps it, guesses another kind, or shows it in another's frame.
use Rattle.std.specs.Prelude.{ℕ, codes, List, [], ◌∷◌, ◌++◌}
use Rattle.http1.specs.Fields.{Header}
use Rattle.page_server.specs.declared.fields.Content.{Content}
use Rattle.page_server.specs.declared.fields.Content.TheVariants as contents
use Rattle.page_http.specs.declared.route.Route.{Route}
use Rattle.page_http.specs.declared.route.Route.TheVariants.{Page, Style, Script, State, Metrics, Health, Ready, Events, Phone, Nothing}

-- the kind of content (RFC 9110, 8.3; RFC 8259, 11; Prometheus' text format, version 0.0.4)
abbrev pub kind_of : Content → List ℕ
kind_of contents.Page = codes "text/html; charset=utf-8"
kind_of contents.Style = codes "text/css; charset=utf-8"
kind_of contents.Script = codes "text/javascript; charset=utf-8"
kind_of contents.Json = codes "application/json"
kind_of contents.Metrics = codes "text/plain; version=0.0.4; charset=utf-8"
kind_of contents.Plain = codes "text/plain; charset=utf-8"

-- the page may use its own style, script and questions, and stands in no other's frame (Content Security Policy, 3)
unfoldable pub policy : List ℕ
policy =
    codes "default-src 'none'; style-src 'self'; script-src 'self'; connect-src 'self'; img-src data:; "
    ++ codes "base-uri 'none'; form-action 'none'; frame-ancestors 'none'"

-- the kind, which no browser guesses, of what none keeps
abbrev pub kept_fields : Content → List Header
kept_fields content =
    (codes "content-type", kind_of content) ∷ (codes "cache-control", codes "no-store")
    ∷ (codes "x-content-type-options", codes "nosniff") ∷ []

-- what a browser may make of it: it shows it in no other's frame, and tells nobody of it
abbrev pub frame_fields : List Header
frame_fields = (codes "x-frame-options", codes "DENY") ∷ (codes "referrer-policy", codes "no-referrer") ∷ []

abbrev pub guard_fields : List Header
guard_fields = frame_fields ++ (codes "content-security-policy", policy) ∷ []

abbrev pub kind_fields : Content → List Header
kind_fields content = kept_fields content ++ guard_fields

-- what is read at a route goes with these
abbrev pub fields_at : Route → List Header
fields_at Page = kind_fields contents.Page
fields_at Style = kind_fields contents.Style
fields_at Script = kind_fields contents.Script
fields_at State = kind_fields contents.Json
fields_at Metrics = kind_fields contents.Metrics
fields_at Health = kind_fields contents.Plain
fields_at Ready = kind_fields contents.Plain
fields_at (Events after) = kind_fields contents.Json
fields_at Phone = []
fields_at Nothing = []
