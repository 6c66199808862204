-- What an object holds that is put together of its members.
use Rattle.std.specs.Prelude.{◌≡◌, false}
use Rattle.serde_json.specs.Data.{Members}
use Rattle.serde_json.specs.View.{members_view}
use Rattle.page_http.specs.declared.members.Object.{Object}

-- these members, unless memory was refused for one
abbrev pub Holds : Object → Members → Type 0
Holds object members = object.is_refused ≡ false → members_view object.map.entries ≡ members
