use Rattle.std.proofs.Common.{◌≡◌, drop, fold}
use Rattle.serde_json.specs.Data.{no_members}
use Rattle.serde_json.specs.View.{members_view}
use Rattle.page_http.specs.Texts.{with_verb}
use Rattle.page_http.proofs.state.commands_value.Given as goal

abbrev pub invariant-loop-count : goal.invariant-loop-count
invariant-loop-count l = fold with_verb (members_view l.map.entries) (drop l.count-index l.commands) ≡ fold with_verb no_members l.commands
