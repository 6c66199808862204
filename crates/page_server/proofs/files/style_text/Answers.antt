use Rattle.std.proofs.Common.{refl}
use Rattle.page_server.proofs.files.style_text.Goals as goal

pub returns : goal.returns
returns c = refl
