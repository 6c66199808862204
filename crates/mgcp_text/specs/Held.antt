-- Bytes that are borrowed, or owned.
use Rattle.std.specs.Prelude.{ℕ, List}
use Rattle.mgcp_text.specs.declared.bytes.Held.{Held}
use Rattle.mgcp_text.specs.declared.bytes.Held.TheVariants.{Borrowed, Owned}

abbrev pub bytes_in : Held → List ℕ
bytes_in (Borrowed slice) = slice.now
bytes_in (Owned text) = text
