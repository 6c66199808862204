-- What all lines of a gateway have together.
use Rattle.std.specs.Prelude.{if◌then◌else◌, List, length, fold}
use Rattle.page_state.specs.declared.picture.LineView.{LineView}
use Rattle.page_state.specs.declared.picture.Totals.{Totals}
use Rattle.page_state.specs.Sums.{sum_within}

abbrev pub no_totals : Totals
no_totals = record { off_hook = 0; connections = 0; lost = 0 }

-- a line counts too
abbrev pub with_line : Totals → LineView → Totals
with_line totals line = record {
  off_hook = if line.is_off_hook then sum_within totals.off_hook 1 else totals.off_hook;
  connections = sum_within totals.connections (length line.connections.items);
  lost = sum_within totals.lost line.lost;
}

abbrev pub totals_of : List LineView → Totals
totals_of lines = fold with_line no_totals lines
