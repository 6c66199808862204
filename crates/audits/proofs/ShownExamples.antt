-- The endpoints of the worked examples can be shown.
use Rattle.std.proofs.Common.{[], ◌∷◌, refl, lit≤}
use Rattle.sdp_subset.specs.Writing.{IsSession}
use Rattle.connections.specs.Example.{line, with_one, cut_connection, offering}
use Rattle.audits.specs.Example.{opening, lifted, after_request, calling}
use Rattle.audits.specs.Showing.{IsShowableConnection, HasStreams, IsShowable}
use Rattle.audits.proofs.Computing.{on_examples}

line_streams : HasStreams line
line_streams = record { four = refl; each = (lit≤ tt, (lit≤ tt, (lit≤ tt, (lit≤ tt, tt)))); ports = lit≤ tt }

one_streams : HasStreams (with_one cut_connection)
one_streams = record { four = refl; each = (lit≤ tt, (lit≤ tt, (lit≤ tt, (lit≤ tt, tt)))); ports = lit≤ tt }

remote_is : IsSession (offering (8 ∷ []))
unfolding on_examples
remote_is = record { four = refl; each = (lit≤ tt, (lit≤ tt, (lit≤ tt, (lit≤ tt, tt)))); low = lit≤ tt; types = refl }

cut_is : IsShowableConnection cut_connection
unfolding on_examples
cut_is = record { call = refl; remote = remote_is }

pub opening_is : IsShowable opening
unfolding on_examples
opening_is = record {
  entity_blankless = refl;
  entity_in_line = refl;
  identifier = refl;
  map = refl;
  requested = refl;
  streams = line_streams;
  places = (tt, (tt, (tt, (tt, tt))));
}

pub lifted_is : IsShowable lifted
unfolding on_examples
lifted_is = record {
  entity_blankless = refl;
  entity_in_line = refl;
  identifier = refl;
  map = refl;
  requested = refl;
  streams = line_streams;
  places = (tt, (tt, (tt, (tt, tt))));
}

pub after_request_is : IsShowable after_request
unfolding on_examples
after_request_is = record {
  entity_blankless = refl;
  entity_in_line = refl;
  identifier = refl;
  map = refl;
  requested = refl;
  streams = line_streams;
  places = (tt, (tt, (tt, (tt, tt))));
}

pub calling_is : IsShowable (calling cut_connection)
unfolding on_examples
calling_is = record {
  entity_blankless = refl;
  entity_in_line = refl;
  identifier = refl;
  map = refl;
  requested = refl;
  streams = one_streams;
  places = (cut_is, (tt, (tt, (tt, tt))));
}
