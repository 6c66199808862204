use Rattle.live_gateway.proofs.arriving.read_address.Goals as goal

pub returns : goal.returns
returns c = record {
  four = rw (c.octets_of-octets.ensures.value, c.ip.ensures) at c.octets_of-octets.ensures.four;
  each = rw (c.octets_of-octets.ensures.value, c.ip.ensures) at c.octets_of-octets.ensures.each;
  high = rw (c.port_of-port.ensures.value) at c.port_of-port.ensures.high;
}
