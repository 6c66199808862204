use Rattle.std.proofs.Common.{◌≡◌, ◌++◌, ◌/◌, ◌%◌, ◌∙◌, refl}
use Rattle.log_format.specs.Octets.{four_octets}
use Rattle.log_format.proofs.FileLemmas.{head_is}
use Rattle.log_format.proofs.file.put_record_head.Goals as goal

pub returns : goal.returns
returns c =
    let out = c.args.out.now in
    let built : c.put_number-4.new.out
    ≡ (((out ++ four_octets (c.args.moment / 1000000)) ++ four_octets (c.args.moment % 1000000)) ++ four_octets c.args.total) ++ four_octets c.args.total =
    rw (c.put_number-4.ensures, c.put_number-3.ensures, c.put_number-2.ensures, c.put_number.ensures) refl in
    built ∙ head_is out c.args.moment c.args.total
