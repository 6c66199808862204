-- Who types.
use Rattle.std.specs.Prelude.{Bool, ◌&&◌, not, if◌then◌else◌}
use Rattle.telephone_control.specs.declared.telephones.Typist.{Typist}
use Rattle.telephone_control.specs.declared.telephones.Typist.TheVariants.{Here, Elsewhere, Stranger}

-- somebody at this machine; somebody at another one, where the telephones are open, or nobody, as the page; or a stranger
abbrev pub typist_of : Bool → Bool → Bool → Typist
typist_of is_here is_afar are_open =
    if is_here then Here else if is_afar && not are_open then Stranger else Elsewhere
