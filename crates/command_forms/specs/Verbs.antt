-- The verbs that are served (RFC 3435, 2.3), one a row: the codes of the parameters that each must have, and of those
-- that it may have; which wildcard its name may have; and whether it asks for a report or for a deed, of what it reports,
-- and what a deed does with connections. Every verb may have K besides.
use Rattle.std.specs.Prelude.{ℕ, codes, List, [], Option, Some, None}
use Rattle.mgcp_text.specs.declared.message.Verb.{Verb}
use Rattle.mgcp_text.specs.declared.message.Verb.TheVariants.{Epcf, Rqnt, Ntfy, Crcx, Mdcx, Dlcx, Auep, Aucx, Rsip, Other}
use Rattle.command_forms.specs.declared.verbs.Connecting.TheVariants.{Keeps, Creates, Modifies, Deletes}
use Rattle.command_forms.specs.declared.verbs.Purpose.{Purpose}
use Rattle.command_forms.specs.declared.verbs.Purpose.TheVariants.{ForReport, ForDeed}
use Rattle.command_forms.specs.declared.verbs.Reporting.TheVariants.{Endpoint, Connection}
use Rattle.command_forms.specs.declared.verbs.VerbRow.{VerbRow}
use Rattle.command_forms.specs.declared.verbs.Wildcard.{Wildcard}
use Rattle.command_forms.specs.declared.verbs.Wildcard.TheVariants.{Never, All, AllWithoutItems, AllWithoutCall, Any}

-- a row; each code is one letter
abbrev pub row : List ℕ → List ℕ → Wildcard → Purpose → Option VerbRow
row must may wildcard purpose = Some (record { must = must; may = may; wildcard = wildcard; purpose = purpose })

-- the table
abbrev pub row_of : Verb → Option VerbRow
row_of Epcf = row [] (codes "B") All (ForDeed Keeps)
row_of Rqnt = row (codes "X") (codes "NBRSDTQ") All (ForDeed Keeps)
row_of Crcx = row (codes "CM") (codes "NBLXRSDTQ") Any (ForDeed Creates)
row_of Mdcx = row (codes "CI") (codes "NBMLXRSDTQ") Never (ForDeed Modifies)
row_of Dlcx = row [] (codes "CINBXRSDTQ") AllWithoutCall (ForDeed Deletes)
row_of Auep = row [] (codes "F") AllWithoutItems (ForReport Endpoint)
row_of Aucx = row (codes "I") (codes "F") Never (ForReport Connection)
row_of Ntfy = None
row_of Rsip = None
row_of Other = None
