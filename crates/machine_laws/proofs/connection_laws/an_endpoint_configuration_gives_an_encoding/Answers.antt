use Rattle.machine_laws.proofs.EncodingLaws.{encoding_alone, encoding_taken}
use Rattle.machine_laws.proofs.connection_laws.an_endpoint_configuration_gives_an_encoding.Goals as goal

pub returns-clause-alone : goal.returns-clause-alone
returns-clause-alone c = encoding_alone

pub returns-clause-taken : goal.returns-clause-taken
returns-clause-taken c = encoding_taken
