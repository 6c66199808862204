use Rattle.gateway_core.proofs.laws.what_opening_means.Goals as goal

pub returns-clause-setup : goal.returns-clause-setup
returns-clause-setup c = λ setup g opens. opens.0

pub returns-clause-stands : goal.returns-clause-stands
returns-clause-stands c = λ setup g opens. opens.1

pub returns-clause-refused : goal.returns-clause-refused
returns-clause-refused c = λ setup fault opens. opens

pub returns-clause-faulty : goal.returns-clause-faulty
returns-clause-faulty c = λ fault result opens. opens
