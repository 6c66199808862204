use Rattle.std.proofs.Common.{inl, inr, refl, ap}
use Rattle.rgwd_words.specs.declared.ending.Ending.{Ending}
use Rattle.rgwd_words.specs.Statuses.{status_of}
use Rattle.rgwd_words.proofs.examples.what_is_opened_has_examples.Goals as goal

pub returns-clause-unrefused : goal.returns-clause-unrefused
returns-clause-unrefused c = λ fault refuses. refuses

pub returns-clause-no_list : goal.returns-clause-no_list
returns-clause-no_list c = λ text refuses. elim refuses [
  | inl memory ↦ absurd (cc memory)
  | inr bad ↦ bad.1
]

pub returns-clause-other_fault : goal.returns-clause-other_fault
returns-clause-other_fault c = λ text refuses. elim refuses [
  | inl memory ↦ cc memory
  | inr bad ↦ cc bad.0
]

pub returns-clause-unsaid : goal.returns-clause-unsaid
returns-clause-unsaid c = λ memory. cc memory

pub returns-clause-no_speakers : goal.returns-clause-no_speakers
returns-clause-no_speakers c = λ text refuses. elim refuses [
  | inl memory ↦ absurd (cc memory)
  | inr bad ↦ bad.1
]

pub returns-clause-no_hosts : goal.returns-clause-no_hosts
returns-clause-no_hosts c = λ text refuses. elim refuses [
  | inl memory ↦ cc memory
  | inr bad ↦ cc bad.0
]

pub returns-clause-anywhere : goal.returns-clause-anywhere
returns-clause-anywhere c = λ socket here media tells. tells.0

pub returns-clause-somewhere : goal.returns-clause-somewhere
returns-clause-somewhere c = λ socket here media tells. tells.1

pub returns-clause-port : goal.returns-clause-port
returns-clause-port c = λ socket here media tells. tells.2

pub returns-clause-own : goal.returns-clause-own
returns-clause-own c = λ own wanted here media tells. tells.0

pub returns-clause-wanted : goal.returns-clause-wanted
returns-clause-wanted c = λ own wanted here media tells. tells.1

pub returns-clause-silent : goal.returns-clause-silent
returns-clause-silent c = λ address ending is. ap (λ (e : Ending). status_of e) is

pub returns-clause-clock : goal.returns-clause-clock
returns-clause-clock c = λ address ending is. ap (λ (e : Ending). status_of e) is

pub returns-clause-no_socket : goal.returns-clause-no_socket
returns-clause-no_socket c = λ address kind ending other is. ap (λ (e : Ending). status_of e) (is.1 other)

pub returns-clause-no_memory : goal.returns-clause-no_memory
returns-clause-no_memory c = λ address ending is. ap (λ (e : Ending). status_of e) (is.0 refl)
