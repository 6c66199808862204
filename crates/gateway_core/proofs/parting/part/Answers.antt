use Rattle.std.proofs.Common.{◌≡◌, ℕ, List, [], ◌∷◌, ◌++◌, length, map, refl, sym, ap, ◌∙◌, append_assoc}
use Rattle.plain_machine.specs.declared.label.OutMessage.{OutMessage}
use Rattle.gateway_core.specs.declared.sent.SentMessage.{SentMessage}
use Rattle.gateway_core.specs.Labelling.{told_of}
use Rattle.gateway_core.proofs.parting.part.Goals as goal

-- what is made of the next message is put, and what is made of those behind it is left
moved : {Y : Type 0} (of : OutMessage → Y) (front next whole : List Y) (left rest : List OutMessage) (message : OutMessage) (made : Y)
    → left ≡ message ∷ rest → made ≡ of message → next ≡ front ++ made ∷ []
    → front ++ map of left ≡ whole → next ++ map of rest ≡ whole
moved of front next whole left rest message made steps is put so_far =
    ap (λ behind. behind ++ map of rest) put
    ∙ append_assoc front (made ∷ []) (map of rest)
    ∙ ap (λ one. front ++ (one ∷ map of rest)) is
    ∙ ap (λ messages. front ++ map of messages) (sym steps)
    ∙ so_far

pub loop-message-preserved : goal.loop-message-preserved
loop-message-preserved c = record {
  datagrams = moved (λ (message : OutMessage). message.datagram) _ _ _ _ _ _ _ c.in-Some.ensures.steps.0 refl c.in_ok-push-2.ensures.items
      c.loop-message.invariant.datagrams;
  told = moved told_of _ _ _ _ _ c.in-Some.message _ c.in-Some.ensures.steps.0
      (ap (λ (bytes : List ℕ). let told : SentMessage = record (told_of c.in-Some.message) { size = length bytes } in told) c.as_bytes.ensures)
      c.in_ok-push.ensures.items c.loop-message.invariant.told;
}
