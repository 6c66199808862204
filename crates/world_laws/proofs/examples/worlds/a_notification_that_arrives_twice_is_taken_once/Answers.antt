use Rattle.std.proofs.Common.{◌≡◌, ℕ, List, [], ◌∷◌, ◌++◌, codes, refl, sym, ap, ◌∙◌}
use Rattle.world_laws.specs.Example.{audited, lifted, texts_in}
use Rattle.world_laws.proofs.Computing.{on_examples}
use Rattle.world_laws.proofs.examples.worlds.a_notification_that_arrives_twice_is_taken_once.Goals as goal

-- the texts of two worlds are compared with these, since to compare them with each other is dear
abbrev of_audit : List (List ℕ)
of_audit =
    codes "RSIP 1 *@rgw.example.net MGCP 1.0\r\nRM: restart\r\n" ∷ codes "200 1 OK\r\n" ∷ codes "AUEP 1 aaln/1@rgw.example.net MGCP 1.0\r\n" ∷ codes "200 1 OK\r\n" ∷ codes "200 1 OK\r\n" ∷ []

abbrev behind_it : List (List ℕ)
behind_it =
    codes "NTFY 10000000 aaln/1@rgw.example.net MGCP 1.0\r\nX: 0\r\nO: L/hd\r\n" ∷ codes "200 10000000 OK\r\n" ∷ codes "200 10000000 OK\r\n" ∷ []

pub returns : goal.returns
unfolding on_examples
returns c = record {
  taken = refl;
  packets =
      (let was : texts_in audited ≡ of_audit = refl in let is : texts_in lifted ≡ of_audit ++ behind_it = refl in
      is ∙ sym (ap (λ (texts : List (List ℕ)). texts ++ behind_it) was));
  line = refl;
  other_line = refl;
  behind = refl;
  last = refl;
}
