-- The clients of a queue that was just made.
use Rattle.std.proofs.Common.{◌≡◌, ◌∙◌, ℕ, ◌+◌, ◌<◌, ◌≤◌, List, [], ◌∷◌, length, refl, arith}
use Rattle.std.specs.Prelude.{remove, slice_index_or}
use Rattle.std.proofs.lemmas.List.Elements.{All-get_or}
use Rattle.std.proofs.lemmas.Option.{slice_get-get_or}
use Rattle.atomic_table.specs.Seated.{TableId}
use Rattle.conductor.specs.Parties.{AreFirst, AreFresh, ClientSeen, fresh_client}

-- the one at a place has that number, and nothing of it was accepted
pub client_is : (q : TableId) (k : ℕ) (cs : List ClientSeen) (c : ClientSeen) → AreFirst q 8 cs → AreFresh cs → k < 8 → c ≡ slice_index_or cs k c → c ≡ fresh_client q k
client_is q k cs c first new low is =
    let inside : k < length cs = let many = first.many in omega arith in
    let there = slice_get-get_or cs k c inside in
    is ∙ (λ i. record {
      queue = All-get_or (λ (x : ClientSeen). x.queue ≡ q) cs k c inside first.same_queue i;
      number = first.numbers k _ there i;
      accepted = new k _ there i;
    })

front_stays : (cs : List ClientSeen) (c : ClientSeen) → length cs ≡ 8 → slice_index_or (remove cs 1) 0 c ≡ slice_index_or cs 0 c
front_stays [] c many = absurd (omega (arith, many))
front_stays (x ∷ []) c many = absurd (omega (arith, many))
front_stays (x ∷ y ∷ cs) c many = refl

-- the first one, once the second one is taken out
pub front_is : (q : TableId) (cs more : List ClientSeen) (c : ClientSeen) → AreFirst q 8 cs → AreFresh cs → more ≡ remove cs 1 → c ≡ slice_index_or more 0 c → c ≡ fresh_client q 0
front_is q cs more c first new e is = client_is q 0 cs c first new (omega arith) (is ∙ (λ i. slice_index_or (e i) 0 c) ∙ front_stays cs c first.many)
