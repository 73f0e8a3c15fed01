-- A worked script that meets the premises, and what its polls then are: term length 65536, MTU 1408, first term 7, session 1,
-- stream 1001.
use Rattle.std.specs.Prelude.{◌≡◌, ℕ, List, [], ◌∷◌, ◌++◌}
use Rattle.std.proofs.Common.{ap, refl, ◌∙◌}
use Rattle.theory.specs.Bytes.{bytes_of}
use Rattle.theory.specs.Control.{setup_at}
use Rattle.theory.specs.Placed.{Data}
use Rattle.theory.specs.Wire.{spelling}
use Rattle.theory.proofs.Rows.{abc, identity, the_geometry}
use Rattle.image.specs.declared.answer.Insert.TheVariants as answers
use Rattle.receiver.specs.declared.receiver_core.Outcome.TheVariants as outcomes
use Rattle.script.specs.Meaning as commands
use Rattle.script_meaning.specs.LineContents.{Bad, Claimed, Done, LineContent, Message, NoMessage, OfReceiver, Packet, Position, Positions}
use Rattle.script_meaning.specs.Published.{AllHonest, AllWhole, LastTold, Played, PolledNothing, PolledTo, between, joins, polled, published}
use Rattle.script_meaning.specs.Premises.{HasNoRaw, IsUnrefused}
use Rattle.script_meaning.proofs.Premises.{honest_without_raw, whole_unrefused}

-- an offer, one by its size, and a claim that is committed; a SETUP and their frames go out, and reach receiver 1; it polls them,
-- and receiver 2 has no image
abbrev played : List Played
played =
    record { command = commands.Connect; lines = Done ∷ [] }
    ∷ record { command = commands.Offer 0 abc; lines = Position 64 ∷ [] }
    ∷ record { command = commands.OfferSize 1 2; lines = Position 128 ∷ [] }
    ∷ record { command = commands.Claim 0 4; lines = Claimed 128 192 ∷ [] }
    ∷ record { command = commands.Commit 0; lines = Position 192 ∷ [] }
    ∷ record { command = commands.Send 0; lines = Packet 0 (spelling (setup_at identity 0)) ∷ [] }
    ∷ record { command = commands.Deliver 0 1 0; lines = OfReceiver (outcomes.Opened 0) ∷ [] }
    ∷ record { command = commands.Send 1; lines = Packet 1 (bytes_of identity (record { at = 0; frame = Data 192 abc })) ∷ [] }
    ∷ record { command = commands.Deliver 1 1 1; lines = OfReceiver (outcomes.Inserted answers.Stored) ∷ [] }
    ∷ record { command = commands.Poll 2; lines = Bad ∷ [] }
    ∷ record { command = commands.Poll 1; lines = Message abc ∷ [] }
    ∷ record { command = commands.Poll 1; lines = Message (97 ∷ 97 ∷ []) ∷ [] }
    ∷ record { command = commands.Poll 1; lines = Message (97 ∷ 97 ∷ 97 ∷ 97 ∷ []) ∷ [] }
    ∷ record { command = commands.Poll 1; lines = NoMessage ∷ [] }
    ∷ record { command = commands.Image 1; lines = Positions 192 192 192 ∷ [] }
    ∷ []

no_raw : HasNoRaw played
no_raw = (refl, (refl, (refl, (refl, (refl, (refl, (refl, (refl, (refl, (refl, (refl, (refl, (refl, (refl, (refl, tt)))))))))))))))

unrefused : IsUnrefused played
unrefused = ((refl, tt), ((refl, tt), ((refl, tt), ((refl, tt), ((refl, tt), ((refl, tt), ((refl, tt), ((refl, tt), ((refl, tt), ((refl, tt), ((refl, tt), ((refl, tt), ((refl, tt), ((refl, tt), ((refl, tt), tt)))))))))))))))

-- it meets the premises at each receiver
honest : (i : ℕ) → AllHonest i played
honest i = honest_without_raw i played no_raw

whole : (i : ℕ) → AllWhole i played
whole i = whole_unrefused i played unrefused

-- what was published, what receiver 1 has polled, and where it joined
published_row : between 0 192 (published the_geometry played) ≡ abc ∷ (97 ∷ 97 ∷ []) ∷ (97 ∷ 97 ∷ 97 ∷ 97 ∷ []) ∷ []
published_row = refl

-- the messages from 64 on, and up to 128
part_row : (between 64 192 (published the_geometry played) ∷ between 0 128 (published the_geometry played) ∷ []) ≡ ((97 ∷ 97 ∷ []) ∷ (97 ∷ 97 ∷ 97 ∷ 97 ∷ []) ∷ []) ∷ (abc ∷ (97 ∷ 97 ∷ []) ∷ []) ∷ []
part_row = refl

polled_row : (polled 1 played ∷ polled 2 played ∷ []) ≡ (abc ∷ (97 ∷ 97 ∷ []) ∷ (97 ∷ 97 ∷ 97 ∷ 97 ∷ []) ∷ []) ∷ [] ∷ []
polled_row = refl

joins_row : (joins 1 played ∷ joins 2 played ∷ []) ≡ (0 ∷ []) ∷ [] ∷ []
joins_row = refl

-- ---- and so it is what is said of its polls

abbrev last_of : Played → List Played → Played
last_of p [] = p
last_of p (q ∷ qs) = last_of q qs

last_is : (p : Played) (before : List Played) (q : Played) → last_of p (before ++ q ∷ []) ≡ q
last_is p [] q = refl
last_is p (r ∷ before) q = last_is r before q

abbrev least_in : List LineContent → ℕ
least_in (Positions least rebuilt high ∷ lines) = least
least_in lines = 0

told : (least : ℕ) → LastTold 1 least played → 192 ≡ least
told least t =
    let p : Played = record { command = commands.Connect; lines = [] } in
    ap (λ (ps : List Played). least_in (last_of p ps).lines) t.3 ∙ ap (λ (q : Played). least_in q.lines) (last_is p t.0 (record { command = commands.Image 1; lines = Positions least t.1 t.2 ∷ [] }))

polled_to : PolledTo the_geometry 1 played
polled_to = (0, 192, refl, refl, told)

polled_nothing : PolledNothing 2 played
polled_nothing = (refl, refl)

-- ---- what it isn't: a receiver that polled a message has polled something, and one of which an image opened isn't without one

not_nothing : PolledNothing 1 played → ⊥
not_nothing n = let e : 0 ∷ [] ≡ [] = n.0 in absurd (cc)
