-- Rows: when an image gives way to a SETUP.
use Rattle.std.proofs.Common.{◌≡◌, ℕ, IsTrue, inl, inr, arith}
use Rattle.subscriber.specs.Offers.{peer_of}
use Rattle.subscriber.specs.Watches.{IsBehind}
use Rattle.subscriber.specs.declared.images.session.Session.{Session}
use Rattle.subscriber.specs.declared.listening.setup_offer.SetupOffer.{SetupOffer}
use Rattle.subscriber.specs.Turning.{GivesWay, IsAgain, IsAhead, IsNext}

-- of an ended session its own SETUP, from its own peer, however silent it is
its_own : (m : SetupOffer) (rebuilt : ℕ) (j : Session) → IsTrue j.ended → m.opening.session ≡ j.opening.session → m.from ≡ peer_of j.duty.device → GivesWay m rebuilt j → ⊥
its_own m rebuilt j ended session from (inl (so, inl other)) = other session
its_own m rebuilt j ended session from (inl (so, inr other)) = other from
its_own m rebuilt j ended session from (inr (going, silent)) = going ended

-- one of another session, however little time has gone by
another_session : (m : SetupOffer) (rebuilt : ℕ) (j : Session) → IsTrue j.ended → (m.opening.session ≡ j.opening.session → ⊥) → GivesWay m rebuilt j
another_session m rebuilt j ended other = inl (ended, inl other)

-- one of its session that another sent
another_sender : (m : SetupOffer) (rebuilt : ℕ) (j : Session) → IsTrue j.ended → (m.from ≡ peer_of j.duty.device → ⊥) → GivesWay m rebuilt j
another_sender m rebuilt j ended other = inl (ended, inr other)

-- one that hasn't ended, a nanosecond before it is silent, gives way to no other's, and then to any
not_yet : (m : SetupOffer) (rebuilt : ℕ) (j : Session) → (IsTrue j.ended → ⊥) → j.watch.moment ≡ 12000000000 → j.watch.heard ≡ 2000000001 → IsNext m j → GivesWay m rebuilt j → ⊥
not_yet m rebuilt j going now heard other (inl (ended, next)) = going ended
not_yet m rebuilt j going now heard other (inr (same, inl silent)) = omega (arith, silent, now, heard)
not_yet m rebuilt j going now heard other (inr (same, inr (behind, ahead))) = ahead.peer other

silent_now : (m : SetupOffer) (rebuilt : ℕ) (j : Session) → (IsTrue j.ended → ⊥) → j.watch.moment ≡ 12000000000 → j.watch.heard ≡ 2000000000 → GivesWay m rebuilt j
silent_now m rebuilt j going now heard = inr (going, inl (omega (arith, now, heard)))

-- an ended session never goes on by a SETUP
never_again : (m : SetupOffer) (rebuilt : ℕ) (j : Session) → IsTrue j.ended → IsAgain m rebuilt j → ⊥
never_again m rebuilt j ended again = again.going ended

-- what an image lacks doesn't come: its own SETUP above what is rebuilt takes the place, and the image doesn't go on by it
left_behind : (m : SetupOffer) (rebuilt : ℕ) (j : Session) → (IsTrue j.ended → ⊥) → IsBehind j.watch → IsAhead m rebuilt j → GivesWay m rebuilt j
left_behind m rebuilt j going behind ahead = inr (going, inr (behind, ahead))

not_again : (m : SetupOffer) (rebuilt : ℕ) (j : Session) → IsBehind j.watch → IsAgain m rebuilt j → ⊥
not_again m rebuilt j behind again = let last = behind.heard in let silent = again.silent in omega (arith, last, silent)

-- one that tells what is rebuilt, an older one, doesn't
older : (m : SetupOffer) (rebuilt : ℕ) (j : Session) → (IsTrue j.ended → ⊥) → IsBehind j.watch → m.opening.position ≡ rebuilt → GivesWay m rebuilt j → ⊥
older m rebuilt j going behind at (inl (ended, next)) = going ended
older m rebuilt j going behind at (inr (same, inl silent)) = let last = behind.heard in omega (arith, last, silent)
older m rebuilt j going behind at (inr (same, inr (left, ahead))) = let above = ahead.ahead in omega (arith, above, at)
