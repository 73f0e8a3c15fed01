-- Rows: when a stream was heard, when it is cut off, and when nothing of it is lost.
use Rattle.std.proofs.Common.{◌≡◌, ◌⊎◌, ◌&&◌, inl, inr, not, ℕ, ℤ, Bool, Option, None, Some, pos, true, false, refl, sym, ◌∙◌, true≢false}
use Rattle.options.specs.declared.ends.plans.SubscribePlan.{SubscribePlan}
use Rattle.peer.specs.declared.farewell.StreamEnd.{StreamEnd}
use Rattle.receiver.specs.Lives.{heard_in}
use Rattle.subscriber.specs.Cuts.{is_uncut}
use Rattle.subscriber.specs.Followers.{IsGreatestEnd, IsHeard, names_above}
use Rattle.subscriber.specs.Images.{first_cut}
use Rattle.subscriber.specs.Living.{HasWritten, IsUnlost, Life}
use Rattle.subscriber.specs.Standing.{has_all_up_to, is_broken_end, is_broken_off, is_whole}
use Rattle.subscriber.specs.declared.images.CutOff.{CutOff}
use Rattle.subscriber.specs.declared.images.Loss.{Loss}
use Rattle.subscriber.specs.declared.images.session.Session.{Session}
use Rattle.subscriber.specs.declared.images.session.Stand.{Stand}
use Rattle.theory.specs.Position.{Geometry}
use Rattle.theory.specs.Wire.{Header}

-- ---- a heartbeat shows a stream where it lies above the join, and not at it

abbrev shape : Geometry
shape = record { term_length = 65536; mtu = 1408; initial_term_id = pos 7 }

abbrev at : ℕ → Header
at offset = record { term_offset = offset; session = pos 1; stream = pos 1001; term_id = pos 7; reserved = pos 0 }

at_the_join : names_above shape 64 (at 64) ≡ false
at_the_join = refl

above_the_join : names_above shape 64 (at 96) ≡ true
above_the_join = refl

-- ---- what is cut off

abbrev cut_at : ℤ → ℕ → CutOff
cut_at session position = record { session = session; position = position }

-- the first one stays, whatever comes later
first_stays : first_cut (Some (cut_at (pos 7) 64)) true (cut_at (pos 8) 128) ≡ Some (cut_at (pos 7) 64)
first_stays = refl

stays_behind_a_whole_one : first_cut (Some (cut_at (pos 7) 64)) false (cut_at (pos 8) 128) ≡ Some (cut_at (pos 7) 64)
stays_behind_a_whole_one = refl

later_cut : first_cut None true (cut_at (pos 8) 128) ≡ Some (cut_at (pos 8) 128)
later_cut = refl

-- one that was never heard may be closed, and one that was heard may not before its end was told
unheard_uncut : (j : Session) (x : Stand) → j.lost ≡ false → j.follower.heard ≡ false → is_uncut j x None ≡ true
unheard_uncut j x lost heard = cc

unended : (e : Option StreamEnd) (rebuilt place : ℕ) → e ≡ None → (has_all_up_to e rebuilt place && not (is_broken_end e)) ≡ false
unended None rebuilt place is = refl
unended (Some e) rebuilt place is = absurd (let so = is in cc)

heard_cut : (j : Session) (x : Stand) → j.follower.heard ≡ true → x.end ≡ None → is_uncut j x None ≡ false
heard_cut j x heard none = by_lost j.lost refl
  where
    by_lost : (b : Bool) → j.lost ≡ b → is_uncut j x None ≡ false
    by_lost true is = cc
    by_lost false is = let u = unended x.end x.rebuilt x.place none in cc

-- what was told as lost is cut off, whatever comes then
lost_cut : (j : Session) (x : Stand) → j.lost ≡ true → is_uncut j x None ≡ false
lost_cut j x lost = cc

-- ---- a stream that is whole, and one that is broken off

abbrev ends_there : ℕ → Bool → Stand
ends_there place broken = record { place = place; rebuilt = 96; end = Some (record { position = 96; broken = broken }) }

whole_there : is_whole (ends_there 96 false) ≡ true
whole_there = refl

broken_off_is_not_whole : is_whole (ends_there 96 true) ≡ false
broken_off_is_not_whole = refl

broken_off_there : is_broken_off (ends_there 96 true) ≡ true
broken_off_there = refl

not_yet_broken_off : is_broken_off (ends_there 64 true) ≡ false
not_yet_broken_off = refl

-- ---- an image of which nothing is lost

-- one behind which something is missing isn't one
missing_is_lost : (plan : SubscribePlan) (l : Life) (loss : Loss) → l.loss ≡ Some loss → IsUnlost plan l → ⊥
missing_is_lost plan l loss some h = let none = h.none in cc

-- one that was heard, and whose datagrams told no end, isn't one
unended_is_lost : (plan : SubscribePlan) (l : Life) → IsHeard l.opening plan.end.stream (heard_in l.acts) → IsGreatestEnd l.opening.session plan.end.stream (heard_in l.acts) None → IsUnlost plan l → ⊥
unended_is_lost plan l heard none h = by_end h.ended
  where
    by_told : (w : HasWritten plan l h.last) (e : Option StreamEnd) → w.end ≡ e → IsGreatestEnd l.opening.session plan.end.stream (heard_in l.acts) e → ⊥
    by_told w None is told = true≢false (sym w.whole ∙ unended w.stand.end w.stand.rebuilt w.stand.place (w.stands.told ∙ is))
    by_told w (Some e) is told = none told.one told.told

    by_end : (IsHeard l.opening plan.end.stream (heard_in l.acts) → ⊥) ⊎ HasWritten plan l h.last → ⊥
    by_end (inl never) = never heard
    by_end (inr w) = by_told w w.end refl w.told
