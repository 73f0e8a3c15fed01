-- Rows: when a subscriber is behind, in which turns that is judged, what is lacking, and what is missing between images.
use Rattle.std.proofs.Common.{◌≡◌, None, pos, negsuc, true, false, refl, arith}
use Rattle.subscriber.specs.Images.{first_image, loss_between, next_images}
use Rattle.subscriber.specs.Standing.{lies_above}
use Rattle.subscriber.specs.Watches.{IsBehind, IsSilent, JudgesEach, Seen, attending, beginning, hearing, judging, keeping, looking, noting}

-- a nanosecond before ten seconds it isn't behind, and then it is
not_yet : (s : Seen) → s.moment ≡ 12000000000 → s.kept ≡ 2000000001 → IsBehind s → ⊥
not_yet s now kept b = let long = b.long in omega (arith, long, now, kept)

behind_now : (s : Seen) → s.moment ≡ 12000000000 → s.kept ≡ 2000000000 → s.heard ≡ 11000000001 → IsBehind s
behind_now s now kept heard = record { long = omega (arith, now, kept); heard = omega (arith, now, heard) }

-- one that wasn't heard for a second isn't behind, so one that is silent never is
unheard : (s : Seen) → s.moment ≡ 12000000000 → s.heard ≡ 11000000000 → IsBehind s → ⊥
unheard s now heard b = let last = b.heard in omega (arith, last, now, heard)

never_both : (s : Seen) → IsBehind s → IsSilent s → ⊥
never_both s b silent = let last = b.heard in omega (arith, last, silent)

-- a second without it, and the time in which something is lacking begins anew; less than a second doesn't
anew : (hearing (record (beginning 0) { moment = 1000000000 })).kept ≡ 1000000000
anew = refl

goes_on : (hearing (record (beginning 0) { moment = 999999999 })).kept ≡ 0
goes_on = refl

-- time in which it didn't look at the clock is none
unseen : (looking (record (beginning 0) { moment = 5 }) 20000000005).kept ≡ 20000000000
unseen = refl

kept_now : (keeping (record (beginning 0) { moment = 7 })).kept ≡ 7
kept_now = refl

-- two turns, in each of which it was noted and judged; a third that begins, and in which neither was
judged_twice : JudgesEach (judging (noting false (looking (attending (judging (noting true (looking (beginning 0) 5)))) 9)))
judged_twice = refl

third_unjudged : JudgesEach (noting true (looking (judging (noting false (looking (attending (judging (noting true (looking (beginning 0) 5)))) 9))) 12)) → ⊥
third_unjudged h = omega (arith, h)

-- a turn that judged and didn't note what is lacking, or noted that in the turn before
unnoted : JudgesEach (judging (looking (beginning 0) 5)) → ⊥
unnoted h = omega (arith, h)

noted_before : JudgesEach (judging (looking (judging (noting true (looking (beginning 0) 5))) 9)) → ⊥
noted_before h = omega (arith, h)

-- one that only attended
attended_only : JudgesEach (attending (noting true (looking (beginning 0) 5))) → ⊥
attended_only h = omega (arith, h)

-- nothing is lacking at the moment, or something still is
noted_whole : (noting true (record (beginning 0) { moment = 7 })).kept ≡ 7
noted_whole = refl

noted_behind : (noting false (record (beginning 0) { moment = 7 })).kept ≡ 0
noted_behind = refl

-- a frame at what is rebuilt, or below it, lies above nothing; one before the first term neither
at_it : lies_above (pos 64) 64 ≡ false
at_it = refl

above_it : lies_above (pos 65) 64 ≡ true
above_it = refl

before_all : lies_above (negsuc 0) 0 ≡ false
before_all = refl

-- images
second : next_images (first_image 0) (loss_between 64 4096) None ≡ record { number = 1; missing = 4032; cut = None }
second = refl

unlost : next_images (first_image 0) (loss_between 64 64) None ≡ record { number = 1; missing = 0; cut = None }
unlost = refl

third : next_images (next_images (first_image 0) (loss_between 64 4096) None) (loss_between 5000 5001) None ≡ record { number = 2; missing = 4033; cut = None }
third = refl

-- those of another place have numbers of their own
second_place : next_images (first_image 1) (loss_between 64 4096) None ≡ record { number = 1152921504606846977; missing = 4032; cut = None }
second_place = refl
