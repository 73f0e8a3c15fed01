-- Rows: when a publisher to several begins with those that were heard.
use Rattle.std.proofs.Common.{◌≡◌, true, false, refl}
use Rattle.publisher.specs.Destinations.{begins_now}

-- behind the wait, with one that was heard
waited : begins_now false 4 4 1 0 ≡ true
waited = refl

-- once
once : begins_now true 4 9 1 0 ≡ false
once = refl

-- not before it has waited so long, nor with nobody, nor with more than can be a group
before : begins_now false 4 3 1 0 ≡ false
before = refl

nobody : begins_now false 4 9 0 0 ≡ false
nobody = refl

too_many : begins_now false 4 9 9 0 ≡ false
too_many = refl
