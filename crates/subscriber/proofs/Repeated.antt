-- Steps of a repeater that has noted a status message at the moment 0.
use Rattle.std.proofs.Common.{◌≡◌, Option, None, Some, subst, arith}
use Rattle.subscriber.specs.Repeats.{Repeating, Steps, holding}
use Rattle.subscriber.specs.Statuses.{Sent}
use Rattle.subscriber.specs.declared.images.session_device.StatusNews.TheVariants as news

-- 299,999,999 ns later it sends nothing
waits : (s : Sent) (sent : Option Sent) (t : Repeating) → Steps 299999999 None (holding s 0) sent t → sent ≡ None
waits s sent t step = (step.early (λ due. absurd (omega (arith, due)))).0

-- 300 ms later that very message
repeats : (s : Sent) (sent : Option Sent) (t : Repeating) → Steps 300000000 None (holding s 0) sent t → sent ≡ Some s
repeats s sent t step = (step.due (omega arith)).0

-- and not again at once, but 300 ms behind that
waits_again : (s : Sent) (sent later : Option Sent) (t u : Repeating) → Steps 300000000 None (holding s 0) sent t → Steps 599999999 None t later u → later ≡ None
waits_again s sent later t u step then =
    let next = subst (λ (r : Repeating). Steps 599999999 None r later u) (step.due (omega arith)).1 then in
    (next.early (λ due. absurd (omega (arith, due)))).0

-- a newer message isn't sent again at once, however late it comes
newer_waits : (s n : Sent) (sent : Option Sent) (t : Repeating) → Steps 900000000 (Some (news.Sent n)) (holding s 0) sent t → sent ≡ None
newer_waits s n sent t step = step.0

-- behind a cleared one nothing is sent
forgets : (s : Sent) (sent later : Option Sent) (t u : Repeating) → Steps 1 (Some news.Cleared) (holding s 0) sent t → Steps 900000000 None t later u → later ≡ None
forgets s sent later t u step then = (subst (λ (r : Repeating). Steps 900000000 None r later u) step.1 then).0
